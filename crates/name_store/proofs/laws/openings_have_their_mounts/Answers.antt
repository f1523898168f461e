use Rattle.name_store.proofs.EntryLemmas.{opening_mounts}
use Rattle.name_store.proofs.laws.openings_have_their_mounts.Goals as goal

pub returns : goal.returns
returns c = opening_mounts
