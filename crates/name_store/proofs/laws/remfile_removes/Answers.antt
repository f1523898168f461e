use Rattle.name_store.proofs.EntryLemmas.{remfile_removes}
use Rattle.name_store.proofs.laws.remfile_removes.Goals as goal

pub returns : goal.returns
returns c = remfile_removes
