use Rattle.name_store.proofs.EntryLemmas.{remdir_removes}
use Rattle.name_store.proofs.laws.remdir_removes.Goals as goal

pub returns : goal.returns
returns c = remdir_removes
