use Rattle.name_store.proofs.IdLemmas.{ids_are_new}
use Rattle.name_store.proofs.laws.ids_are_new.Goals as goal

pub returns : goal.returns
returns c = ids_are_new
