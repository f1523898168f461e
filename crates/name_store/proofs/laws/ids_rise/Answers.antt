use Rattle.name_store.proofs.IdLemmas.{ids_rise}
use Rattle.name_store.proofs.laws.ids_rise.Goals as goal

pub returns : goal.returns
returns c = ids_rise
