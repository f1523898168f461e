use Rattle.call_laws.proofs.ListLemmas.{list_names_each_once}
use Rattle.call_laws.proofs.path_laws.list_names_each_once.Goals as goal

pub returns : goal.returns
returns c = list_names_each_once
