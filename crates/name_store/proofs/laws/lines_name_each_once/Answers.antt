use Rattle.name_store.proofs.Counted.{lines_are_entries}
use Rattle.name_store.proofs.laws.lines_name_each_once.Goals as goal

pub returns : goal.returns
returns c = lines_are_entries
