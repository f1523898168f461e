use Rattle.call_laws.proofs.RemovedDirectories.{removed_directories_take_nothing}
use Rattle.call_laws.proofs.removed_laws.removed_directories_take_nothing.Goals as goal

pub returns : goal.returns
returns c = removed_directories_take_nothing
