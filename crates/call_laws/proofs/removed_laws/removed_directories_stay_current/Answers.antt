use Rattle.call_laws.proofs.RemovedDirectories.{removed_directories_stay_current}
use Rattle.call_laws.proofs.removed_laws.removed_directories_stay_current.Goals as goal

pub returns : goal.returns
returns c = removed_directories_stay_current
