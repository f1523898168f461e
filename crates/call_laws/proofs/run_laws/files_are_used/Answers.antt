use Rattle.call_laws.proofs.UsedFiles.{files_are_used}
use Rattle.call_laws.proofs.run_laws.files_are_used.Goals as goal

pub returns : goal.returns
returns c = files_are_used
