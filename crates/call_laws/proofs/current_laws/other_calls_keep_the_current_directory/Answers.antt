use Rattle.call_laws.proofs.KeptDirectory.{other_calls_keep_the_current_directory}
use Rattle.call_laws.proofs.current_laws.other_calls_keep_the_current_directory.Goals as goal

pub returns : goal.returns
returns c = other_calls_keep_the_current_directory
