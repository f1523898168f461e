use Rattle.call_laws.proofs.StartLemmas.{absolute_paths_start_in_the_root}
use Rattle.call_laws.proofs.start_laws.absolute_paths_start_in_the_root.Goals as goal

pub returns : goal.returns
returns c = absolute_paths_start_in_the_root
