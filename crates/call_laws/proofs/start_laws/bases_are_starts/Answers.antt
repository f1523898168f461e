use Rattle.call_laws.proofs.StartSteps.{bases_are_starts}
use Rattle.call_laws.proofs.start_laws.bases_are_starts.Goals as goal

pub returns : goal.returns
returns c = bases_are_starts
