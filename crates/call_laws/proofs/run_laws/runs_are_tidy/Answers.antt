use Rattle.call_laws.proofs.TidyRuns.{runs_are_tidy}
use Rattle.call_laws.proofs.run_laws.runs_are_tidy.Goals as goal

pub returns : goal.returns
returns c = runs_are_tidy
