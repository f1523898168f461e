use Rattle.cell_tests.specs.Runners.{IsRunnerOf}
use Rattle.cell_tests.proofs.beside.step_often.Given as goal

abbrev pub invariant-loop-call : goal.invariant-loop-call
invariant-loop-call g l = IsRunnerOf l.table l.thread l.pass
