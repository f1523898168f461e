use Rattle.cell_tests.specs.Runners.{AreAllRunnersOf}
use Rattle.cell_tests.proofs.stamps.a_refused_step_leaves_no_gap.Given as goal

abbrev pub invariant-loop-amount : goal.invariant-loop-amount
invariant-loop-amount g l = AreAllRunnersOf l.table l.passes.items
