use Rattle.cell_tests.specs.Runners.{AreAllRunnersOf}
use Rattle.cell_tests.proofs.stamps.a_pass_that_met_a_note_draws_greater_stamps.Given as goal

abbrev pub invariant-loop-runner : goal.invariant-loop-runner
invariant-loop-runner g l = AreAllRunnersOf l.table l.passes.items
