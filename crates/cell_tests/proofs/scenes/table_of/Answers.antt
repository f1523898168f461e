use Rattle.std.proofs.Common.{subst}
use Rattle.std.specs.Prelude.{IfOk}
use Rattle.turn_cell.specs.Passes.{ArePassesOf}
use Rattle.cell_tests.proofs.PassLists.{runners_of_passes}
use Rattle.cell_tests.proofs.scenes.table_of.Goals as goal

pub returns-clause-passes : goal.returns-clause-passes
returns-clause-passes g c = let made = c.expect.result in
    runners_of_passes made.0 made.1.items (subst (λ r. IfOk r (λ m. ArePassesOf m.0 m.1.items)) c.expect.ensures c.make.ensures.passes)
