use Rattle.std.proofs.Common.{◌≡◌, []}
use Rattle.task_ring.specs.Cells.{items_in}
use Rattle.task_ring.proofs.free_empty.Given as goal

-- the cells that are left hold nothing
abbrev pub invariant-loop-cell : goal.invariant-loop-cell
invariant-loop-cell g l = items_in l.cells.items ≡ []

abbrev pub decreases-loop-cell : goal.decreases-loop-cell
decreases-loop-cell g l = goal.left-loop-cell g l
