use Rattle.std.proofs.Common.{sym, ap, ◌∙◌}
use Rattle.task_ring.specs.Cells.{items_in}
use Rattle.task_ring.proofs.CellsLemmas.{items_in-last}
use Rattle.task_ring.proofs.free_empty.Goals as goal

pub loop-cell-preserved : goal.loop-cell-preserved
loop-cell-preserved g c =
    (items_in-last c.pop.new.self.items c.in-Some.cell (ap items_in (sym c.in-Some.ensures.items) ∙ c.loop-cell.invariant)).0

pub unreachable-requires : goal.unreachable-requires
unreachable-requires g c =
    let empty = (items_in-last c.pop.new.self.items c.in-Some.cell (ap items_in (sym c.in-Some.ensures.items) ∙ c.loop-cell.invariant)).1 in
    cc (empty, c.in-Some-cell.is)
