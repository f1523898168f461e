use Rattle.std.proofs.Common.{ap, ◌∙◌}
use Rattle.task_ring.specs.Ring.{RingView}
use Rattle.task_ring.proofs.CellsLemmas.{items_in-empty}
use Rattle.task_ring.proofs.Ring.close.Goals as goal

pub free_empty-requires : goal.free_empty-requires
free_empty-requires g c =
    items_in-empty _ _ _ _ c.self.invariant.holds (ap (λ (r : RingView g.row.T.Denot). r.items) c.self.view_is ∙ c.requires)
