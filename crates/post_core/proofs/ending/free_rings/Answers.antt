use Rattle.std.proofs.Common.{subst}
use Rattle.std.specs.Slots.{slots_items}
use Rattle.post_core.specs.Ending.{IsIdle}
use Rattle.post_core.proofs.Ended.{get_at}
use Rattle.post_core.proofs.ending.free_rings.Goals as goal

pub close-requires : goal.close-requires
close-requires g c = let h = get_at (slots_items c.loop-i.closed.slots) c.loop-i.i c.take.result c.take.result c.take.ensures.value in subst (λ x. IsIdle x) h.1 (c.loop-i.invariant.2 c.loop-i.i c.take.result h.0)
