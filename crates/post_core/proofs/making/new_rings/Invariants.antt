use Rattle.std.proofs.Common.{◌≡◌, ◌≤◌, [], replicate, vec_capacity}
use Rattle.post_core.proofs.making.new_rings.Given as goal

abbrev pub invariant-loop : goal.invariant-loop
invariant-loop g l = (l.rings.items ≡ replicate l.counter (record { items = []; cells = 0; first = 128 })) × (l.places ≤ vec_capacity l.rings)
