use Rattle.std.proofs.Common.{◌≡◌, ◌≤◌, ◌*◌, length}
use Rattle.proxy_laws.specs.Maps.{sum_below}
use Rattle.proxy_model.specs.Shown.{world_of}
use Rattle.proxy_model.proofs.worlds.World.put_sum.Given as goal

abbrev pub invariant-loop-place : goal.invariant-loop-place
invariant-loop-place l = (l.sum ≡ sum_below l.place (λ p. length ((world_of l.self).sent p))) × (l.sum ≤ 18446744073709551616 * l.place)
