use Rattle.std.proofs.Common.{◌≡◌, ◌≤◌, ◌*◌}
use Rattle.proxy_laws.specs.Maps.{sum_below}
use Rattle.proxy_model.specs.Shown.{world_of}
use Rattle.proxy_model.proofs.worlds.World.use_sum.Given as goal

abbrev pub invariant-loop-sender : goal.invariant-loop-sender
invariant-loop-sender l = (l.sum ≡ sum_below l.sender (λ s. (world_of l.self).uses s l.place)) × (l.sum ≤ 18446744073709551616 * l.sender)
