use Rattle.std.proofs.Common.{◌≡◌}
use Rattle.std.specs.Prelude.{replicate, slice_set}
use Rattle.proxy_model.proofs.worlds.opening.system_uses.Given as goal

abbrev pub invariant-loop-sender : goal.invariant-loop-sender
invariant-loop-sender l = l.rows.items ≡ replicate l.sender (slice_set (replicate l.places 0) 0 1)
