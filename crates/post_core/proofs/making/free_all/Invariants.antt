use Rattle.std.proofs.Common.{vec_len}
use Rattle.std.specs.Prelude.{All}
use Rattle.post_core.specs.Ending.{IsIdle}
use Rattle.post_core.proofs.making.free_all.Given as goal

abbrev pub invariant-loop-ring : goal.invariant-loop-ring
invariant-loop-ring g l = All (λ x. IsIdle x) l.rings.items

abbrev pub decreases-loop-ring : goal.decreases-loop-ring
decreases-loop-ring g l = vec_len l.rings
