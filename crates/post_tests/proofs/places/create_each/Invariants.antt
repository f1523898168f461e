use Rattle.std.proofs.Common.{◌≡◌, ◌∷◌, [], length}
use Rattle.std.specs.Prelude.{All}
use Rattle.post_core.specs.SendParts.{pass_view}
use Rattle.post_tests.specs.Scenes.{AreAllPasses, MayPut}
use Rattle.post_tests.proofs.places.create_each.Given as goal

abbrev pub invariant-loop-before : goal.invariant-loop-before
invariant-loop-before g l = AreAllPasses l.post (l.pass ∷ []) × All (λ u. MayPut l.post (pass_view l.pass) u) l.uses.items × (length l.uses.items ≡ l.before)
