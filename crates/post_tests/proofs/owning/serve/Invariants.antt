use Rattle.post_core.specs.OwnerViews.{IsOwnerOf, owner_view}
use Rattle.post_core.specs.SendParts.{IsPassOf, pass_view}
use Rattle.post_tests.specs.Scenes.{HasHeld, KeepsUses}
use Rattle.post_tests.proofs.owning.serve.Given as goal

abbrev pub invariant-loop-notices : goal.invariant-loop-notices
invariant-loop-notices g l = IsOwnerOf l.post l.owner × HasHeld l.fn.held (owner_view l.owner) × IsPassOf l.post l.pass × KeepsUses (pass_view l.fn.pass) (pass_view l.pass)
