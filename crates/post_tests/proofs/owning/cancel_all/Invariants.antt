use Rattle.post_core.specs.ClosingViews.{IsClosedOf, closed_view}
use Rattle.post_core.specs.SendParts.{IsPassOf, pass_view}
use Rattle.post_tests.specs.Scenes.{HasHeld, KeepsUses}
use Rattle.post_tests.proofs.owning.cancel_all.Given as goal

abbrev pub invariant-loop : goal.invariant-loop
invariant-loop g l = IsClosedOf l.post l.closed × HasHeld l.fn.held (closed_view l.closed) × IsPassOf l.post l.pass × KeepsUses (pass_view l.fn.pass) (pass_view l.pass)
