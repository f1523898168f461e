use Rattle.post_core.specs.ClosingViews.{IsClosingOf, closing_view}
use Rattle.post_tests.specs.Scenes.{HasHeld}
use Rattle.post_tests.proofs.owning.shut.Given as goal

abbrev pub invariant-loop : goal.invariant-loop
invariant-loop g l = IsClosingOf l.post l.closing × HasHeld l.fn.held (closing_view l.closing)
