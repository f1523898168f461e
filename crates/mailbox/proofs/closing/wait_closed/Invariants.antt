use Rattle.std.proofs.Common.{◌≡◌}
use Rattle.post_core.specs.ClosingViews.{IsClosingOf, closing_view}
use Rattle.mailbox.specs.Turns.{jobs_in}
use Rattle.mailbox.proofs.closing.wait_closed.Given as goal

abbrev pub invariant-loop : goal.invariant-loop
invariant-loop g l = IsClosingOf l.post l.closing × (jobs_in (closing_view l.closing) ≡ jobs_in (closing_view l.fn.closing))
