use Rattle.std.proofs.Common.{◌≡◌, ℕ}
use Rattle.post_core.specs.ClosingViews.{IsClosedOf, closed_view}
use Rattle.post_core.specs.SendParts.{post_target}
use Rattle.mailbox.specs.Deeds.{Cancels, WasDone}
use Rattle.mailbox.specs.Shut.{counted_long}
use Rattle.mailbox.specs.Turns.{jobs_in}
use Rattle.mailbox.proofs.closing.cancel_waiting.Given as goal

abbrev pub invariant-loop : goal.invariant-loop
invariant-loop g l = record {
  closed : IsClosedOf l.post l.closed;
  target : g.R.Runner.target l.runner ≡ g.R.Runner.target l.initial.runner;
  done : (n : ℕ) × (l.waiting ≡ counted_long n) × WasDone g.R.Runner.did Cancels (post_target l.post) n l.initial.runner l.runner (jobs_in (closed_view l.fn.closed)) (jobs_in (closed_view l.closed)) (g.R.Runner.held l.initial.runner) (g.R.Runner.held l.runner);
}
