use Rattle.std.proofs.Common.{◌≡◌, ℕ}
use Rattle.post_core.specs.ClosingParts.{HasEmptied}
use Rattle.post_core.specs.OwnerViews.{IsEmptiedOf, emptied_view}
use Rattle.post_core.specs.SendParts.{post_places, post_target}
use Rattle.mailbox.specs.Deeds.{GivesUp, WasDone}
use Rattle.mailbox.specs.Holding.{HoldsActive}
use Rattle.mailbox.specs.Shut.{counted_long}
use Rattle.mailbox.specs.Turns.{jobs_in}
use Rattle.mailbox.proofs.closing.give_up_held.Given as goal

abbrev pub invariant-loop : goal.invariant-loop
invariant-loop g l = record {
  emptied : IsEmptiedOf l.post l.emptied × HasEmptied (emptied_view l.emptied);
  target : g.R.Runner.target l.runner ≡ g.R.Runner.target l.initial.runner;
  active : HoldsActive (post_target l.post) (post_places l.post) (jobs_in (emptied_view l.emptied)) (g.R.Runner.held l.runner);
  done : (n : ℕ) × (l.held ≡ counted_long n) × WasDone g.R.Runner.did GivesUp (post_target l.post) n l.initial.runner l.runner (jobs_in (emptied_view l.initial.emptied)) (jobs_in (emptied_view l.emptied)) (g.R.Runner.held l.initial.runner) (g.R.Runner.held l.runner);
}
