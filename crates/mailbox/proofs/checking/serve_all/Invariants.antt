use Rattle.std.proofs.Common.{◌≡◌, ℕ, ◌+◌, None}
use Rattle.post_core.specs.OwnerViews.{IsOwnerOf, owner_view}
use Rattle.post_core.specs.SendParts.{post_target}
use Rattle.post_core.specs.Views.{owner_of}
use Rattle.mailbox.specs.Turns.{IsStartAfter, WereRun, counted}
use Rattle.mailbox.proofs.checking.serve_all.Given as goal

abbrev pub invariant-loop : goal.invariant-loop
invariant-loop g l = record {
  owner : IsOwnerOf l.post l.owner;
  target : g.R.Runner.target l.runner ≡ g.R.Runner.target l.initial.runner;
  got : (k : ℕ) × (l.notices ≡ counted k) × ((owner_of (owner_view l.owner)).got ≡ (owner_of (owner_view l.fn.owner)).got + k);
  ran : (n : ℕ) × WereRun g.R.Runner.did g.R.Runner.held (post_target l.post) (IsStartAfter None (owner_of (owner_view l.fn.owner)).got) n l.initial.runner l.runner (owner_view l.fn.owner) (owner_view l.owner);
}
