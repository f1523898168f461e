use Rattle.std.proofs.Common.{◌≡◌, ℕ}
use Rattle.post_core.specs.OwnerViews.{IsExecOf, exec_place, exec_view}
use Rattle.post_core.specs.SendParts.{post_target}
use Rattle.mailbox.specs.Turns.{KeepsWork, WereRun, counted, start_here}
use Rattle.mailbox.proofs.executing.execute_place.Given as goal

abbrev pub invariant-loop : goal.invariant-loop
invariant-loop g l = record {
  exec : IsExecOf l.post l.exec;
  place : exec_place l.exec ≡ exec_place l.fn.exec;
  target : g.R.Runner.target l.runner ≡ g.R.Runner.target l.initial.runner;
  keeps : KeepsWork (exec_view l.fn.exec) (exec_view l.exec);
  ran : (n : ℕ) × (l.count ≡ counted n) × WereRun g.R.Runner.did g.R.Runner.held (post_target l.post) (λ s. s ≡ start_here (exec_place l.fn.exec) (exec_view l.fn.exec)) n l.initial.runner l.runner (exec_view l.fn.exec) (exec_view l.exec);
}
