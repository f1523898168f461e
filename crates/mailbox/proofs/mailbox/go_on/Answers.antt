use Rattle.std.proofs.Common.{◌≡◌, ◌+◌, Some, None, inl, ap, sym}
use Rattle.proxy_laws.specs.declared.records.Started.{Started}
use Rattle.post_core.specs.OwnerViews.{exec_place, exec_view, owner_view}
use Rattle.post_core.specs.SendParts.{post_target}
use Rattle.post_core.specs.Views.{owner_of}
use Rattle.mailbox.specs.Boxes.{at_view}
use Rattle.mailbox.specs.Turns.{IsStartAfter, start_here}
use Rattle.mailbox.proofs.NoticeLemmas.{start_later}
use Rattle.mailbox.proofs.TurnLemmas.{run_as, run_more}
use Rattle.mailbox.proofs.mailbox.go_on.Goals as goal

pub returns-in-Emptied-clause-ran : goal.returns-in-Emptied-clause-ran
returns-in-Emptied-clause-ran g c =
    let p = exec_place c.args.exec in
    let v = exec_view c.args.exec in
    let done = c.in-Emptied.ensures.executed in
    let after = c.serve_at.ensures.ran in
    let owner = owner_view c.in-Emptied.owner in
    let left = Some (start_here p v) in
    let got = (owner_of v).got in
    let first = run_as g.R.Runner.did g.R.Runner.held (post_target c.args.post.now) (λ (s : Started). s ≡ start_here p v) (IsStartAfter left got) (λ s is. inl (ap Some (sym is))) done.2.0 c.args.runner.now c.execute_place.new.runner v owner done.2.2 in (
      done.2.0 + after.0,
      run_more g.R.Runner.did g.R.Runner.held (post_target c.args.post.now) g.met.R.Runner.did_on (IsStartAfter left got) (IsStartAfter None (owner_of owner).got) (start_later left got (owner_of owner).got done.1) done.2.0 after.0 c.args.runner.now c.execute_place.new.runner c.serve_at.new.runner v owner (at_view c.serve_at.result.0) first after.1,
    )

pub returns-in-NoMemory-clause-ran : goal.returns-in-NoMemory-clause-ran
returns-in-NoMemory-clause-ran g c =
    let p = exec_place c.args.exec in
    let v = exec_view c.args.exec in
    let done = c.in-NoMemory.ensures.executed in
    let left = Some (start_here p v) in
    let got = (owner_of v).got in (
      done.3.0,
      run_as g.R.Runner.did g.R.Runner.held (post_target c.args.post.now) (λ (s : Started). s ≡ start_here p v) (IsStartAfter left got) (λ s is. inl (ap Some (sym is))) done.3.0 c.args.runner.now c.execute_place.new.runner v (exec_view c.in-NoMemory.same) done.3.1,
    )
