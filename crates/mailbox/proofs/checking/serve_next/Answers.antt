use Rattle.std.proofs.Common.{◌≡◌, ◌+◌, ap, sym, subst, ◌∙◌}
use Rattle.proxy_laws.specs.declared.records.Started.{Started}
use Rattle.proxy_laws.specs.declared.records.Started.TheVariants as started
use Rattle.post_core.specs.OwnerViews.{exec_place, exec_view, got_place, got_view, owner_view}
use Rattle.post_core.specs.SendParts.{HasPlace, post_target}
use Rattle.post_core.specs.Views.{owner_of}
use Rattle.mailbox.specs.Turns.{jobs_in, start_here}
use Rattle.mailbox.proofs.NoticeLemmas.{first_got, first_jobs, notice_starts, run_from}
use Rattle.mailbox.proofs.TurnLemmas.{run_as}
use Rattle.mailbox.proofs.checking.serve_next.Goals as goal

pub returns-in-Emptied-clause-served : goal.returns-in-Emptied-clause-served
returns-in-Emptied-clause-served g c =
    let v = owner_view c.args.owner in
    let got = c.in-Got.got in
    let p = got_place got in
    let first = c.in-Got.ensures in
    let w = exec_view c.receive.result in
    let received = c.receive.ensures in
    let done = c.in-Emptied.ensures.executed in
    let number : got.hold.got ≡ (owner_of v).got + 1 = sym got.is_got.stands.got_is ∙ first_got p v (got_view got) first.2 in
    let start : start_here (exec_place c.receive.result) w ≡ started.Notice ((owner_of v).got + 1) = ap (λ q. start_here q w) received.1 ∙ (notice_starts (got_view got) w p got.hold.got got.is_got.stands.state got.is_got.here received.2 ∙ ap started.Notice number) in (
      done.0,
      done.1 ∙ (ap (λ u. (owner_of u).got) received.2 ∙ first_got p v (got_view got) first.2),
      (
        done.2.0,
        run_from g.R.Runner.did g.R.Runner.held (post_target c.args.post.now) (λ (s : Started). s ≡ started.Notice ((owner_of v).got + 1)) done.2.0 c.args.runner.now c.execute_place.new.runner v w (owner_view c.in-Emptied.owner) (ap (λ u. jobs_in u) received.2 ∙ first_jobs p v (got_view got) first.2)
            (run_as g.R.Runner.did g.R.Runner.held (post_target c.args.post.now) (λ (s : Started). s ≡ start_here (exec_place c.receive.result) w) (λ (s : Started). s ≡ started.Notice ((owner_of v).got + 1)) (λ s is. is ∙ start) done.2.0 c.args.runner.now c.execute_place.new.runner w (owner_view c.in-Emptied.owner) done.2.2),
      ),
    )

pub returns-in-NoMemory-clause-served : goal.returns-in-NoMemory-clause-served
returns-in-NoMemory-clause-served g c =
    let v = owner_view c.args.owner in
    let got = c.in-Got.got in
    let p = got_place got in
    let first = c.in-Got.ensures in
    let w = exec_view c.receive.result in
    let received = c.receive.ensures in
    let done = c.in-NoMemory.ensures.executed in
    let number : got.hold.got ≡ (owner_of v).got + 1 = sym got.is_got.stands.got_is ∙ first_got p v (got_view got) first.2 in
    let start : start_here (exec_place c.receive.result) w ≡ started.Notice ((owner_of v).got + 1) = ap (λ q. start_here q w) received.1 ∙ (notice_starts (got_view got) w p got.hold.got got.is_got.stands.state got.is_got.here received.2 ∙ ap started.Notice number) in (
      done.0,
      subst (HasPlace c.args.post.now) (sym (done.1 ∙ received.1)) first.1,
      (
        done.3.0,
        run_from g.R.Runner.did g.R.Runner.held (post_target c.args.post.now) (λ (s : Started). s ≡ started.Notice ((owner_of v).got + 1)) done.3.0 c.args.runner.now c.execute_place.new.runner v w (exec_view c.in-NoMemory.exec) (ap (λ u. jobs_in u) received.2 ∙ first_jobs p v (got_view got) first.2)
            (run_as g.R.Runner.did g.R.Runner.held (post_target c.args.post.now) (λ (s : Started). s ≡ start_here (exec_place c.receive.result) w) (λ (s : Started). s ≡ started.Notice ((owner_of v).got + 1)) (λ s is. is ∙ start) done.3.0 c.args.runner.now c.execute_place.new.runner w (exec_view c.in-NoMemory.exec) done.3.1),
      ),
    )
