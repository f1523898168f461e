use Rattle.std.proofs.Common.{◌≡◌, ap, sym, ◌∙◌}
use Rattle.proxy_laws.specs.declared.records.Started.{Started}
use Rattle.proxy_laws.specs.declared.records.Started.TheVariants as started
use Rattle.post_core.specs.OwnerViews.{exec_place, exec_view, owner_view}
use Rattle.post_core.specs.SendParts.{post_target}
use Rattle.post_core.specs.ServingSteps.{at_serving}
use Rattle.proxy_laws.specs.declared.actors.Serving.TheVariants as serving
use Rattle.mailbox.specs.Turns.{jobs_in, start_here}
use Rattle.mailbox.proofs.NoticeLemmas.{direct_starts, run_from}
use Rattle.mailbox.proofs.TurnLemmas.{run_as}
use Rattle.mailbox.proofs.mailbox.execute_at.Goals as goal

pub returns-in-Emptied-clause-ran : goal.returns-in-Emptied-clause-ran
returns-in-Emptied-clause-ran g c =
    let v = owner_view c.args.owner in
    let exec = c.direct.result in
    let w = exec_view exec in
    let p = exec_place exec in
    let done = c.in-Emptied.ensures.executed in
    let view_is = c.direct.ensures.2 ∙ ap (λ q. at_serving q serving.Direct v) (sym c.direct.ensures.1) in
    let start : start_here p w ≡ started.Direct = direct_starts v w p exec.start c.args.owner.is_owner.stands.state exec.runs exec.is_exec.here view_is in (
      done.2.0,
      run_from g.R.Runner.did g.R.Runner.held (post_target c.args.post.now) (λ (s : Started). s ≡ started.Direct) done.2.0 c.args.runner.now c.execute_place.new.runner v w (owner_view c.in-Emptied.owner) (ap (λ u. jobs_in u) c.direct.ensures.2)
          (run_as g.R.Runner.did g.R.Runner.held (post_target c.args.post.now) (λ (s : Started). s ≡ start_here p w) (λ (s : Started). s ≡ started.Direct) (λ s is. is ∙ start) done.2.0 c.args.runner.now c.execute_place.new.runner w (owner_view c.in-Emptied.owner) done.2.2),
      done.2.1,
    )

pub returns-in-NoMemory-clause-ran : goal.returns-in-NoMemory-clause-ran
returns-in-NoMemory-clause-ran g c =
    let v = owner_view c.args.owner in
    let exec = c.direct.result in
    let w = exec_view exec in
    let p = exec_place exec in
    let done = c.in-NoMemory.ensures.executed in
    let view_is = c.direct.ensures.2 ∙ ap (λ q. at_serving q serving.Direct v) (sym c.direct.ensures.1) in
    let start : start_here p w ≡ started.Direct = direct_starts v w p exec.start c.args.owner.is_owner.stands.state exec.runs exec.is_exec.here view_is in (
      done.3.0,
      run_from g.R.Runner.did g.R.Runner.held (post_target c.args.post.now) (λ (s : Started). s ≡ started.Direct) done.3.0 c.args.runner.now c.execute_place.new.runner v w (exec_view c.in-NoMemory.exec) (ap (λ u. jobs_in u) c.direct.ensures.2)
          (run_as g.R.Runner.did g.R.Runner.held (post_target c.args.post.now) (λ (s : Started). s ≡ start_here p w) (λ (s : Started). s ≡ started.Direct) (λ s is. is ∙ start) done.3.0 c.args.runner.now c.execute_place.new.runner w (exec_view c.in-NoMemory.exec) done.3.1),
      tt,
    )
