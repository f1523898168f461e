use Rattle.std.proofs.Common.{◌++◌, ◌∙◌}
use Rattle.post_core.specs.OwnerViews.{exec_place, exec_view}
use Rattle.post_core.specs.SendParts.{post_target}
use Rattle.mailbox.specs.Turns.{view_after_run}
use Rattle.post_core.specs.ServingSteps.{job_started}
use Rattle.std.proofs.Common.{◌≡◌, ap, subst}
use Rattle.mailbox.specs.declared.calls.RunJob.{RunJob}
use Rattle.mailbox.specs.Calls.{held_by, run_job}
use Rattle.mailbox.specs.Runs.{run_calls}
use Rattle.mailbox.proofs.TurnLemmas.{taken_inside}
use Rattle.mailbox.proofs.DeedLemmas.{run_done, run_keeps}
use Rattle.mailbox.proofs.running.run_first.Goals as goal

pub returns-in-Job-clause-turn : goal.returns-in-Job-clause-turn
returns-in-Job-clause-turn g c =
    let taken = c.in-Job.ensures in
    let run = c.run_taken.ensures in
    let target = post_target c.args.post.now in
    let p = exec_place c.args.exec in
    let v = exec_view c.args.exec in
    let after = c.in-Job.after in
    let meaning = g.J.Meant.meaning c.in-Job.job in
    let n = c.in-Job.nth in
    let mark = c.in-Job.mark in
    let ran = run.ran.0 in
    let job_is : run_job target (exec_place after) n mark meaning ≡ run_job target p n mark meaning = ap (λ q. run_job target q n mark meaning) taken.3 in
    let view_is : exec_view c.run_taken.new.exec ≡ view_after_run p n ran (job_started p (record { mark = mark; meaning = meaning }) v) = run.ran.3 ∙ (λ i. view_after_run (taken.3 i) n ran (taken.4 i)) in (
      run.exec.0,
      run.exec.1 ∙ taken.3,
      run_keeps p n mark meaning v (exec_view c.run_taken.new.exec) ran view_is,
      run_done g.R.Runner.did target p n mark meaning v (exec_view c.run_taken.new.exec) c.args.runner.now c.run_taken.new.runner (g.R.Runner.held c.args.runner.now) (g.R.Runner.held c.run_taken.new.runner) ran
          (taken_inside v (exec_view after) p n mark meaning taken.4 taken.5) taken.1
          (subst (λ (j : RunJob g.row.J-Meaning.Denot). g.R.Runner.did c.args.runner.now (run_calls j ran) c.run_taken.new.runner) job_is run.ran.1)
          (subst (λ (j : RunJob g.row.J-Meaning.Denot). g.R.Runner.held c.run_taken.new.runner ≡ g.R.Runner.held c.args.runner.now ++ held_by j ran) job_is run.ran.2)
          view_is,
    )
