use Rattle.std.proofs.Common.{◌≡◌, ◌+◌, refl, arith, ◌∙◌}
use Rattle.std.specs.Prelude.{min}
use Rattle.post_core.specs.ClosingViews.{closed_view}
use Rattle.post_core.specs.OwnerViews.{emptied_view}
use Rattle.post_core.specs.SendParts.{post_target}
use Rattle.mailbox.specs.Deeds.{Cancels}
use Rattle.mailbox.specs.Turns.{jobs_in}
use Rattle.mailbox.proofs.DeedLemmas.{done_more, done_none, done_same}
use Rattle.mailbox.proofs.closing.cancel_waiting.Goals as goal

pub loop-init : goal.loop-init
loop-init g c =
    let v = closed_view c.args.closed in
    let held = g.R.Runner.held c.args.runner.now in
    record {
      closed = c.requires.closed;
      target = refl;
      done = (0, refl, done_none g.R.Runner.did Cancels (post_target c.args.post.now) c.args.runner.now c.args.runner.now (jobs_in v) (jobs_in v) held held (g.met.R.Runner.did_none c.args.runner.now) refl refl);
    }

pub loop-preserved : goal.loop-preserved
loop-preserved g c =
    let l = c.loop in
    let i = l.invariant in
    let v = closed_view c.args.closed in
    let job = c.in-Job.ensures.cancelled in
    record {
      closed = job.0;
      target = c.cancel_one.ensures.target ∙ i.target;
      done = (
        i.done.0 + 1,
        (let before : l.waiting ≡ min i.done.0 18446744073709551615 = i.done.1 in omega (arith, before, c.saturating_add-waiting.ensures)),
        done_more g.R.Runner.did g.met.R.Runner.did_on Cancels (post_target c.args.post.now) i.done.0 1 c.args.runner.now l.runner c.cancel_one.new.runner (jobs_in v) (jobs_in (closed_view l.closed)) (jobs_in (closed_view c.in-Job.same)) (g.R.Runner.held c.args.runner.now) (g.R.Runner.held l.runner) (g.R.Runner.held c.cancel_one.new.runner) i.done.2 job.1,
      );
    }

pub returns-in-Done-clause-cancelled : goal.returns-in-Done-clause-cancelled
returns-in-Done-clause-cancelled g c =
    let l = c.loop in
    let i = l.invariant in
    let v = closed_view c.args.closed in
    let done = c.in-Done.ensures.cancelled in (
      i.done.0,
      i.done.1,
      done_same g.R.Runner.did g.met.R.Runner.did_on Cancels (post_target c.args.post.now) i.done.0 c.args.runner.now l.runner c.cancel_one.new.runner (jobs_in v) (jobs_in (closed_view l.closed)) (jobs_in (emptied_view c.in-Done.emptied)) (g.R.Runner.held c.args.runner.now) (g.R.Runner.held l.runner) (g.R.Runner.held c.cancel_one.new.runner) i.done.2 done.3.0 done.2 done.3.1,
    )
