use Rattle.std.proofs.Common.{Some, None, [], ◌∷◌, refl, sym, ap, ◌∙◌, subst}
use lib.ListN.{get_elem?}
use Rattle.proxy_laws.specs.declared.records.FateMark.TheVariants as fate
use Rattle.post_core.specs.ClosingViews.{closed_left, closed_view}
use Rattle.post_core.specs.OwnerViews.{emptied_view}
use Rattle.post_core.specs.SendParts.{post_target}
use Rattle.post_core.specs.ServingSteps.{job_started}
use Rattle.post_core.specs.Views.{owner_of}
use Rattle.mailbox.specs.declared.calls.RunCall.TheVariants as call
use Rattle.mailbox.specs.Calls.{run_job}
use Rattle.mailbox.specs.Deeds.{kept_job}
use Rattle.mailbox.specs.Turns.{jobs_in, start_here}
use Rattle.mailbox.proofs.ClosingLemmas.{cancel_done, done_jobs, rounds_jobs, settled_inside}
use Rattle.mailbox.proofs.DeedLemmas.{seen_settled, started_there}
use Rattle.mailbox.proofs.closing.cancel_one.Goals as goal

pub tell-requires : goal.tell-requires
tell-requires g c =
    let found = c.in-Job.ensures in
    let p = c.in-Job.place in
    let n = c.in-Job.nth in
    let mark = c.in-Job.mark in
    let meaning = g.J.Meant.meaning c.in-Job.job in
    let before = found.1 in
    let job = run_job (g.R.Runner.target c.args.runner.now) p n mark meaning in
    let kept = kept_job job (start_here p before) None in
    let closed = c.in-Job.closed in
    let inside = settled_inside before (closed_view closed) p n mark meaning found.7 closed.is_closed.wide closed.is_closed.rows (closed.is_closed.at_left.0 p found.4) in
    let seen = seen_settled (job_started p (record { mark = mark; meaning = meaning }) before) p n fate.Cancelled kept (started_there (jobs_in before) p n kept inside found.5) in
    record {
      job = job;
      target_is = sym c.cancel-tail.ensures.target;
      place_is = refl;
      nth_is = refl;
      seen = (seen.0, ap (λ u. get_elem? u.seen seen.0) found.9 ∙ (ap (λ u. get_elem? u.seen seen.0) found.7 ∙ seen.1));
      suiting = c.cancel-tail.ensures.tail;
    }

pub returns-in-Job-clause-cancelled : goal.returns-in-Job-clause-cancelled
returns-in-Job-clause-cancelled g c =
    let found = c.in-Job.ensures in
    let p = c.in-Job.place in
    let n = c.in-Job.nth in
    let mark = c.in-Job.mark in
    let meaning = g.J.Meant.meaning c.in-Job.job in
    let before = found.1 in
    let closed = c.in-Job.closed in
    let v = closed_view c.args.closed in
    let target = post_target c.args.post.now in
    let inside = settled_inside before (closed_view closed) p n mark meaning found.7 closed.is_closed.wide closed.is_closed.rows (closed.is_closed.at_left.0 p found.4) in (
      found.3,
      cancel_done g.R.Runner.did target p n mark meaning v before (closed_view closed) c.args.runner.now c.tell.new.self (g.R.Runner.held c.args.runner.now) (g.R.Runner.held c.tell.new.self) c.cancel-tail.result
          inside found.5 (sym (ap (λ u. (owner_of u).state) found.7) ∙ closed.is_closed.state_is) (rounds_jobs found.0 (closed_left c.args.closed) v (Some p) before found.2) found.7
          (subst (λ t. g.R.Runner.did c.args.runner.now (call.Cancel (run_job t p n mark meaning) c.cancel-tail.result ∷ call.Tell c.cancel-tail.result p n fate.Cancelled ∷ []) c.tell.new.self) c.requires.target (g.met.R.Runner.did_on _ _ _ _ _ c.cancel-tail.ensures.did c.tell.ensures.did))
          (c.tell.ensures.held ∙ c.cancel-tail.ensures.held),
    )

pub returns-in-Done-clause-cancelled : goal.returns-in-Done-clause-cancelled
returns-in-Done-clause-cancelled g c =
    let found = c.in-Done.ensures in
    let v = closed_view c.args.closed in (
      found.4,
      found.6,
      done_jobs found.1 found.2 (emptied_view c.in-Done.emptied) found.5 ∙ rounds_jobs found.0 (closed_left c.args.closed) v found.1 found.2 found.3,
      (g.met.R.Runner.did_none c.args.runner.now, refl),
    )
