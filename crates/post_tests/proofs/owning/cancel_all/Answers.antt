use Rattle.std.proofs.Common.{ℕ, Some, ap, sym, subst, ◌∙◌}
use Rattle.proxy_laws.specs.declared.records.FateMark.TheVariants as fate
use Rattle.post_core.specs.declared.views.Entry.{Entry}
use Rattle.post_core.specs.ClosingViews.{closed_left, closed_view}
use Rattle.post_core.specs.OwnerViews.{emptied_view}
use Rattle.post_core.specs.Views.{pass_of}
use Rattle.post_tests.specs.Scenes.{HasHeld}
use Rattle.post_tests.proofs.HeldJobs.{done_jobs, rounds_jobs, same_held, settles_next}
use Rattle.post_tests.proofs.owning.cancel_all.Goals as goal

pub loop-preserved : goal.loop-preserved
loop-preserved g c =
    let inv = c.loop.invariant in
    let found = c.in-Job.ensures in
    let met = c.meet-pass.ensures in
    let before = closed_view c.loop.closed in
    let entry : Entry ℕ = record { mark = c.in-Job.mark; meaning = c.in-Job.job } in
    let held = same_held c.args.held before found.1 (rounds_jobs found.0 (closed_left c.loop.closed) before (Some c.in-Job.place) found.1 found.2) inv.1 in (
      found.3,
      subst (λ v. HasHeld c.args.held v) (sym found.7) (settles_next found.1 c.in-Job.place entry c.args.held c.in-Job.nth fate.Cancelled found.5 held),
      met.0,
      (ap (λ v. (pass_of v).number) met.1 ∙ inv.3.0, ap (λ v. (pass_of v).uses) met.1 ∙ inv.3.1),
    )

pub returns-in-Done-clause-emptied : goal.returns-in-Done-clause-emptied
returns-in-Done-clause-emptied g c =
    let found = c.in-Done.ensures in
    let before = closed_view c.loop.closed in
    let held = same_held c.args.held before found.2 (rounds_jobs found.0 (closed_left c.loop.closed) before found.1 found.2 found.3) c.loop.invariant.1 in
    (found.4, same_held c.args.held found.2 (emptied_view c.in-Done.emptied) (done_jobs found.1 found.2 (emptied_view c.in-Done.emptied) found.5) held)
