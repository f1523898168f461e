use Rattle.std.proofs.Common.{ℕ, ap, sym, subst, ◌∙◌}
use Rattle.proxy_laws.specs.declared.records.FateMark.TheVariants as fate
use Rattle.post_core.specs.declared.views.Entry.{Entry}
use Rattle.post_core.specs.declared.views.View.{View}
use Rattle.post_core.specs.OwnerViews.{exec_place, exec_view}
use Rattle.post_core.specs.Views.{job_settled, owner_of, pass_of}
use Rattle.post_tests.specs.Scenes.{HasHeld}
use Rattle.post_tests.proofs.HeldJobs.{same_held, settles_next}
use Rattle.post_tests.proofs.owning.execute.Goals as goal

pub loop-preserved : goal.loop-preserved
loop-preserved g c =
    let inv = c.loop.invariant in
    let kept = c.ready.ensures.kept in
    let taken = c.in-Job.ensures in
    let settled = c.settle-note.ensures.owner in
    let met = c.meet-pass.ensures in
    let before = exec_view c.ready.new.self in
    let place = exec_place c.ready.new.self in
    let entry : Entry ℕ = record { mark = c.in-Job.mark; meaning = c.in-Job.job } in
    let held = same_held c.args.held (exec_view c.loop.exec) before (ap (λ v. (owner_of v).jobs) kept.view) inv.2 in
    let place_is = kept.place ∙ inv.1 in (
      settled.0,
      settled.1 ∙ (taken.3 ∙ place_is),
      subst (λ v. HasHeld c.args.held v) (sym settled.2)
          (subst (λ (x : ℕ × View ℕ). HasHeld c.args.held (job_settled x.0 c.in-Job.nth fate.Finished x.1)) (λ i. (place_is i, sym taken.4 i))
          (settles_next before place entry c.args.held c.in-Job.nth fate.Finished taken.1 held)),
      met.0,
      (ap (λ v. (pass_of v).number) met.1 ∙ inv.4.0, ap (λ v. (pass_of v).uses) met.1 ∙ inv.4.1),
    )
