use Rattle.std.proofs.Common.{ℕ, Some, None, ap, sym, subst, ◌∙◌}
use Rattle.post_core.specs.declared.views.Entry.{Entry}
use Rattle.post_core.specs.OwnerViews.{exec_place, exec_view, got_view}
use Rattle.post_core.specs.Kept.{listed}
use Rattle.post_core.specs.Steps.{IsActiveHere}
use Rattle.post_core.specs.Views.{owner_of}
use Rattle.post_tests.specs.Scenes.{HasHeld}
use Rattle.post_tests.proofs.HeldJobs.{holds_next, same_held}
use Rattle.post_tests.proofs.owning.hold_of.Goals as goal

pub returns-clause-held : goal.returns-clause-held
returns-clause-held g c =
    let taken = c.in-Job.ensures in
    let before = c.ready.new.self in
    let kept = c.ready.ensures.kept in
    let entry : Entry ℕ = record { mark = c.in-Job.mark; meaning = c.in-Job.job } in
    let first = kept.place ∙ (c.receive-exec.ensures.1 ∙ c.requires.1) in
    let held = same_held None (got_view c.args.got) (exec_view before) (ap (λ v. (owner_of v).jobs) (kept.view ∙ c.receive-exec.ensures.2)) c.requires.2 in
    subst (HasHeld (Some c.in-Job.nth)) (sym taken.4)
    (holds_next (exec_view before) (exec_place before) entry c.in-Job.nth first taken.1 (subst (λ v. IsActiveHere (listed (owner_of v).jobs (exec_place before)) c.in-Job.nth) taken.4 taken.5) held)
