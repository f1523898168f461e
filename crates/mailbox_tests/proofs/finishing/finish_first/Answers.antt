use Rattle.std.proofs.Common.{ℕ, List, ap, map, subst, sym}
use Rattle.post_core.specs.SendParts.{post_places, post_target}
use Rattle.post_core.specs.declared.views.Held.{Held}
use Rattle.mailbox.specs.Boxes.{mailbox_view}
use Rattle.proxy_laws.specs.declared.records.FateMark.TheVariants.{Finished}
use Rattle.mailbox.specs.declared.calls.RunJob.{RunJob}
use Rattle.mailbox.specs.Deeds.{MayFinish, fate_given}
use Rattle.mailbox.specs.Holding.{HoldsActive}
use Rattle.mailbox.specs.Turns.{jobs_in}
use Rattle.mailbox_tests.specs.declared.events.Kept.{Kept}
use Rattle.mailbox_tests.specs.Recorded.{held_jobs, job_of, left_suits}
use Rattle.mailbox_tests.proofs.HeldJobs.{first_finished, first_may}
use Rattle.mailbox_tests.proofs.finishing.finish_first.Goals as goal

pub finish_held-requires-clause-job : goal.finish_held-requires-clause-job
finish_held-requires-clause-job g c =
    let kept = c.in-Some.kept in
    let places = post_places c.args.post.now in
    let jobs = jobs_in (mailbox_view c.args.mailbox.now) in
    let holds = subst (λ (held : List Kept). HoldsActive 0 places jobs (map job_of held)) c.in-Some.ensures.items c.requires.active in
    subst (λ (target : ℕ). MayFinish left_suits target jobs kept.place kept.nth (record { place = kept.place; nth = kept.nth })) (sym c.requires.target)
    (first_may places jobs kept c.pop_front.new.self.items holds)

pub returns-clause-active : goal.returns-clause-active
returns-clause-active g c =
    let places = post_places c.args.post.now in
    let jobs = jobs_in (mailbox_view c.args.mailbox.now) in
    let holds = subst (λ (held : List Kept). HoldsActive 0 places jobs (map job_of held)) c.in-Some.ensures.items c.requires.active in
    let finished = first_finished places jobs c.in-Some.kept c.pop_front.new.self.items holds in
    let told = subst (λ (held : List (RunJob ℕ)). HoldsActive 0 places (fate_given c.in-Some.kept.place c.in-Some.kept.nth Finished jobs) held) (sym c.finish_held.ensures.held) finished in
    subst (λ (settled : List (List (Held ℕ))). HoldsActive 0 places settled (held_jobs c.finish_held.new.runner)) (sym (ap jobs_in c.finish_held.ensures.settled)) told
