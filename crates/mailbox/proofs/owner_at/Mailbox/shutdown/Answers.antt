use Rattle.std.proofs.Common.{◌≡◌, List, refl, ap, sym, subst, ◌∙◌}
use Rattle.post_core.specs.declared.views.Held.{Held}
use Rattle.post_core.specs.ClosingViews.{closed_view}
use Rattle.post_core.specs.OwnerViews.{emptied_view}
use Rattle.post_core.specs.SendParts.{post_places, post_target}
use Rattle.mailbox.specs.declared.calls.RunJob.{RunJob}
use Rattle.mailbox.specs.Boxes.{mailbox_view, view_in}
use Rattle.mailbox.specs.Holding.{HoldsActive}
use Rattle.mailbox.specs.Turns.{jobs_in}
use Rattle.mailbox.proofs.ClosingLemmas.{cancels_hold, shut_done}
use Rattle.mailbox.proofs.owner_at.Mailbox.shutdown.Goals as goal

pub give_up_held-held-requires-clause-active : goal.give_up_held-held-requires-clause-active
give_up_held-held-requires-clause-active g c =
    let target = post_target c.args.post.now in
    let places = post_places c.args.post.now in
    let held = g.R.Runner.held c.args.runner.now in
    let closed = closed_view c.wait_closed-closed.result in
    let same : jobs_in (mailbox_view c.args.self) ≡ jobs_in closed = ap (λ x. jobs_in (view_in x)) c.in-Some.is ∙ sym (c.wait_closed-closed.ensures.1 ∙ c.begin.ensures.1) in
    let done = c.cancel_waiting-emptied.ensures.cancelled.2 in
    let before = subst (λ js. HoldsActive target places js held) same c.requires.active in
    subst (λ (x : List (List (Held g.row.J-Meaning.Denot)) × List (RunJob g.row.J-Meaning.Denot)). HoldsActive target places x.0 x.1) (λ i. (sym done.jobs_are i, sym done.held_are i)) (cancels_hold target places done.deeds (jobs_in closed) held done.right before)

pub returns-clause-shut : goal.returns-clause-shut
returns-clause-shut g c =
    let closed = closed_view c.wait_closed-closed.result in
    let same : jobs_in (mailbox_view c.args.self) ≡ jobs_in closed = ap (λ x. jobs_in (view_in x)) c.in-Some.is ∙ sym (c.wait_closed-closed.ensures.1 ∙ c.begin.ensures.1) in
    let first = c.cancel_waiting-emptied.ensures.cancelled in
    let given = c.give_up_held-held.ensures.given in
    let emptied = emptied_view c.cancel_waiting-emptied.result.0 in (
      first.0,
      given.0,
      first.1,
      given.1,
      shut_done g.R.Runner.did g.R.Runner.held (post_target c.args.post.now) g.met.R.Runner.did_on first.0 given.0 c.args.runner.now c.cancel_waiting-emptied.new.runner c.give_up_held-held.new.runner (jobs_in (mailbox_view c.args.self)) (jobs_in closed) (jobs_in emptied) (jobs_in emptied) (jobs_in (emptied_view c.give_up_held-held.new.emptied)) (sym same) first.2 refl given.2,
    )
