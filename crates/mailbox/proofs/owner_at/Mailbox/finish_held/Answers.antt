use Rattle.std.proofs.Common.{◌≡◌, ℕ, List, ap, sym, subst, ◌∙◌}
use lib.ListN.{get_elem?}
use mathlib.Core.Option.{some}
use Rattle.proxy_laws.specs.declared.records.FateMark.TheVariants as fate
use Rattle.post_core.specs.declared.views.Fact.TheVariants as fact
use Rattle.post_core.specs.declared.views.Held.{Held}
use Rattle.post_core.specs.Kept.{listed}
use Rattle.post_core.specs.SendParts.{post_target}
use Rattle.post_core.specs.Steps.{IsActiveHere}
use Rattle.post_core.specs.Views.{job_settled}
use Rattle.mailbox.specs.Boxes.{at_view, view_in}
use Rattle.mailbox.specs.Deeds.{IsActiveJob}
use Rattle.mailbox.specs.Turns.{jobs_in}
use Rattle.mailbox.proofs.ClosingLemmas.{active_here}
use Rattle.mailbox.proofs.DeedLemmas.{seen_settled}
use Rattle.mailbox.proofs.owner_at.Mailbox.finish_held.Goals as goal

pub settle_at-at-requires-clause-active : goal.settle_at-at-requires-clause-active
settle_at-at-requires-clause-active g c =
    let v = at_view c.take_out-at.result in
    let may = c.requires.job in
    let same = ap (λ x. jobs_in (view_in x)) c.take_out-at.ensures.0 in
    let active : IsActiveJob (post_target c.args.post.now) (jobs_in v) may.job = subst (λ (js : List (List (Held g.row.J-Meaning.Denot))). IsActiveJob (post_target c.args.post.now) js may.job) same may.active in
    subst (λ (x : ℕ × ℕ). IsActiveHere (listed (jobs_in v) x.0) x.1) (λ i. (may.place_is i, may.nth_is i)) (active_here (post_target c.args.post.now) (jobs_in v) may.job active)

pub tell-requires : goal.tell-requires
tell-requires g c =
    let v = at_view c.take_out-at.result in
    let may = c.requires.job in
    let j = may.job in
    let same = ap (λ x. jobs_in (view_in x)) c.take_out-at.ensures.0 in
    let active : IsActiveJob (post_target c.args.post.now) (jobs_in v) j = subst (λ (js : List (List (Held g.row.J-Meaning.Denot))). IsActiveJob (post_target c.args.post.now) js j) same may.active in
    let kept = active.1 in
    let seen = seen_settled v j.place j.nth fate.Finished kept.0 kept.1 in
    let view_is : at_view c.settle_at-at.result.0 ≡ job_settled j.place j.nth fate.Finished v = c.settle_at-at.ensures.view ∙ (λ i. job_settled (sym may.place_is i) (sym may.nth_is i) fate.Finished v) in
    record {
      job = j;
      target_is = may.active.0 ∙ sym c.requires.target;
      place_is = may.place_is;
      nth_is = may.nth_is;
      seen = (seen.0, ap (λ u. get_elem? u.seen seen.0) c.settle_at-at.ensures.note ∙ (ap (λ u. get_elem? u.seen seen.0) view_is ∙ (seen.1 ∙ (λ i. some (fact.Settled j.place j.nth (kept.2 i) (kept.3 i) fate.Finished)))));
      suiting = may.suits;
    }

pub returns-clause-settled : goal.returns-clause-settled
returns-clause-settled g c = ap view_in c.put_back.ensures ∙ (c.settle_at-at.ensures.view ∙ ap (job_settled c.args.place c.args.nth fate.Finished) (sym (ap view_in c.take_out-at.ensures.0)))
