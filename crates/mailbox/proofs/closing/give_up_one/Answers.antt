use Rattle.std.proofs.Common.{◌≡◌, ◌<◌, arith, ℕ, List, sym, ap, ◌∙◌, subst}
use lib.ListN.{get_elem?}
use mathlib.Core.Option.{some}
use Rattle.post_core.specs.declared.views.Fact.TheVariants as fact
use Rattle.post_core.specs.Views.{job_settled}
use Rattle.proxy_laws.specs.declared.records.FateMark.TheVariants as fate
use Rattle.post_core.specs.Kept.{listed}
use Rattle.post_core.specs.OwnerViews.{emptied_view}
use Rattle.post_core.specs.SendParts.{HasPlace, post_places, post_target}
use Rattle.post_core.specs.Steps.{IsActiveHere}
use Rattle.mailbox.specs.declared.calls.RunJob.{RunJob}
use Rattle.mailbox.specs.Calls.{first_off}
use Rattle.post_core.specs.declared.views.Held.{Held}
use Rattle.mailbox.specs.Deeds.{fate_given}
use Rattle.mailbox.specs.Holding.{HoldsActive}
use Rattle.mailbox.specs.Turns.{jobs_in}
use Rattle.mailbox.proofs.ClosingLemmas.{active_here, give_done, next_some}
use Rattle.mailbox.proofs.DeedLemmas.{seen_settled}
use Rattle.mailbox.proofs.HoldingLemmas.{first_active, first_given}
use Rattle.mailbox.proofs.TurnLemmas.{row_inside}
use Rattle.mailbox.proofs.closing.give_up_one.Goals as goal

pub settle-note-requires-clause-near : goal.settle-note-requires-clause-near
settle-note-requires-clause-near g c =
    let next = next_some g.R.Runner.suits (g.R.Runner.held c.args.runner.now) c.in-Some.field-0 c.in-Some.ensures.tail in
    let jobs = jobs_in (emptied_view c.args.emptied.now) in
    let holds = subst (λ (js : List (RunJob g.row.J-Meaning.Denot)). HoldsActive (post_target c.args.post.now) (post_places c.args.post.now) jobs js) next.2 c.requires.active in
    let inside = row_inside jobs next.0.place next.0.nth (active_here (post_target c.args.post.now) jobs next.0 (first_active (post_target c.args.post.now) (post_places c.args.post.now) jobs next.0 next.1 holds)).0 in
    let wide = holds.wide in
    let near : HasPlace c.args.post.now next.0.place = (let e : next.0.place < post_places c.args.post.now = omega (arith, inside, wide) in e) in
    subst (HasPlace c.args.post.now) (sym next.3) near

pub settle-note-requires-clause-active : goal.settle-note-requires-clause-active
settle-note-requires-clause-active g c =
    let tail = c.in-Some.field-0 in
    let next = next_some g.R.Runner.suits (g.R.Runner.held c.args.runner.now) tail c.in-Some.ensures.tail in
    let jobs = jobs_in (emptied_view c.args.emptied.now) in
    let holds = subst (λ (js : List (RunJob g.row.J-Meaning.Denot)). HoldsActive (post_target c.args.post.now) (post_places c.args.post.now) jobs js) next.2 c.requires.active in
    subst (λ (x : ℕ × ℕ). IsActiveHere (listed jobs x.0) x.1) (λ i. (sym next.3 i, sym next.4 i)) (active_here (post_target c.args.post.now) jobs next.0 (first_active (post_target c.args.post.now) (post_places c.args.post.now) jobs next.0 next.1 holds))

pub tell-requires : goal.tell-requires
tell-requires g c =
    let tail = c.in-Some.field-0 in
    let next = next_some g.R.Runner.suits (g.R.Runner.held c.args.runner.now) tail c.in-Some.ensures.tail in
    let v = emptied_view c.args.emptied.now in
    let jobs = jobs_in v in
    let j = next.0 in
    let holds = subst (λ (js : List (RunJob g.row.J-Meaning.Denot)). HoldsActive (post_target c.args.post.now) (post_places c.args.post.now) jobs js) next.2 c.requires.active in
    let k = holds.kept.0 in
    let seen = seen_settled v j.place j.nth fate.Cancelled k.kept k.there in
    let settled = c.settle-note.ensures in
    let view_is : emptied_view c.settle-note.new.self ≡ job_settled j.place j.nth fate.Cancelled v = settled.owner.1 ∙ (λ i. job_settled (next.3 i) (next.4 i) fate.Cancelled v) in
    record {
      job = j;
      target_is = k.target_is ∙ (sym c.requires.target ∙ sym c.in-Some.ensures.target);
      place_is = sym next.3;
      nth_is = sym next.4;
      seen = (seen.0, ap (λ u. get_elem? u.seen seen.0) settled.note.1 ∙ (ap (λ u. get_elem? u.seen seen.0) view_is ∙ (seen.1 ∙ (λ i. some (fact.Settled j.place j.nth (k.mark_is i) (k.meaning_is i) fate.Cancelled)))));
      suiting = next.5;
    }

pub returns-in-Some-clause-active : goal.returns-in-Some-clause-active
returns-in-Some-clause-active g c =
    let tail = c.in-Some.field-0 in
    let next = next_some g.R.Runner.suits (g.R.Runner.held c.args.runner.now) tail c.in-Some.ensures.tail in
    let target = post_target c.args.post.now in
    let places = post_places c.args.post.now in
    let v = emptied_view c.args.emptied.now in
    let holds = subst (λ (js : List (RunJob g.row.J-Meaning.Denot)). HoldsActive target places (jobs_in v) js) next.2 c.requires.active in
    let given = first_given target places (jobs_in v) next.0 next.1 fate.Cancelled holds in
    let jobs_is : fate_given next.0.place next.0.nth fate.Cancelled (jobs_in v) ≡ jobs_in (emptied_view c.settle-note.new.self) = (λ i. fate_given (sym next.3 i) (sym next.4 i) fate.Cancelled (jobs_in v)) ∙ sym (ap (λ u. jobs_in u) c.settle-note.ensures.owner.1) in
    let held_is : next.1 ≡ g.R.Runner.held c.tell.new.self = sym (c.tell.ensures.held ∙ (c.in-Some.ensures.held ∙ ap first_off next.2)) in
    subst (λ (x : List (List (Held g.row.J-Meaning.Denot)) × List (RunJob g.row.J-Meaning.Denot)). HoldsActive target places x.0 x.1) (λ i. (jobs_is i, held_is i)) given

pub returns-in-Some-clause-given : goal.returns-in-Some-clause-given
returns-in-Some-clause-given g c =
    let tail = c.in-Some.field-0 in
    let next = next_some g.R.Runner.suits (g.R.Runner.held c.args.runner.now) tail c.in-Some.ensures.tail in
    let target = post_target c.args.post.now in
    let places = post_places c.args.post.now in
    let v = emptied_view c.args.emptied.now in
    let holds = subst (λ (js : List (RunJob g.row.J-Meaning.Denot)). HoldsActive target places (jobs_in v) js) next.2 c.requires.active in
    give_done g.R.Runner.did target next.0 tail (jobs_in v) (jobs_in (emptied_view c.settle-note.new.self)) c.args.runner.now c.tell.new.self (g.R.Runner.held c.args.runner.now) (g.R.Runner.held c.tell.new.self)
    (first_active target places (jobs_in v) next.0 next.1 holds) next.3 next.4 (ap (λ u. jobs_in u) c.settle-note.ensures.owner.1)
    (g.met.R.Runner.did_on _ _ _ _ _ c.in-Some.ensures.did c.tell.ensures.did)
    (c.tell.ensures.held ∙ c.in-Some.ensures.held)
