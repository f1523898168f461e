use Rattle.std.proofs.Common.{◌≡◌, ◌<◌, ◌+◌, ◌/◌, refl, map, arith, ap, sym, subst, ◌∙◌}
use Rattle.std.proofs.lemmas.List.{length-map}
use Rattle.proxy_laws.specs.declared.actors.OwnerState.TheVariants as owner
use Rattle.proxy_laws.specs.declared.actors.Serving.TheVariants as serving
use Rattle.post_core.specs.MailSteps.{words_empty}
use Rattle.post_core.specs.Parts.{IsOwnerAt}
use Rattle.post_core.proofs.OwnerAt.{all_empty_still, gets, still_as}
use Rattle.post_core.proofs.owner.Owner.next_notice.Goals as goal

open_not_closing : owner.Open ≡ owner.Closing → ⊥
open_not_closing e = cc

pub first_notice-requires-clause-owner : goal.first_notice-requires-clause-owner
first_notice-requires-clause-owner g c = let o = c.args.self.is_owner.stands in (o.view, λ e. open_not_closing (sym o.state ∙ e))

pub invariant_of-result : goal.invariant_of-result
invariant_of-result g c =
    let started = map (λ place. place.started.items) c.args.self.hold.jobs.items in
    let taken = map (λ place. place.taken) c.args.self.hold.jobs.items in
    let got = c.args.self.hold.got in
    let p = c.in-Some.place in
    let first = c.in-Some.ensures.some in
    let slots_are = ap (λ t. t.slots) (sym c.in-Some.ensures.seat.0) in
    record {
      is_got = subst (IsOwnerAt p (serving.Got (got + 1)) started taken (got + 1)) (sym first.3)
          (gets started taken got p (let a = c.args.self.empty.1 in let b = c.in-Some.ensures.there in omega (arith, length-map c.args.self.hold.jobs.items (λ place. place.taken))) (words_empty (p / 64) c.args.self.hold.seat.me.0) (all_empty_still started taken got (p / 64) c.args.self.hold.seat.me.0 c.args.self.is_owner));
      empty = (c.in-Some.ensures.seat.2 ∙ c.args.self.empty.0, c.args.self.empty.1 ∙ slots_are);
      near = subst (λ n. p < n) slots_are c.in-Some.ensures.there;
    }

pub invariant_of-result-in-None : goal.invariant_of-result-in-None
invariant_of-result-in-None g c = record {
  is_owner = still_as (map (λ place. place.started.items) c.args.self.hold.jobs.items) (map (λ place. place.taken) c.args.self.hold.jobs.items) c.args.self.hold.got 4 c.args.self.hold.seat.me.0 _ (c.in-None.ensures.none refl) c.args.self.is_owner;
  empty = (c.in-None.ensures.seat.2 ∙ c.args.self.empty.0, c.args.self.empty.1 ∙ ap (λ t. t.slots) (sym c.in-None.ensures.seat.0));
}
