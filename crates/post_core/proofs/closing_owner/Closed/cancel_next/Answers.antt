use Rattle.std.proofs.Common.{◌<◌, ◌+◌, suc, length, refl, arith, ap, sym, subst, ◌∙◌, length-set}
use Rattle.std.specs.Prelude.{IfSome, slice_set}
use Rattle.std.proofs.lemmas.List.{length-map}
use Rattle.proxy_laws.specs.declared.actors.OwnerState.TheVariants as owner
use Rattle.post_core.specs.ClosingParts.{IsEnding}
use Rattle.post_core.specs.MailSteps.{IsFirstNotice}
use Rattle.post_core.specs.Parts.{IsEmptied}
use Rattle.post_core.specs.Records.{counts_of, starts_of}
use Rattle.post_core.specs.SendSteps.{meant_item}
use Rattle.post_core.proofs.OwnerEnds.{cancels, clears_left, gets_next, is_emptied_now, none_is_not}
use Rattle.post_core.proofs.closing_owner.Closed.cancel_next.Goals as goal

pub invariant_of-result : goal.invariant_of-result
invariant_of-result g c =
    let inv = c.loop.invariant in
    let jobs = c.args.self.hold.jobs.items in
    let started = starts_of jobs in
    let taken = counts_of jobs in
    let slots = c.args.self.hold.seat.table_id.slots in
    let p = c.in-Some-cancelled.place in
    let n = c.in-Some-cancelled.nth in
    let left_is = c.in-Some-cancelled.ensures.left in
    let me_is = c.in-Some-cancelled.ensures.job in
    let table_is = sym (c.in-Some-cancelled.ensures.seat.0 ∙ inv.0) in
    let inside : p < slots = subst (λ left. IfSome left (λ q. q < slots)) left_is inv.4 in
    let near : p < length taken = let a = c.args.self.empty.1 in omega (arith, length-map jobs (λ place. place.taken)) in
    let stands = subst (λ left. IsEnding owner.Closed left started taken c.loop.hold.got c.loop.hold.seat.me.0) left_is inv.3 in
    record {
      is_closed = subst (λ left. IsEnding owner.Closed left (starts_of c.count_taken.new.jobs.items) (counts_of c.count_taken.new.jobs.items) c.loop.hold.got c.cancel_left-cancelled.new.seat.me.0) (sym left_is)
          (cancels started taken c.loop.hold.got c.loop.hold.seat.me.0 p near n (meant_item g.J.Meant.meaning c.in-Some-cancelled.field-0-2) stands c.in-Some-cancelled.ensures.nth.1 _ _ _
          (c.count_taken.ensures.started ∙ ap (λ js. starts_of js.items) inv.1) (c.count_taken.ensures.taken ∙ ap (λ js. slice_set (counts_of js.items) p (n + 1)) inv.1) (ap (λ me. me.0) me_is));
      empty = (
        ap (λ me. me.1) me_is,
        sym (length-map c.count_taken.new.jobs.items (λ place. place.taken)) ∙ (ap length c.count_taken.ensures.taken ∙ (length-set (counts_of c.loop.hold.jobs.items) p (n + 1) ∙ (length-map c.loop.hold.jobs.items (λ place. place.taken) ∙ (ap (λ js. length js.items) inv.1 ∙ (c.args.self.empty.1 ∙ ap (λ t. t.slots) table_is))))),
      );
      near = λ q is. subst (λ t. q < t.slots) table_is (subst (λ left. IfSome left (λ r. r < slots)) is inv.4);
    }

pub first_notice-requires-clause-away : goal.first_notice-requires-clause-away
first_notice-requires-clause-away g c q =
    let inv = c.loop.invariant in
    let jobs = c.args.self.hold.jobs.items in
    let wide = sym (length-map jobs (λ place. place.taken) ∙ c.args.self.empty.1) in
    let cleared = clears_left (starts_of jobs) (counts_of jobs) c.loop.hold.got c.loop.left c.loop.hold.seat.me.0 _ (subst (λ n. IfSome c.loop.left (λ p. p < n)) wide inv.4) (ap (λ me. me.0) (c.in_default.ensures.none refl)) inv.3 in
    cleared.at_left.1 q (none_is_not q)

pub invariant_of-result-in_default-first_notice : goal.invariant_of-result-in_default-first_notice
invariant_of-result-in_default-first_notice g c =
    let inv = c.loop.invariant in
    let jobs = c.args.self.hold.jobs.items in
    let wide = sym (length-map jobs (λ place. place.taken) ∙ c.args.self.empty.1) in
    let me_is = c.in_default.ensures.none refl in
    let cleared = clears_left (starts_of jobs) (counts_of jobs) c.loop.hold.got c.loop.left c.loop.hold.seat.me.0 _ (subst (λ n. IfSome c.loop.left (λ p. p < n)) wide inv.4) (ap (λ me. me.0) me_is) inv.3 in
    record {
      is_emptied = subst (λ js. IsEmptied (starts_of js.items) (counts_of js.items) c.first_notice.new.seat.me.0) (sym inv.1)
          (is_emptied_now (starts_of jobs) (counts_of jobs) c.loop.hold.got _ _ (c.in_default-first_notice.ensures.none refl) cleared);
      empty = (
        c.first_notice.ensures.seat.2 ∙ ap (λ me. me.1) me_is,
        ap (λ js. length js.items) inv.1 ∙ (c.args.self.empty.1 ∙ ap (λ t. t.slots) (sym (c.first_notice.ensures.seat.0 ∙ (c.cancel_left-cancelled.ensures.seat.0 ∙ inv.0)))),
      );
    }

pub loop-preserved : goal.loop-preserved
loop-preserved g c =
    let inv = c.loop.invariant in
    let jobs = c.args.self.hold.jobs.items in
    let wide = sym (length-map jobs (λ place. place.taken) ∙ c.args.self.empty.1) in
    let me_is = c.in_default.ensures.none refl in
    let table_is = c.cancel_left-cancelled.ensures.seat.0 ∙ inv.0 in
    let cleared = clears_left (starts_of jobs) (counts_of jobs) c.loop.hold.got c.loop.left c.loop.hold.seat.me.0 _ (subst (λ n. IfSome c.loop.left (λ p. p < n)) wide inv.4) (ap (λ me. me.0) me_is) inv.3 in
    let place = c.in-Some-first_notice.place in
    let first = c.in-Some-first_notice.ensures.some in
    let there = subst (λ t. place < t.slots) table_is c.in-Some-first_notice.ensures.there in (
      c.in-Some-first_notice.ensures.seat.0 ∙ table_is,
      inv.1,
      c.in-Some-first_notice.ensures.seat.2 ∙ ap (λ me. me.1) me_is,
      gets_next (starts_of jobs) (counts_of jobs) c.loop.hold.got place _ _ (subst (λ n. place < n) wide there) first cleared,
      there,
      (
        suc inv.5.0,
        (c.loop.left, c.loop.hold.seat.me.0, place, inv.5.1, refl, subst (λ v. IsFirstNotice place v c.first_notice.new.seat.me.0) (ap (λ me. me.0) me_is) first),
      ),
    )
