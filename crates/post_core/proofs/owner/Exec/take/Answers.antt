use Rattle.std.proofs.Common.{◌<◌, ◌+◌, length, map, refl, arith, ap, sym, subst, ◌∙◌}
use Rattle.std.specs.Prelude.{slice_index}
use Rattle.std.proofs.lemmas.List.{length-map, length-set}
use Rattle.proxy_laws.specs.Phases.{serving_after_look}
use Rattle.post_core.specs.declared.views.Entry.{Entry}
use Rattle.post_core.specs.Kept.{listed}
use Rattle.post_core.specs.Parts.{IsOwnerAt, serving_of}
use Rattle.post_core.specs.Steps.{IsActiveHere}
use Rattle.post_core.specs.Views.{owner_of}
use Rattle.post_core.proofs.OwnerAt.{empties, starts_job}
use Rattle.post_core.proofs.OwnerEnds.{taken_is_active}
use Rattle.post_core.proofs.owner.Exec.take.Goals as goal

pub invariant_of-result : goal.invariant_of-result
invariant_of-result g c =
    let started = map (λ place. place.started.items) c.args.self.hold.jobs.items in
    let taken = map (λ place. place.taken) c.args.self.hold.jobs.items in
    let p = c.args.self.place in
    let entry : Entry g.row.J-Meaning.Denot = record { mark = c.in-Some.field-0-1.mark; meaning = g.J.Meant.meaning c.in-Some.field-0-1.job } in
    let me_is = c.in-Some.ensures.job in
    record {
      is_exec = starts_job started taken c.args.self.hold.got p (let a = c.args.self.empty.1 in let b = c.args.self.near in omega (arith, length-map c.args.self.hold.jobs.items (λ place. place.taken))) c.args.self.start c.args.self.runs c.args.self.hold.seat.me.0 c.args.self.is_exec entry (length-map c.args.self.hold.jobs.items (λ place. place.started.items) ∙ sym (length-map c.args.self.hold.jobs.items (λ place. place.taken)))
          _ _ _ c.keep_started.ensures.started c.keep_started.ensures.taken (ap (λ me. me.0) me_is);
      runs = c.args.self.runs;
      empty = (ap (λ me. me.1) me_is, sym (length-map c.keep_started.new.jobs.items (λ place. place.taken)) ∙ (ap length c.keep_started.ensures.taken ∙ (length-set taken p (slice_index taken p + 1) ∙ (length-map c.args.self.hold.jobs.items (λ place. place.taken) ∙ (c.args.self.empty.1 ∙ ap (λ t. t.slots) (sym c.in-Some.ensures.seat.0))))));
      near = subst (λ t. p < t.slots) (sym c.in-Some.ensures.seat.0) c.args.self.near;
    }

pub invariant_of-result-in-None : goal.invariant_of-result-in-None
invariant_of-result-in-None g c =
    let started = map (λ place. place.started.items) c.args.self.hold.jobs.items in
    let taken = map (λ place. place.taken) c.args.self.hold.jobs.items in
    let me_is = c.in-None.ensures.none refl in
    record {
      is_seen = subst (IsOwnerAt c.args.self.place (serving_after_look (serving_of c.args.self.start)) started taken c.args.self.hold.got) (sym (ap (λ me. me.0) me_is))
          (empties started taken c.args.self.hold.got c.args.self.place (let a = c.args.self.empty.1 in let b = c.args.self.near in omega (arith, length-map c.args.self.hold.jobs.items (λ place. place.taken))) (serving_of c.args.self.start) c.args.self.hold.seat.me.0 c.args.self.is_exec);
      runs = c.args.self.runs;
      empty = (ap (λ me. me.1) me_is, c.args.self.empty.1 ∙ ap (λ t. t.slots) (sym c.first_job.ensures.seat.0));
      near = subst (λ t. c.args.self.place < t.slots) (sym c.first_job.ensures.seat.0) c.args.self.near;
    }

pub returns-in-Some : goal.returns-in-Some
returns-in-Some g c =
    let self = c.args.self in
    let found = c.in-Some.ensures in
    let entry : Entry g.row.J-Meaning.Denot = record { mark = c.in-Some.field-0-1.mark; meaning = g.J.Meant.meaning c.in-Some.field-0-1.job } in
    let row : self.place < length (owner_of self.hold.seat.me.0).jobs = let a = self.is_exec.stands.rows in let b = self.empty.1 in let d = self.near in omega (arith, length-map self.hold.jobs.items (λ place. place.taken)) in (
      found.seat.0 ∙ c.requires.table,
      found.nth,
      subst (λ key. g.J.Meant.suits key.target self.place entry.mark entry.meaning) c.args.post.now.key found.suits,
      refl,
      ap (λ me. me.0) found.job,
      subst (λ u. IsActiveHere (listed (owner_of u).jobs self.place) c.in-Some.nth) (sym (ap (λ me. me.0) found.job)) (taken_is_active self.hold.seat.me.0 self.place c.in-Some.nth entry row found.nth),
    )
