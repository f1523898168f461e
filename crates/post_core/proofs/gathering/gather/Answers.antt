use Rattle.std.proofs.Common.{◌≡◌, ℕ, ◌+◌, ◌-◌, ◌<◌, ◌≤◌, List, [], ◌∷◌, ◌++◌, length, map, get_or, arith, ap, sym, ◌∙◌, inl, inr, length-append}
use Rattle.std.proofs.Math.ListN.{get_or-append}
use Rattle.std.proofs.lemmas.Bool.{cases_lt}
use Rattle.std.proofs.lemmas.List.{get_or-map, get_or-append_right, length-map, map-append}
use Rattle.post_core.specs.declared.records.PlaceJobs.{PlaceJobs}
use Rattle.proxy_laws.specs.declared.records.OwnMark.{OwnMark}
use Rattle.post_core.specs.declared.views.View.{View}
use Rattle.post_core.specs.Kept.{listed}
use Rattle.post_core.specs.Parts.{IsEmptied}
use Rattle.post_core.specs.Records.{place_record}
use Rattle.post_core.proofs.gathering.gather.Goals as goal

module _ (jobs : List PlaceJobs) (n : ℕ) (x : PlaceJobs) (near : n < length jobs) (is : x ≡ get_or jobs n x) where
  started_here : listed (map (λ (place : PlaceJobs). place.started.items) jobs) n ≡ x.started.items
  started_here = get_or-map (λ (place : PlaceJobs). place.started.items) jobs n x [] near ∙ ap (λ (place : PlaceJobs). place.started.items) (sym is)

  taken_here : get_or (map (λ (place : PlaceJobs). place.taken) jobs) n 0 ≡ x.taken
  taken_here = get_or-map (λ (place : PlaceJobs). place.taken) jobs n x 0 near ∙ ap (λ (place : PlaceJobs). place.taken) (sym is)

  kept_first : {M : Type 0} (v : View M) → IsEmptied (map (λ (place : PlaceJobs). place.started.items) jobs) (map (λ (place : PlaceJobs). place.taken) jobs) v → length x.started.items ≤ x.taken
  kept_first v o = let k = o.kept n (omega (arith, length-map jobs (λ (place : PlaceJobs). place.taken))) in let a = k.few in let b = k.taken_is in let c = ap length started_here in let d = taken_here in omega arith

one_more : {X Y : Type 0} (f : X → List Y) (xs all : List X) (x : X) (rhs : ℕ → List Y) (n : ℕ) → length xs ≡ n → all ≡ xs ++ x ∷ [] → ((p : ℕ) → p < n → listed (map f xs) p ≡ rhs p) → f x ≡ rhs n → (p : ℕ) → p < n + 1 → listed (map f all) p ≡ rhs p
one_more f xs all x rhs n wide is each here p near =
    ap (λ ys. listed (map f ys) p) is ∙ (ap (λ ys. get_or ys p []) (map-append f xs (x ∷ [])) ∙ elim (cases_lt p n) [
      | inl first ↦ get_or-append (map f xs) (f x ∷ []) [] p (omega (arith, length-map xs f)) ∙ each p first
      | inr past ↦ let same : p ≡ n = omega arith in
          get_or-append_right (map f xs) (f x ∷ []) n p [] (length-map xs f ∙ wide) past ∙ (ap (λ k. get_or (f x ∷ []) k []) (let e : p - n ≡ 0 = omega arith in e) ∙ (here ∙ ap rhs (sym same)))
    ])

pub place_jobs-requires-clause-first : goal.place_jobs-requires-clause-first
place_jobs-requires-clause-first g c = kept_first c.args.emptied.now.hold.jobs.items c.loop-place.place c.kept-item.result (omega arith) (cc) c.args.emptied.now.hold.seat.me.0 c.args.emptied.now.is_emptied

pub loop-place-preserved : goal.loop-place-preserved
loop-place-preserved g c =
    let jobs = c.args.emptied.now.hold.jobs.items in
    let near : c.loop-place.place < length jobs = omega arith in let is : c.kept-item.result ≡ get_or jobs c.loop-place.place c.kept-item.result = cc in
    let owns : ℕ → List (List OwnMark) = λ p. map (λ pass. listed (map (λ own. own.items) pass.hold.own.items) p) c.args.passes.now.items in record {
      count = let a = c.loop-place.invariant.count in ap length c.in_ok-push.ensures.items ∙ omega (arith, length-append c.loop-place.places.items (record { jobs = c.in_ok-jobs.jobs } ∷ []));
      each = one_more (λ place. place.jobs.items) c.loop-place.places.items c.push.new.self.items (record { jobs = c.in_ok-jobs.jobs })
          (λ p. place_record (listed (map (λ (place : PlaceJobs). place.started.items) jobs) p) (get_or (map (λ (place : PlaceJobs). place.taken) jobs) p 0) (owns p))
          c.loop-place.place c.loop-place.invariant.count c.in_ok-push.ensures.items c.loop-place.invariant.each
          (c.in_ok-jobs.ensures ∙ (λ i. place_record (sym (started_here jobs c.loop-place.place c.kept-item.result near is) i) (sym (taken_here jobs c.loop-place.place c.kept-item.result near is) i) (owns c.loop-place.place)));
    }
