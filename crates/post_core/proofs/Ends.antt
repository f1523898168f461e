-- The record of one place is what the owner keeps of its jobs.
use Rattle.std.proofs.Common.{◌≡◌, ◌≢◌, ℕ, suc, ◌-◌, ◌<◌, ◌≤◌, Option, Some, None, List, [], ◌∷◌, ◌++◌, length, map, get_or, replicate, refl, arith, ap, sym, subst, ◌∙◌, inl, inr, length-append}
use Rattle.std.proofs.Math.ListN.{get_or-append}
use Rattle.std.proofs.lemmas.Bool.{cases_lt}
use Rattle.std.proofs.lemmas.List.{length-map, length-replicate, get_or-replicate, get_or-map, get_or-take, get_or-append_right, ext_get_or}
use mathlib.Core.Option.{some}
use lib.ListN.{get_elem?}
use Rattle.proxy_laws.specs.declared.records.FateMark.{FateMark}
use Rattle.proxy_laws.specs.declared.records.JobRecord.{JobRecord}
use Rattle.proxy_laws.specs.declared.records.Mark.{Mark}
use Rattle.proxy_laws.specs.Fates.{AreRecordsOf}
use Rattle.proxy_laws.specs.declared.records.OwnMark.{OwnMark}
use Rattle.post_core.specs.declared.records.StartedJob.{StartedJob}
use Rattle.post_core.specs.declared.views.Entry.{Entry}
use Rattle.post_core.specs.declared.views.Held.{Held}
use Rattle.post_core.specs.Kept.{kept_by, marks_of}
use Rattle.post_core.specs.Records.{AreSettled, IsKept, blank_job, no_mark, fate_or_cancelled, held_entry, held_job, held_record, own_mark, place_record, record_of, started_job}
use Rattle.post_core.proofs.Fills.{IsPart, AllRight, all_part, all_here, kept_right, kept_there}

-- a list that has a number has a member
some_of : {X : Type 0} (xs : List X) (n : ℕ) → n < length xs → X
some_of [] n near = absurd (omega arith)
some_of (x ∷ xs) n near = x

module _ {M : Type 0} (held : List (Held M)) where
  abbrev all : List JobRecord
  all = map held_record held

  -- each list of marks is what the pass of some sender keeps, and each sender that put a job here is among them
  pub record AreOwns (owns : List (List OwnMark)) : Type 0 where
    pub owner_of : ℕ → ℕ
    pub each : (j : ℕ) (own : List OwnMark) → get_elem? owns j ≡ some own → own ≡ map own_mark (kept_by (owner_of j) (map held_entry held))
    pub there : (n : ℕ) (d : Held M) → n < length held → (j : ℕ) × (own : List OwnMark) × (get_elem? owns j ≡ some own) × (owner_of j ≡ (get_or held n d).mark.sender)

  module _ (kept_jobs : List StartedJob) (taken : ℕ) (o : IsKept held kept_jobs taken) where
    abbrev base : List JobRecord
    base = map record_of kept_jobs ++ replicate (taken - length kept_jobs) blank_job

    base_wide : length base ≡ length all
    base_wide = let a = o.taken_is in let b = o.few in omega (arith, length-append (map record_of kept_jobs) (replicate (taken - length kept_jobs) blank_job), length-map kept_jobs record_of, length-map held held_record, length-replicate (taken - length kept_jobs) blank_job)

    -- the first jobs are whole
    front_is : (n : ℕ) (d : Held M) → n < length kept_jobs → get_or base n blank_job ≡ get_or all n blank_job
    front_is n d near = let few = o.few in
        get_or-append (map record_of kept_jobs) (replicate (taken - length kept_jobs) blank_job) blank_job n (omega (arith, length-map kept_jobs record_of))
        ∙ (get_or-map record_of kept_jobs n (started_job d) blank_job near
        ∙ (ap (λ (js : List StartedJob). record_of (get_or js n (started_job d))) (sym o.front)
        ∙ (ap record_of (get_or-take (length kept_jobs) (map started_job held) n (started_job d) near)
        ∙ (ap record_of (get_or-map started_job held n d (started_job d) (omega arith))
        ∙ sym (get_or-map held_record held n d blank_job (omega arith))))))

    back_is : (n : ℕ) (d : Held M) → length kept_jobs ≤ n → n < length held → record (get_or base n blank_job) { mark = no_mark } ≡ record (get_or all n blank_job) { mark = no_mark }
    back_is n d past near = let t = o.taken_is in let b = o.back n d past near in
        ap (λ (j : JobRecord). record j { mark = no_mark })
        (get_or-append_right (map record_of kept_jobs) (replicate (taken - length kept_jobs) blank_job) (length kept_jobs) n blank_job (length-map kept_jobs record_of) past
        ∙ get_or-replicate (taken - length kept_jobs) (n - length kept_jobs) blank_job blank_job (omega arith))
        ∙ ((λ i. record { mark = no_mark; started = sym b.0 i; fate = fate_or_cancelled (sym b.1 i) })
        ∙ ap (λ (j : JobRecord). record j { mark = no_mark }) (sym (get_or-map held_record held n d blank_job near)))

    base_part : IsPart all base
    base_part = record {
      wide = base_wide;
      rests = λ n near. let inside : n < length held = omega (arith, length-map held held_record) in let d = some_of held n inside in elim (cases_lt n (length kept_jobs)) [
        | inl first ↦ ap (λ (j : JobRecord). record j { mark = no_mark }) (front_is n d first)
        | inr past ↦ back_is n d past inside
      ];
    }

    owns_right : (owns : List (List OwnMark)) → AreOwns owns → AllRight all owns
    owns_right owns a j own at i k there near =
        let one = kept_right 0 (a.owner_of j) (map held_entry held) i k (subst (λ (x : List OwnMark). get_elem? x i ≡ some k) (a.each j own at) there) in
        let same : k.nth ≡ one.place = let e = one.nth_is in omega arith in
        let inside : one.place < length held = let e = one.near in omega (arith, length-map held held_entry) in
        let d = some_of held one.place inside in
        one.mark_is (held_entry d)
        ∙ (ap (λ (e : Entry M). e.mark) (get_or-map held_entry held one.place d (held_entry d) inside)
        ∙ (sym (ap (λ (j : JobRecord). j.mark) (get_or-map held_record held one.place d blank_job inside))
        ∙ ap (λ n. (get_or all n blank_job).mark) (sym same)))

    whole : (owns : List (List OwnMark)) → AreOwns owns → (n : ℕ) → n < length held → get_or (place_record kept_jobs taken owns) n blank_job ≡ get_or all n blank_job
    whole owns a n inside =
        let d = some_of held n inside in
        let t = a.there n d inside in
        let k = kept_there 0 (a.owner_of t.0) (map held_entry held) n (held_entry d) (omega (arith, length-map held held_entry))
        (ap (λ (e : Entry M). e.mark.sender) (get_or-map held_entry held n d (held_entry d) inside) ∙ sym t.3) in
        let same : k.mark.nth ≡ n = let e = k.nth_is in omega arith in
        subst (λ m. get_or (place_record kept_jobs taken owns) m blank_job ≡ get_or all m blank_job) same
        (all_here all owns base (owns_right owns a) base_part t.0 t.1 t.2 k.place k.mark (subst (λ (x : List OwnMark). get_elem? x k.place ≡ some k.mark) (sym (a.each t.0 t.1 t.2)) k.at)
        (omega (arith, length-map held held_record)))

    pub place_record_is : (owns : List (List OwnMark)) → AreOwns owns → place_record kept_jobs taken owns ≡ all
    place_record_is owns a =
        let part = all_part all owns base (owns_right owns a) base_part in
        ext_get_or blank_job (place_record kept_jobs taken owns) all part.wide (λ n near. whole owns a n (let w = part.wide in omega (arith, length-map held held_record)))

settled_job : (f : Option FateMark) → f ≢ None → Some (fate_or_cancelled f) ≡ f
settled_job None ne = absurd (ne refl)
settled_job (Some f) ne = refl

-- so it is the record of the world's place
pub records_of_held : {M : Type 0} (held : List (Held M)) → AreSettled held → AreRecordsOf (marks_of (map held_entry held)) (map held_job held) (map held_record held)
records_of_held [] settled = record { marks_are = refl; jobs_are = refl }
records_of_held (h ∷ held) settled = let rest = records_of_held held (λ n d near. settled (suc n) d (omega arith)) in record {
  marks_are = ap (λ (ms : List Mark). h.mark ∷ ms) rest.marks_are;
  jobs_are = λ i. record { started = h.started; fate = settled_job h.fate (settled 0 h (omega arith)) i } ∷ rest.jobs_are i;
}
