-- What marks written at their numbers make of a list of records.
use Rattle.std.proofs.Common.{◌≡◌, ℕ, zero, suc, ◌+◌, ◌<◌, ◌==◌, Bool, true, false, List, [], ◌∷◌, length, map, get_or, refl, arith, ap, sym, subst, ◌∙◌, length-set, if◌then◌else◌}
use Rattle.std.proofs.lemmas.List.{get_or-set_same, get_or-set_other}
use mathlib.Core.Option.{some, some-injective, some-ne-none}
use mathlib.Core.Logic.{dite}
use native.Mathlib.Decide.{ℕ_discrete}
use lib.ListN.{get_elem?}
use Rattle.std.proofs.lemmas.Bool.{eq-eqb}
use Rattle.proxy_laws.specs.declared.records.JobRecord.{JobRecord}
use Rattle.proxy_laws.specs.declared.records.OwnMark.{OwnMark}
use Rattle.post_core.specs.declared.views.Entry.{Entry}
use Rattle.post_core.specs.Kept.{kept, kept_from}
use Rattle.post_core.specs.Records.{blank_job, no_mark, marked, filled, filled_by_all, own_mark}

-- a record but for its mark
abbrev rest_of : JobRecord → JobRecord
rest_of j = record j { mark = no_mark }

-- the records are those of `all`, but for marks that are still to be written
pub record IsPart (all jobs : List JobRecord) : Type 0 where
  pub wide : length jobs ≡ length all
  pub rests : (n : ℕ) → n < length all → rest_of (get_or jobs n blank_job) ≡ rest_of (get_or all n blank_job)

-- record number n is whole
abbrev pub IsWhole : (all jobs : List JobRecord) → ℕ → Type 0
IsWhole all jobs n = get_or jobs n blank_job ≡ get_or all n blank_job

-- the mark is the one of its number
abbrev pub IsRight : List JobRecord → OwnMark → Type 0
IsRight all k = k.nth < length all → k.mark ≡ (get_or all k.nth blank_job).mark

-- it is the mark of its number
abbrev pub AreRight : List JobRecord → List OwnMark → Type 0
AreRight all ks = (i : ℕ) (k : OwnMark) → get_elem? ks i ≡ some k → IsRight all k

module _ (all jobs : List JobRecord) (k : OwnMark) (right : IsRight all k) (o : IsPart all jobs) where
  written : k.nth < length all → record (get_or jobs k.nth blank_job) { mark = k.mark } ≡ get_or all k.nth blank_job
  written near = ap (λ (j : JobRecord). record j { mark = k.mark }) (o.rests k.nth near) ∙ (λ i. record (get_or all k.nth blank_job) { mark = right near i })

  pub marked_here : k.nth < length all → IsWhole all (marked jobs k) k.nth
  marked_here near = get_or-set_same jobs k.nth _ blank_job (let e = o.wide in omega arith) ∙ written near

  pub marked_whole : (n : ℕ) → n < length all → IsWhole all jobs n → IsWhole all (marked jobs k) n
  marked_whole n near is = dite (ℕ_discrete n k.nth)
      (λ same. subst (λ m. IsWhole all (marked jobs k) m) (sym same) (marked_here (omega arith)))
      (λ ne. get_or-set_other jobs k.nth n _ blank_job ne ∙ is)

  pub marked_part : IsPart all (marked jobs k)
  marked_part = record {
    wide = length-set jobs k.nth _ ∙ o.wide;
    rests = λ n near. dite (ℕ_discrete n k.nth)
        (λ same. ap rest_of (subst (λ m. IsWhole all (marked jobs k) m) (sym same) (marked_here (omega arith))))
        (λ ne. ap rest_of (get_or-set_other jobs k.nth n _ blank_job ne) ∙ o.rests n near);
  }

module _ (all : List JobRecord) where
  pub filled_part : (ks : List OwnMark) (jobs : List JobRecord) → AreRight all ks → IsPart all jobs → IsPart all (filled jobs ks)
  filled_part [] jobs right o = o
  filled_part (k ∷ ks) jobs right o = filled_part ks (marked jobs k) (λ i x at. right (suc i) x at) (marked_part all jobs k (right 0 k refl) o)

  pub filled_whole : (ks : List OwnMark) (jobs : List JobRecord) → AreRight all ks → IsPart all jobs → (n : ℕ) → n < length all → IsWhole all jobs n → IsWhole all (filled jobs ks) n
  filled_whole [] jobs right o n near is = is
  filled_whole (k ∷ ks) jobs right o n near is = filled_whole ks (marked jobs k) (λ i x at. right (suc i) x at) (marked_part all jobs k (right 0 k refl) o) n near (marked_whole all jobs k (right 0 k refl) o n near is)

  pub filled_here : (ks : List OwnMark) (jobs : List JobRecord) → AreRight all ks → IsPart all jobs → (i : ℕ) (k : OwnMark) → get_elem? ks i ≡ some k → k.nth < length all → IsWhole all (filled jobs ks) k.nth
  filled_here [] jobs right o i k at near = absurd (some-ne-none k (sym at))
  filled_here (x ∷ ks) jobs right o zero k at near = let same : x ≡ k = some-injective x k at in
      filled_whole ks (marked jobs x) (λ i y at'. right (suc i) y at') (marked_part all jobs x (right 0 x refl) o) k.nth near
      (subst (λ (y : OwnMark). IsWhole all (marked jobs x) y.nth) same (marked_here all jobs x (right 0 x refl) o (subst (λ (y : OwnMark). y.nth < length all) (sym same) near)))
  filled_here (x ∷ ks) jobs right o (suc i) k at near = filled_here ks (marked jobs x) (λ j y at'. right (suc j) y at') (marked_part all jobs x (right 0 x refl) o) i k at near

  -- each pass keeps the right marks
  abbrev pub AllRight : List (List OwnMark) → Type 0
  AllRight owns = (j : ℕ) (own : List OwnMark) → get_elem? owns j ≡ some own → AreRight all own

  pub all_part : (owns : List (List OwnMark)) (jobs : List JobRecord) → AllRight owns → IsPart all jobs → IsPart all (filled_by_all jobs owns)
  all_part [] jobs right o = o
  all_part (own ∷ owns) jobs right o = all_part owns (filled jobs own) (λ j x at. right (suc j) x at) (filled_part own jobs (right 0 own refl) o)

  pub all_whole : (owns : List (List OwnMark)) (jobs : List JobRecord) → AllRight owns → IsPart all jobs → (n : ℕ) → n < length all → IsWhole all jobs n → IsWhole all (filled_by_all jobs owns) n
  all_whole [] jobs right o n near is = is
  all_whole (own ∷ owns) jobs right o n near is = all_whole owns (filled jobs own) (λ j x at. right (suc j) x at) (filled_part own jobs (right 0 own refl) o) n near (filled_whole own jobs (right 0 own refl) o n near is)

  pub all_here : (owns : List (List OwnMark)) (jobs : List JobRecord) → AllRight owns → IsPart all jobs → (j : ℕ) (own : List OwnMark) → get_elem? owns j ≡ some own → (i : ℕ) (k : OwnMark) → get_elem? own i ≡ some k → k.nth < length all → IsWhole all (filled_by_all jobs owns) k.nth
  all_here [] jobs right o j own there i k at near = absurd (some-ne-none own (sym there))
  all_here (x ∷ owns) jobs right o zero own there i k at near = let same : x ≡ own = some-injective x own there in
      all_whole owns (filled jobs x) (λ j' y at'. right (suc j') y at') (filled_part x jobs (right 0 x refl) o) k.nth near
      (filled_here x jobs (right 0 x refl) o i k (subst (λ (y : List OwnMark). get_elem? y i ≡ some k) (sym same) at) near)
  all_here (x ∷ owns) jobs right o (suc j) own there i k at near = all_here owns (filled jobs x) (λ j' y at'. right (suc j') y at') (filled_part x jobs (right 0 x refl) o) j own there i k at near

module _ {M : Type 0} where
  -- the mark is that of one of the entries, of which the first has the number n
  pub record IsOneOf (n : ℕ) (es : List (Entry M)) (k : OwnMark) : Type 0 where
    pub place : ℕ
    pub nth_is : k.nth ≡ n + place
    pub near : place < length es
    pub mark_is : (d : Entry M) → k.mark ≡ (get_or es place d).mark

  later : (n : ℕ) (e : Entry M) (es : List (Entry M)) (k : OwnMark) → IsOneOf (suc n) es k → IsOneOf n (e ∷ es) k
  later n e es k one = record { place = suc one.place; nth_is = let i = one.nth_is in omega arith; near = let i = one.near in omega arith; mark_is = one.mark_is }

  -- a mark that a pass keeps is the one of its number
  pub kept_right : (n s : ℕ) (es : List (Entry M)) (i : ℕ) (k : OwnMark) → get_elem? (map own_mark (kept_from n s es)) i ≡ some k → IsOneOf n es k
  kept_right n s [] i k at = absurd (some-ne-none k (sym at))
  kept_right n s (e ∷ es) i k at = either_way (λ j. kept_right (suc n) s es j k) (e.mark.sender == s) i at where
    either_way : ((j : ℕ) → get_elem? (map own_mark (kept_from (suc n) s es)) j ≡ some k → IsOneOf (suc n) es k) → (b : Bool) (i : ℕ) → get_elem? (map own_mark (if b then kept n e ∷ kept_from (suc n) s es else kept_from (suc n) s es)) i ≡ some k → IsOneOf n (e ∷ es) k
    either_way rec true zero at = let is : own_mark (kept n e) ≡ k = some-injective (own_mark (kept n e)) k at in record {
      place = 0;
      nth_is = ap (λ (x : OwnMark). x.nth) (sym is) ∙ omega arith;
      near = omega arith;
      mark_is = λ d. ap (λ (x : OwnMark). x.mark) (sym is);
    }
    either_way rec true (suc i) at = later n e es k (rec i at)
    either_way rec false i at = later n e es k (rec i at)

  -- a pass keeps each mark of its sender
  pub record IsThere (n s : ℕ) (es : List (Entry M)) (m : ℕ) : Type 0 where
    pub place : ℕ
    pub mark : OwnMark
    pub at : get_elem? (map own_mark (kept_from n s es)) place ≡ some mark
    pub nth_is : mark.nth ≡ n + m

  pub kept_there : (n s : ℕ) (es : List (Entry M)) (m : ℕ) (d : Entry M) → m < length es → (get_or es m d).mark.sender ≡ s → IsThere n s es m
  kept_there n s [] m d near by = absurd (omega arith)
  kept_there n s (e ∷ es) zero d near by = either_way (e.mark.sender == s) refl where
    either_way : (b : Bool) → (e.mark.sender == s) ≡ b → IsThere n s (e ∷ es) 0
    either_way true is = record { place = 0; mark = own_mark (kept n e); at = rw is refl; nth_is = omega arith }
    either_way false is = absurd (let t = eq-eqb e.mark.sender s by in cc)
  kept_there n s (e ∷ es) (suc m) d near by = either_way (e.mark.sender == s) refl (kept_there (suc n) s es m d (omega arith) by) where
    either_way : (b : Bool) → (e.mark.sender == s) ≡ b → IsThere (suc n) s es m → IsThere n s (e ∷ es) (suc m)
    either_way true is there = record { place = suc there.place; mark = there.mark; at = rw is there.at; nth_is = let i = there.nth_is in omega arith }
    either_way false is there = record { place = there.place; mark = there.mark; at = rw is there.at; nth_is = let i = there.nth_is in omega arith }
