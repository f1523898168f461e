-- That a runner holds just the active jobs stays so.
use Rattle.std.proofs.Common.{◌≡◌, ◌≢◌, ℕ, zero, suc, ◌+◌, ◌<◌, inl, inr, Bool, true, false, Option, Some, None, List, [], ◌∷◌, ◌++◌, length, set, refl, arith, sym, ap, ◌∙◌, length-append, length-set}
use Rattle.std.specs.Prelude.{◌==◌, ◌&&◌, if◌then◌else◌, slice_get}
use Rattle.std.proofs.Math.Nat.{zero-add}
use Rattle.std.proofs.lemmas.Bool.{cases_lt}
use Rattle.std.proofs.lemmas.Bool.Decides.{nat_tests}
use Rattle.std.proofs.lemmas.List.{get_or-set_same, get_or-set_other, set_past}
use Rattle.std.proofs.lemmas.Option.{slice_get-get_or, slice_get_past, slice_get_within}
use mathlib.Core.Logic.{dite}
use native.Mathlib.Decide.{ℕ_discrete}
use Rattle.proxy_laws.specs.declared.records.FateMark.{FateMark}
use Rattle.post_core.specs.declared.views.Held.{Held}
use Rattle.post_core.specs.Kept.{listed}
use Rattle.post_core.specs.Records.{AreSettled}
use Rattle.post_core.specs.Views.{held_settled, settled_held}
use Rattle.post_core.proofs.OwnerEnds.{last_is}
use Rattle.mailbox.specs.declared.calls.RunJob.{RunJob}
use Rattle.mailbox.specs.Deeds.{IsActiveJob, IsNextJob, fate_given, job_added, kept_job}
use Rattle.mailbox.specs.Holding.{AreKeptAs, HoldsActive, IsKeptAs, has_no_fate, is_active, is_job_at, is_open, times_held}
use Rattle.proxy_laws.specs.declared.records.Started.{Started}
use Rattle.mailbox.proofs.DeedLemmas.{started_there}
use Rattle.mailbox.proofs.TurnLemmas.{row_inside}

slice_get_set : {X : Type 0} (xs : List X) (i : ℕ) (a : X) → i < length xs → slice_get (set xs i a) i ≡ Some a
slice_get_set [] i a inside = absurd (omega arith)
slice_get_set (x ∷ xs) zero a inside = refl
slice_get_set (x ∷ xs) (suc i) a inside = slice_get_set xs i a (omega arith)

slice_get_other : {X : Type 0} (xs : List X) (i j : ℕ) (a : X) → j ≢ i → slice_get (set xs i a) j ≡ slice_get xs j
slice_get_other [] i j a ne = refl
slice_get_other (x ∷ xs) zero zero a ne = absurd (ne refl)
slice_get_other (x ∷ xs) zero (suc j) a ne = refl
slice_get_other (x ∷ xs) (suc i) zero a ne = refl
slice_get_other (x ∷ xs) (suc i) (suc j) a ne = slice_get_other xs i j a (λ e. ne (ap suc e))

slice_get_front : {X : Type 0} (xs ys : List X) (i : ℕ) → i < length xs → slice_get (xs ++ ys) i ≡ slice_get xs i
slice_get_front [] ys i inside = absurd (omega arith)
slice_get_front (x ∷ xs) ys zero inside = refl
slice_get_front (x ∷ xs) ys (suc i) inside = slice_get_front xs ys i (omega arith)

same_some : {X : Type 0} (x y : X) → Some x ≡ Some y → x ≡ y
same_some x y e = cc

here_true : (p n : ℕ) → ((p == p) && (n == n)) ≡ true
here_true p n = grind (arith, nat_tests)

there_false : (p n q m : ℕ) → (q ≡ p → m ≢ n) → ((p == q) && (n == m)) ≡ false
there_false p n q m ne = dite (ℕ_discrete q p)
    (λ same. let apart = ne same in grind (arith, nat_tests))
    (λ other. grind (arith, nat_tests))

fate_none : (o : Option FateMark) → has_no_fate o ≡ true → o ≡ None
fate_none None e = refl
fate_none (Some f) e = cc

-- of a job that is held, and of k others
one_held : (b : Bool) (k : ℕ) → 1 + k ≡ (if b then 1 else 0) → (b ≡ true) × (k ≡ 0)
one_held true k e = (refl, omega (arith, e))
one_held false k e = absurd (omega (arith, e))

add_zero_left : (a : ℕ) → a ≡ 0 + a
add_zero_left a = sym (zero-add a)

add_more : (a b c : ℕ) → a + (b + c) ≡ a + b + c
add_more a b c = omega arith

add_none : (a : ℕ) → a + 0 ≡ a
add_none a = omega arith

module _ {M : Type 0} where
  -- a job that the owner keeps is kept after, with its mark and its meaning
  abbrev Keeps : List (List (Held M)) → List (List (Held M)) → Type 0
  Keeps jobs jobs' = (q m : ℕ) (x : Held M) → slice_get (listed jobs q) m ≡ Some x → (y : Held M) × (slice_get (listed jobs' q) m ≡ Some y) × (y.mark ≡ x.mark) × (y.meaning ≡ x.meaning)

  kept_on : (target : ℕ) (jobs jobs' : List (List (Held M))) → Keeps jobs jobs' → (held : List (RunJob M)) → AreKeptAs target jobs held → AreKeptAs target jobs' held
  kept_on target jobs jobs' keeps [] a = a
  kept_on target jobs jobs' keeps (j ∷ js) a = let k = a.0 in let y = keeps j.place j.nth k.kept k.there in (
    record { target_is = k.target_is; kept = y.0; there = y.1; mark_is = y.2 ∙ k.mark_is; meaning_is = y.3 ∙ k.meaning_is },
    kept_on target jobs jobs' keeps js a.1,
  )

  -- one job is settled
  given_here : (jobs : List (List (Held M))) (p n : ℕ) (f : FateMark) (h : Held M) → slice_get (listed jobs p) n ≡ Some h → listed (fate_given p n f jobs) p ≡ set (listed jobs p) n (settled_held f h)
  given_here jobs p n f h at = get_or-set_same jobs p (held_settled (listed jobs p) n f (slice_get (listed jobs p) n)) [] (row_inside jobs p n (slice_get_within (listed jobs p) n h at)) ∙ ap (held_settled (listed jobs p) n f) at

  given_there : (jobs : List (List (Held M))) (p n : ℕ) (f : FateMark) (h : Held M) → slice_get (listed jobs p) n ≡ Some h → slice_get (listed (fate_given p n f jobs) p) n ≡ Some (settled_held f h)
  given_there jobs p n f h at = ap (λ l. slice_get l n) (given_here jobs p n f h at) ∙ slice_get_set (listed jobs p) n (settled_held f h) (slice_get_within (listed jobs p) n h at)

  given_other : (jobs : List (List (Held M))) (p n : ℕ) (f : FateMark) (h : Held M) → slice_get (listed jobs p) n ≡ Some h → (q m : ℕ) → (q ≡ p → m ≢ n) → slice_get (listed (fate_given p n f jobs) q) m ≡ slice_get (listed jobs q) m
  given_other jobs p n f h at q m ne = dite (ℕ_discrete q p)
      (λ same. ap (λ k. slice_get (listed (fate_given p n f jobs) k) m) same ∙ (ap (λ l. slice_get l m) (given_here jobs p n f h at) ∙ (slice_get_other (listed jobs p) n m (settled_held f h) (ne same) ∙ ap (λ k. slice_get (listed jobs k) m) (sym same))))
      (λ other. ap (λ l. slice_get l m) (get_or-set_other jobs p q (held_settled (listed jobs p) n f (slice_get (listed jobs p) n)) [] other))

  given_keeps : (jobs : List (List (Held M))) (p n : ℕ) (f : FateMark) (h : Held M) → slice_get (listed jobs p) n ≡ Some h → Keeps jobs (fate_given p n f jobs)
  given_keeps jobs p n f h at q m x is = dite (ℕ_discrete q p)
      (λ same. dite (ℕ_discrete m n)
      (λ last. let x_is : h ≡ x = same_some h x (sym at ∙ (λ i. slice_get (listed jobs (sym same i)) (sym last i)) ∙ is) in
      (settled_held f h, (λ i. slice_get (listed (fate_given p n f jobs) (same i)) (last i)) ∙ given_there jobs p n f h at, ap (λ y. y.mark) x_is, ap (λ y. y.meaning) x_is))
      (λ ne. (x, given_other jobs p n f h at q m (λ e. ne) ∙ is, refl, refl)))
      (λ other. (x, given_other jobs p n f h at q m (λ e. absurd (other e)) ∙ is, refl, refl))

  -- the oldest held job is active
  pub first_active : (target places : ℕ) (jobs : List (List (Held M))) (j : RunJob M) (js : List (RunJob M)) → HoldsActive target places jobs (j ∷ js) → IsActiveJob target jobs j
  first_active target places jobs j js holds =
      let k = holds.kept.0 in
      let one = one_held (is_active jobs j.place j.nth) (times_held j.place j.nth js) (ap (λ b. (if b then 1 else 0) + times_held j.place j.nth js) (sym (here_true j.place j.nth)) ∙ holds.once j.place j.nth) in
      (k.target_is, (k.kept, k.there, k.mark_is, k.meaning_is, fate_none k.kept.fate (ap is_open (sym k.there) ∙ one.0)))

  -- it is given up, and settled
  pub first_given : (target places : ℕ) (jobs : List (List (Held M))) (j : RunJob M) (js : List (RunJob M)) (f : FateMark) → HoldsActive target places jobs (j ∷ js) → HoldsActive target places (fate_given j.place j.nth f jobs) js
  first_given target places jobs j js f holds =
      let p = j.place in
      let n = j.nth in
      let k = holds.kept.0 in
      let jobs' = fate_given p n f jobs in
      let none : times_held p n js ≡ 0 = (one_held (is_active jobs p n) (times_held p n js) (ap (λ b. (if b then 1 else 0) + times_held p n js) (sym (here_true p n)) ∙ holds.once p n)).1 in
      let elsewhere : (q m : ℕ) → (q ≡ p → m ≢ n) → times_held q m js ≡ (if is_active jobs' q m then 1 else 0) = λ q m ne.
      sym (zero-add (times_held q m js)) ∙ (ap (λ b. (if b then 1 else 0) + times_held q m js) (sym (there_false p n q m ne)) ∙ (holds.once q m ∙ ap (λ x. if is_open x then 1 else 0) (sym (given_other jobs p n f k.kept k.there q m ne)))) in
      record {
        wide = (let w = holds.wide in omega (arith, w, length-set jobs p (held_settled (listed jobs p) n f (slice_get (listed jobs p) n))));
        kept = kept_on target jobs jobs' (given_keeps jobs p n f k.kept k.there) js holds.kept.1;
        once = λ q m. dite (ℕ_discrete q p)
            (λ same. dite (ℕ_discrete m n)
            (λ last. (λ i. times_held (same i) (last i) js) ∙ (none ∙ ap (λ x. if is_open x then 1 else 0) (sym ((λ i. slice_get (listed jobs' (same i)) (last i)) ∙ given_there jobs p n f k.kept k.there))))
            (λ ne. elsewhere q m (λ e. ne)))
            (λ other. elsewhere q m (λ e. absurd (other e)));
      }

  -- where no job is held, none is active
  pub none_active : (target places : ℕ) (jobs : List (List (Held M))) → HoldsActive target places jobs [] → (p : ℕ) → AreSettled (listed jobs p)
  none_active target places jobs holds p n d inside opened =
      let active : is_active jobs p n ≡ true = ap is_open (slice_get-get_or (listed jobs p) n d inside) ∙ ap has_no_fate opened in
      let one : 0 ≡ 1 = holds.once p n ∙ ap (λ b. if b then 1 else 0) active in
      absurd (omega (arith, one))

  -- a job more, which is settled
  module _ (jobs : List (List (Held M))) (p : ℕ) (x : Held M) where
    abbrev row : List (Held M)
    row = listed jobs p

    added_get : (m : ℕ) → p < length jobs → m < length row → slice_get (listed (job_added p x jobs) p) m ≡ slice_get row m
    added_get m there inside = ap (λ l. slice_get l m) (get_or-set_same jobs p (row ++ x ∷ []) [] there) ∙ slice_get_front row (x ∷ []) m inside

    added_keeps : Keeps jobs (job_added p x jobs)
    added_keeps q m y is = dite (ℕ_discrete q p)
        (λ same. let at : slice_get row m ≡ Some y = ap (λ k. slice_get (listed jobs k) m) (sym same) ∙ is in let inside = slice_get_within row m y at in
        (y, ap (λ k. slice_get (listed (job_added p x jobs) k) m) same ∙ (added_get m (row_inside jobs p m inside) inside ∙ at), refl, refl))
        (λ other. (y, ap (λ l. slice_get l m) (get_or-set_other jobs p q (row ++ x ∷ []) [] other) ∙ is, refl, refl))

    added_active : (f : FateMark) → x.fate ≡ Some f → (q m : ℕ) → is_active (job_added p x jobs) q m ≡ is_active jobs q m
    added_active f settled q m = elim (cases_lt p (length jobs)) [
      | inr past ↦ ap (λ js. is_active js q m) (set_past jobs p (row ++ x ∷ []) past)
      | inl there ↦ dite (ℕ_discrete q p)
          (λ same. ap (λ k. is_active (job_added p x jobs) k m) same ∙ (at_p there ∙ ap (λ k. is_active jobs k m) (sym same)))
          (λ other. ap (λ l. is_open (slice_get l m)) (get_or-set_other jobs p q (row ++ x ∷ []) [] other))
    ] where
      at_p : p < length jobs → is_active (job_added p x jobs) p m ≡ is_active jobs p m
      at_p there = elim (cases_lt m (length row)) [
        | inl inside ↦ ap is_open (added_get m there inside)
        | inr past ↦ ap (λ l. is_open (slice_get l m)) (get_or-set_same jobs p (row ++ x ∷ []) [] there) ∙ (dite (ℕ_discrete m (length row))
            (λ last. ap is_open (ap (slice_get (row ++ x ∷ [])) last ∙ last_is row x) ∙ (ap has_no_fate settled ∙ ap is_open (sym (slice_get_past row m past))))
            (λ ne. ap is_open (slice_get_past (row ++ x ∷ []) m (omega (arith, length-append row (x ∷ []))) ∙ sym (slice_get_past row m past))))
      ]

    -- where it is not the last of p, a job is active as it was
    added_else : (q m : ℕ) → p < length jobs → (q ≡ p → m ≢ length row) → is_active (job_added p x jobs) q m ≡ is_active jobs q m
    added_else q m there ne = dite (ℕ_discrete q p)
        (λ same. ap (λ k. is_active (job_added p x jobs) k m) same ∙ (at_p (ne same) ∙ ap (λ k. is_active jobs k m) (sym same)))
        (λ other. ap (λ l. is_open (slice_get l m)) (get_or-set_other jobs p q (row ++ x ∷ []) [] other)) where
          at_p : m ≢ length row → is_active (job_added p x jobs) p m ≡ is_active jobs p m
          at_p apart = elim (cases_lt m (length row)) [
            | inl inside ↦ ap is_open (added_get m there inside)
            | inr past ↦ ap (λ l. is_open (slice_get l m)) (get_or-set_same jobs p (row ++ x ∷ []) [] there) ∙ (ap is_open (slice_get_past (row ++ x ∷ []) m (let long = length-append row (x ∷ []) in let over : length row < m = (elim (cases_lt (length row) m) [ inl less ↦ less | inr more ↦ absurd (apart (omega arith)) ]) in omega arith)) ∙ sym (ap is_open (slice_get_past row m past)))
          ]

    pub added_holds : (target places : ℕ) (f : FateMark) → x.fate ≡ Some f → (held : List (RunJob M)) → HoldsActive target places jobs held → HoldsActive target places (job_added p x jobs) held
    added_holds target places f settled held holds = record {
      wide = (let w = holds.wide in omega (arith, w, length-set jobs p (row ++ x ∷ [])));
      kept = kept_on target jobs (job_added p x jobs) added_keeps held holds.kept;
      once = λ q m. holds.once q m ∙ ap (λ b. if b then 1 else 0) (sym (added_active f settled q m));
    }

  times_append : (p n : ℕ) (js : List (RunJob M)) (j : RunJob M) → times_held p n (js ++ j ∷ []) ≡ times_held p n js + (if is_job_at p n j then 1 else 0)
  times_append p n [] j = omega arith
  times_append p n (k ∷ js) j = ap (λ t. (if is_job_at p n k then 1 else 0) + t) (times_append p n js j) ∙ add_more (if is_job_at p n k then 1 else 0) (times_held p n js) (if is_job_at p n j then 1 else 0)

  kept_append : (target : ℕ) (jobs : List (List (Held M))) (js : List (RunJob M)) (j : RunJob M) → AreKeptAs target jobs js → IsKeptAs target jobs j → AreKeptAs target jobs (js ++ j ∷ [])
  kept_append target jobs [] j a k = (k, tt)
  kept_append target jobs (i ∷ js) j a k = (a.0, kept_append target jobs js j a.1 k)

  -- a job more, which is held
  pub added_held : (jobs : List (List (Held M))) (target places : ℕ) (j : RunJob M) (s : Started) → IsNextJob target jobs j → (held : List (RunJob M)) → HoldsActive target places jobs held → HoldsActive target places (job_added j.place (kept_job j s None) jobs) (held ++ j ∷ [])
  added_held jobs target places j s next held holds =
      let p = j.place in
      let n = j.nth in
      let x = kept_job j s None in
      let after = job_added p x jobs in
      let last : slice_get (listed after p) n ≡ Some x = started_there jobs p n x next.1 next.2 in
      let none : times_held p n held ≡ 0 = holds.once p n ∙ ap (λ y. if is_open y then 1 else 0) (ap (slice_get (listed jobs p)) next.2 ∙ slice_get_past (listed jobs p) (length (listed jobs p)) (omega arith)) in
      let elsewhere : (q m : ℕ) → (q ≡ p → m ≢ n) → times_held q m (held ++ j ∷ []) ≡ (if is_active after q m then 1 else 0) = λ q m ne.
      times_append q m held j ∙ (ap (λ b. times_held q m held + (if b then 1 else 0)) (there_false p n q m ne) ∙ (add_none (times_held q m held) ∙ (holds.once q m ∙ ap (λ b. if b then 1 else 0) (sym (added_else jobs p x q m next.1 (λ e f. ne e (f ∙ sym next.2))))))) in
      record {
        wide = (let w = holds.wide in omega (arith, w, length-set jobs p (listed jobs p ++ x ∷ [])));
        kept = kept_append target after held j (kept_on target jobs after (added_keeps jobs p x) held holds.kept) (record { target_is = next.0; kept = x; there = last; mark_is = refl; meaning_is = refl });
        once = λ q m. dite (ℕ_discrete q p)
            (λ same. dite (ℕ_discrete m n)
            (λ here. (λ i. times_held (same i) (here i) (held ++ j ∷ [])) ∙ (times_append p n held j ∙ ((λ i. none i + (if here_true p n i then 1 else 0)) ∙ ap (λ y. if is_open y then 1 else 0) (sym ((λ i. slice_get (listed after (same i)) (here i)) ∙ last)))))
            (λ ne. elsewhere q m (λ e. ne)))
            (λ other. elsewhere q m (λ e. absurd (other e)));
      }
