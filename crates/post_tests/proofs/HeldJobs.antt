-- Which of the jobs that an owner took are active, step by step.
use Rattle.std.proofs.Common.{◌≡◌, ◌≢◌, ℕ, zero, suc, ◌<◌, inl, inr, Option, Some, None, List, [], ◌∷◌, ◌++◌, length, get_or, set, replicate, refl, arith, ap, sym, subst, ◌∙◌, length-append, length-set}
use Rattle.std.specs.Prelude.{◌/◌, slice_get}
use Rattle.std.proofs.Math.ListN.{get_or-append}
use Rattle.std.proofs.Math.Seq.{get_or-append_seam}
use Rattle.std.proofs.lemmas.Bool.{cases_lt}
use Rattle.std.proofs.lemmas.List.{get_or-set_same, get_or-set_other, get_or_past, set_past}
use Rattle.std.proofs.lemmas.Option.{get_or_from_slice_get, slice_get-get_or}
use mathlib.Core.Logic.{dite}
use native.Mathlib.Decide.{ℕ_discrete}
use Rattle.proxy_laws.specs.declared.records.FateMark.{FateMark}
use Rattle.proxy_laws.specs.Lists.{start_under}
use Rattle.post_core.specs.declared.views.Entry.{Entry}
use Rattle.post_core.specs.declared.views.Held.{Held}
use Rattle.post_core.specs.declared.views.View.{View}
use Rattle.post_core.specs.ClosingViews.{AreRounds, left_cleared}
use Rattle.post_core.specs.Kept.{listed}
use Rattle.post_core.specs.MailSteps.{IsFirstNotice, words_empty}
use Rattle.post_core.specs.ServingSteps.{job_started, serving_at}
use Rattle.post_core.specs.Steps.{IsActiveHere}
use Rattle.post_core.specs.Views.{job_settled, owner_of, settled_as, settled_held}
use Rattle.post_core.proofs.OwnerEnds.{last_is, set_last}
use Rattle.post_tests.specs.Scenes.{AreHeld, HasHeld}

some_same : (p q : ℕ) → Some p ≡ Some q → p ≡ q
some_same p q e = cc

module _ {M : Type 0} where
  -- looking into the mailbox, getting a notice and clearing a place change no job
  words_jobs : (word : ℕ) (v : View M) → (owner_of (words_empty word v)).jobs ≡ (owner_of v).jobs
  words_jobs zero v = refl
  words_jobs (suc word) v = words_jobs word v

  cleared_jobs : (left : Option ℕ) (v : View M) → (owner_of (left_cleared left v)).jobs ≡ (owner_of v).jobs
  cleared_jobs None v = refl
  cleared_jobs (Some p) v = refl

  pub first_jobs : (p : ℕ) (v u : View M) → IsFirstNotice p v u → (owner_of u).jobs ≡ (owner_of v).jobs
  first_jobs p v u first = ap (λ x. (owner_of x).jobs) first.3 ∙ words_jobs (p / 64) v

  pub none_jobs : (v u : View M) → u ≡ words_empty 4 v → (owner_of u).jobs ≡ (owner_of v).jobs
  none_jobs v u is = ap (λ x. (owner_of x).jobs) is ∙ words_jobs 4 v

  pub rounds_jobs : (n : ℕ) (left : Option ℕ) (v : View M) (left_after : Option ℕ) (u : View M) → AreRounds n left v left_after u → (owner_of u).jobs ≡ (owner_of v).jobs
  rounds_jobs zero left v left_after u r = ap (λ x. (owner_of x).jobs) r.1
  rounds_jobs (suc n) left v left_after u r = first_jobs r.2 (left_cleared r.0 r.1) u r.5 ∙ (cleared_jobs r.0 r.1 ∙ rounds_jobs n left v r.0 r.1 r.3)

  pub done_jobs : (left : Option ℕ) (v u : View M) → u ≡ words_empty 4 (left_cleared left v) → (owner_of u).jobs ≡ (owner_of v).jobs
  done_jobs left v u is = none_jobs (left_cleared left v) u is ∙ cleared_jobs left v

  pub same_held : (held : Option ℕ) (v u : View M) → (owner_of u).jobs ≡ (owner_of v).jobs → HasHeld held v → HasHeld held u
  same_held held v u same o = subst (AreHeld held) (sym same) o

  none_listed : (n p : ℕ) → listed (replicate {A = List (Held M)} n []) p ≡ []
  none_listed zero p = refl
  none_listed (suc n) zero = refl
  none_listed (suc n) (suc p) = none_listed n p

  -- an owner that has taken no job
  pub fresh_held : (places : ℕ) → AreHeld None (replicate {A = List (Held M)} places [])
  fresh_held places = record {
    here = λ n is. absurd (none_is_some n is);
    others = λ p n d inside other. absurd (let none = ap length (none_listed places p) in omega arith);
  } where
    none_is_some : (n : ℕ) → None ≡ Some n → ⊥
    none_is_some n e = cc

  get_front : (row : List (Held M)) (x : Held M) (n : ℕ) (h : Held M) → n < length row → slice_get row n ≡ Some h → slice_get (row ++ x ∷ []) n ≡ Some h
  get_front row x n h inside at = slice_get-get_or (row ++ x ∷ []) n h (omega (arith, length-append row (x ∷ []))) ∙ ap Some (get_or-append row (x ∷ []) h n inside ∙ get_or_from_slice_get row n h h at)

  -- one job more at p, which is settled, or is the one that is held
  module _ (jobs then : List (List (Held M))) (p : ℕ) (x : Held M) (here_is : listed then p ≡ listed jobs p ++ x ∷ []) (else_is : (q : ℕ) → q ≢ p → listed then q ≡ listed jobs q) where
    abbrev row : List (Held M)
    row = listed jobs p

    other_job : (q n : ℕ) (d : Held M) → n < length (listed then q) → (q ≡ p → n ≢ length row) → (n < length (listed jobs q)) × (get_or (listed then q) n d ≡ get_or (listed jobs q) n d)
    other_job q n d inside not_last = dite (ℕ_discrete q p)
        (λ same. let below : n < length row = (let a = not_last same in let long = ap length here_is in let w = ap (λ k. length (listed then k)) same in omega (arith, length-append row (x ∷ []))) in (
          subst (λ k. n < length (listed jobs k)) (sym same) below,
          ap (λ k. get_or (listed then k) n d) same ∙ (ap (λ l. get_or l n d) here_is ∙ (get_or-append row (x ∷ []) d n below ∙ ap (λ k. get_or (listed jobs k) n d) (sym same))),
        ))
        (λ ne. (subst (λ l. n < length l) (else_is q ne) inside, ap (λ l. get_or l n d) (else_is q ne)))

    pub more_settled : x.fate ≢ None → (held : Option ℕ) → AreHeld held jobs → AreHeld held then
    more_settled settled held o = record {
      here = λ n is. let was = o.here n is in dite (ℕ_discrete 0 p)
          (λ same. subst (λ k. IsActiveHere (listed then k) n) (sym same) (
            (let long = ap length here_is in let a = was.0 in let w = ap (λ k. length (listed jobs k)) same in omega (arith, length-append row (x ∷ []))),
            (was.1.0, ap (λ l. slice_get l n) here_is ∙ get_front row x n was.1.0 (subst (λ k. n < length (listed jobs k)) same was.0) (subst (λ k. slice_get (listed jobs k) n ≡ Some was.1.0) same was.1.1), was.1.2),
          ))
          (λ ne. subst (λ l. IsActiveHere l n) (sym (else_is 0 ne)) was);
      others = λ q n d inside other. dite (ℕ_discrete q p)
          (λ same. dite (ℕ_discrete n (length row))
          (λ last. subst (λ (y : Held M). y.fate ≢ None) (sym (ap (λ k. get_or (listed then k) n d) same ∙ (ap (λ l. get_or l n d) here_is ∙ (ap (λ k. get_or (row ++ x ∷ []) k d) last ∙ get_or-append_seam row x [] d)))) settled)
          (λ before. let was = other_job q n d inside (λ e. before) in subst (λ (y : Held M). y.fate ≢ None) (sym was.1) (o.others q n d was.0 other)))
          (λ ne. let was = other_job q n d inside (λ same. absurd (ne same)) in subst (λ (y : Held M). y.fate ≢ None) (sym was.1) (o.others q n d was.0 other));
    }

    pub more_held : p ≡ 0 → IsActiveHere (listed then 0) (length row) → AreHeld None jobs → AreHeld (Some (length row)) then
    more_held first active o = record {
      here = λ n is. subst (IsActiveHere (listed then 0)) (some_same (length row) n is) active;
      others = λ q n d inside other. let was = other_job q n d inside (λ same e. other (same ∙ first) (ap Some (sym e))) in
          subst (λ (y : Held M). y.fate ≢ None) (sym was.1) (o.others q n d was.0 (λ e is. absurd (none_is n is)));
    } where
      none_is : (n : ℕ) → None ≡ Some n → ⊥
      none_is n e = cc

  module _ (v : View M) (p : ℕ) (e : Entry M) where
    abbrev jobs : List (List (Held M))
    jobs = (owner_of v).jobs

    abbrev taken : Held M
    taken = record { mark = e.mark; meaning = e.meaning; started = start_under (owner_of v).state (serving_at p v); fate = None }

    -- the owner takes a job and settles it
    pub settles_next : (held : Option ℕ) (n : ℕ) (f : FateMark) → n ≡ length (listed jobs p) → HasHeld held v → HasHeld held (job_settled p n f (job_started p e v))
    settles_next held n f n_is o = elim (cases_lt p (length jobs)) [
      | inl inside ↦ let start : listed (set jobs p (listed jobs p ++ taken ∷ [])) p ≡ listed jobs p ++ taken ∷ [] = get_or-set_same jobs p (listed jobs p ++ taken ∷ []) [] inside in
          let found : slice_get (listed (set jobs p (listed jobs p ++ taken ∷ [])) p) n ≡ Some taken = ap (λ l. slice_get l n) start ∙ (ap (slice_get (listed jobs p ++ taken ∷ [])) n_is ∙ last_is (listed jobs p) taken) in
          subst (λ x. HasHeld held (settled_as p n f x (job_started p e v))) (sym found)
          (more_settled jobs (set (set jobs p (listed jobs p ++ taken ∷ [])) p (set (listed (set jobs p (listed jobs p ++ taken ∷ [])) p) n (settled_held f taken))) p (settled_held f taken)
          (get_or-set_same (set jobs p (listed jobs p ++ taken ∷ [])) p (set (listed (set jobs p (listed jobs p ++ taken ∷ [])) p) n (settled_held f taken)) [] (omega (arith, length-set jobs p (listed jobs p ++ taken ∷ [])))
          ∙ (ap (λ l. set l n (settled_held f taken)) start ∙ (ap (λ k. set (listed jobs p ++ taken ∷ []) k (settled_held f taken)) n_is ∙ set_last (listed jobs p) taken (settled_held f taken))))
          (λ q ne. get_or-set_other (set jobs p (listed jobs p ++ taken ∷ [])) p q (set (listed (set jobs p (listed jobs p ++ taken ∷ [])) p) n (settled_held f taken)) [] ne ∙ get_or-set_other jobs p q (listed jobs p ++ taken ∷ []) [] ne)
          (λ none. some_fate f none) held o)
      | inr past ↦ let start : set jobs p (listed jobs p ++ taken ∷ []) ≡ jobs = set_past jobs p (listed jobs p ++ taken ∷ []) past in
          let empty : listed (set jobs p (listed jobs p ++ taken ∷ [])) p ≡ [] = ap (λ js. listed js p) start ∙ get_or_past jobs p [] past in
          subst (λ x. HasHeld held (settled_as p n f x (job_started p e v))) (sym (ap (λ l. slice_get l n) empty))
          (subst (AreHeld held) (sym (set_past (set jobs p (listed jobs p ++ taken ∷ [])) p (listed (set jobs p (listed jobs p ++ taken ∷ [])) p) (omega (arith, length-set jobs p (listed jobs p ++ taken ∷ []))) ∙ start)) o)
    ] where
      some_fate : (g : FateMark) → Some g ≡ None → ⊥
      some_fate g e = cc

    -- the owner takes a job of place 0, which stays active
    pub holds_next : (n : ℕ) → p ≡ 0 → n ≡ length (listed jobs p) → IsActiveHere (listed (owner_of (job_started p e v)).jobs p) n → HasHeld None v → HasHeld (Some n) (job_started p e v)
    holds_next n first n_is active o = elim (cases_lt p (length jobs)) [
      | inl inside ↦ subst (λ k. HasHeld (Some k) (job_started p e v)) (sym n_is)
          (more_held jobs (set jobs p (listed jobs p ++ taken ∷ [])) p taken (get_or-set_same jobs p (listed jobs p ++ taken ∷ []) [] inside) (λ q ne. get_or-set_other jobs p q (listed jobs p ++ taken ∷ []) [] ne) first
          (subst (λ (x : ℕ × ℕ). IsActiveHere (listed (set jobs p (listed jobs p ++ taken ∷ [])) x.0) x.1) (λ i. (first i, n_is i)) active) o)
      | inr past ↦ absurd (let none = ap (λ js. length (listed js p)) (set_past jobs p (listed jobs p ++ taken ∷ []) past) ∙ ap length (get_or_past jobs p [] past) in let some_job = active.0 in omega arith)
    ]

module _ {M : Type 0} (v : View M) (n : ℕ) (f : FateMark) (o : HasHeld (Some n) v) where
  abbrev all : List (List (Held M))
  all = (owner_of v).jobs

  abbrev first_row : List (Held M)
  first_row = listed all 0

  active : IsActiveHere first_row n
  active = o.here n refl

  abbrev after : Held M
  after = settled_held f active.1.0

  abbrev then : List (List (Held M))
  then = set all 0 (set first_row n after)

  some_place : 0 < length all
  some_place = elim (cases_lt 0 (length all)) [
    | inl some ↦ some
    | inr none ↦ absurd (let empty = ap length (get_or_past {X = List (Held M)} all 0 [] none) in let some_job = active.0 in omega arith)
  ]

  here_is : listed then 0 ≡ set first_row n after
  here_is = get_or-set_same all 0 (set first_row n after) [] some_place

  -- the owner settles the job that it held
  pub settles_held : HasHeld None (job_settled 0 n f v)
  settles_held = subst (λ x. HasHeld None (settled_as 0 n f x v)) (sym active.1.1) (record {
    here = λ k is. absurd (none_is k is);
    others = λ q k d inside other. dite (ℕ_discrete q 0)
        (λ same. dite (ℕ_discrete k n)
        (λ this. subst (λ (y : Held M). y.fate ≢ None) (sym (ap (λ i. get_or (listed then i) k d) same ∙ (ap (λ l. get_or l k d) here_is ∙ (ap (λ i. get_or (set first_row n after) i d) this ∙ get_or-set_same first_row n after d active.0)))) (some_fate f))
        (λ ne. let same_job = ap (λ i. get_or (listed then i) k d) same ∙ (ap (λ l. get_or l k d) here_is ∙ get_or-set_other first_row n k after d ne) in
        subst (λ (y : Held M). y.fate ≢ None) (sym same_job) (o.others 0 k d (let long = ap length here_is in let w = ap (λ i. length (listed then i)) same in omega (arith, length-set first_row n after)) (λ e is. ne (sym (some_same n k is))))))
        (λ ne. let same_row = get_or-set_other all 0 q (set first_row n after) [] ne in
        subst (λ l. (get_or l k d).fate ≢ None) (sym same_row) (o.others q k d (subst (λ l. k < length l) same_row inside) (λ e. absurd (ne e))));
  }) where
    none_is : (k : ℕ) → None ≡ Some k → ⊥
    none_is k e = cc

    some_fate : (g : FateMark) → Some g ≡ None → ⊥
    some_fate g e = cc
