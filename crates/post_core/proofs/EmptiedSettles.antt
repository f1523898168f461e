-- A closed owner at which nothing waits settles a job that it took before, and still keeps all that it took.
use Rattle.std.proofs.Common.{◌≡◌, ◌≢◌, ℕ, zero, suc, ◌<◌, inl, inr, Some, List, [], ◌∷◌, length, map, get_or, set, take, refl, arith, ap, sym, subst, ◌∙◌, length-set}
use Rattle.std.proofs.Math.Seq.{take-set-lt}
use Rattle.std.proofs.lemmas.Bool.{cases_lt}
use Rattle.std.proofs.lemmas.List.{map-set, get_or-set_same, get_or-set_other}
use Rattle.std.proofs.lemmas.Option.{get_or_from_slice_get, slice_get-map}
use Rattle.std.specs.Prelude.{slice_get, option_map}
use mathlib.Core.Logic.{dite}
use native.Mathlib.Decide.{ℕ_discrete}
use Rattle.proxy_laws.specs.declared.records.FateMark.{FateMark}
use Rattle.proxy_laws.specs.declared.records.FateMark.TheVariants as fate
use Rattle.post_core.specs.declared.records.StartedJob.{StartedJob}
use Rattle.post_core.specs.declared.views.Held.{Held}
use Rattle.post_core.specs.declared.views.View.{View}
use Rattle.post_core.specs.Kept.{listed}
use Rattle.post_core.specs.Parts.{IsEmptied, fate_kept, job_with_fate, kept_settled}
use Rattle.post_core.specs.Records.{IsKept, started_job}
use Rattle.post_core.specs.Steps.{IsActiveHere}
use Rattle.post_core.specs.Views.{job_settled, owner_of, settled_as, settled_held}

get_front : {X : Type 0} (m n : ℕ) (xs : List X) → n < m → slice_get (take m xs) n ≡ slice_get xs n
get_front zero n xs below = absurd (omega arith)
get_front (suc m) n [] below = refl
get_front (suc m) zero (x ∷ xs) below = refl
get_front (suc m) (suc n) (x ∷ xs) below = get_front m n xs (omega arith)

-- the jobs of one place, of which the owner keeps the first
module _ {M : Type 0} (row : List (Held M)) (kept_jobs : List StartedJob) (taken n : ℕ) (h : Held M) (at : slice_get row n ≡ Some h) (k : IsKept row kept_jobs taken) where
  -- a job that is active is one of those
  pub active_is_kept : n < length row → (h.fate ≡ Some fate.Cancelled → ⊥) → n < length kept_jobs
  active_is_kept inside active = elim (cases_lt n (length kept_jobs)) [
    | inl below ↦ below
    | inr past ↦ absurd (active (ap (λ (x : Held M). x.fate) (sym (get_or_from_slice_get row n h h at)) ∙ (k.back n h past inside).1))
  ]

  module _ (f : FateMark) (inside : n < length kept_jobs) where
    abbrev then : Held M
    then = settled_held f h

    found : slice_get kept_jobs n ≡ Some (started_job h)
    found = ap (λ l. slice_get l n) (sym k.front) ∙ (get_front (length kept_jobs) n (map started_job row) inside ∙ (slice_get-map started_job row n ∙ ap (option_map started_job) at))

    settled_is : kept_settled n f kept_jobs ≡ set kept_jobs n (job_with_fate f (started_job h))
    settled_is = ap (fate_kept kept_jobs n f) found

    still_long : length (kept_settled n f kept_jobs) ≡ length kept_jobs
    still_long = ap length settled_is ∙ length-set kept_jobs n (job_with_fate f (started_job h))

    pub keeps_row : IsKept (set row n then) (kept_settled n f kept_jobs) taken
    keeps_row = record {
      taken_is = k.taken_is ∙ sym (length-set row n then);
      few = let a = k.few in omega (arith, still_long, length-set row n then);
      front = ap (λ m. take m (map started_job (set row n then))) still_long
          ∙ (ap (take (length kept_jobs)) (map-set started_job row n then)
          ∙ (take-set-lt (length kept_jobs) (map started_job row) n (started_job then) inside
          ∙ (ap (λ l. set l n (started_job then)) k.front ∙ sym settled_is)));
      back = λ i d past within.
          let other : i ≢ n = λ same. omega (arith, still_long) in
          let was = k.back i d (omega (arith, still_long)) (omega (arith, length-set row n then)) in
          let same_job = get_or-set_other row n i then d other in
          (ap (λ (x : Held M). x.started) same_job ∙ was.0, ap (λ (x : Held M). x.fate) same_job ∙ was.1);
    }

module _ {M : Type 0} (started : List (List StartedJob)) (taken : List ℕ) (p : ℕ) (near : p < length taken) (n : ℕ) (v : View M) (active : IsActiveHere (listed (owner_of v).jobs p) n) (o : IsEmptied started taken v) where
  abbrev row : List (Held M)
  row = listed (owner_of v).jobs p

  abbrev job : Held M
  job = active.1.0

  not_settled : job.fate ≡ Some fate.Cancelled → ⊥
  not_settled is = let none = active.1.2 in cc

  -- the owner keeps the job
  pub there : n < length (listed started p)
  there = active_is_kept row (listed started p) (get_or taken p 0) n job active.1.1 (o.kept p near) active.0 not_settled

  module _ (f : FateMark) (lists : length started ≡ length taken) where
    -- the jobs by place once this one is settled
    abbrev after : List (List StartedJob)
    after = set started p (kept_settled n f (listed started p))

    abbrev row_then : List (Held M)
    row_then = set row n (settled_held f job)

    settled_so : IsEmptied after taken (settled_as p n f (Some job) v)
    settled_so = record {
      view = (o.view.0, refl);
      state = o.state;
      no_turn = o.no_turn;
      rows = length-set (owner_of v).jobs p row_then ∙ o.rows;
      away = o.away;
      clear = o.clear;
      kept = λ q at_q. dite (ℕ_discrete q p)
          (λ same. subst (λ k. IsKept (listed (set (owner_of v).jobs p row_then) k) (listed after k) (get_or taken k 0)) (sym same)
          (subst (λ (x : List (Held M) × List StartedJob). IsKept x.0 x.1 (get_or taken p 0))
          (λ i. (sym (get_or-set_same (owner_of v).jobs p row_then [] (let rows = o.rows in omega arith)) i, sym (get_or-set_same started p (kept_settled n f (listed started p)) [] (omega arith)) i))
          (keeps_row row (listed started p) (get_or taken p 0) n job active.1.1 (o.kept p near) f there)))
          (λ ne. subst (λ (x : List (Held M) × List StartedJob). IsKept x.0 x.1 (get_or taken q 0))
          (λ i. (sym (get_or-set_other (owner_of v).jobs p q row_then [] ne) i, sym (get_or-set_other started p q (kept_settled n f (listed started p)) [] ne) i))
          (o.kept q at_q));
    }

    pub emptied_settles : (now : List (List StartedJob)) (counts : List ℕ) (u : View M) → now ≡ after → counts ≡ taken → u ≡ job_settled p n f v → IsEmptied now counts u
    emptied_settles now counts u now_is counts_are u_is = subst (λ (x : List (List StartedJob) × List ℕ × View M). IsEmptied x.0 x.1 x.2)
        (λ i. (sym now_is i, sym counts_are i, sym (u_is ∙ ap (λ x. settled_as p n f x v) active.1.1) i))
        settled_so
