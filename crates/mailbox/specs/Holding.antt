-- That a runner holds just the jobs that its target's owner took and that are not settled.
use Rattle.std.specs.Prelude.{◌≡◌, ℕ, ◌+◌, ◌≤◌, ◌==◌, ◌&&◌, Bool, true, false, Option, Some, None, List, [], ◌∷◌, length, slice_get, if◌then◌else◌}
use Rattle.proxy_laws.specs.declared.records.FateMark.{FateMark}
use Rattle.post_core.specs.declared.views.Held.{Held}
use Rattle.post_core.specs.Kept.{listed}
use Rattle.mailbox.specs.declared.calls.RunJob.{RunJob}

abbrev pub has_no_fate : Option FateMark → Bool
has_no_fate None = true
has_no_fate (Some f) = false

module _ {M : Type 0} where
  abbrev pub is_open : Option (Held M) → Bool
  is_open None = false
  is_open (Some h) = has_no_fate h.fate

  -- job number n of p was taken, and is not settled
  abbrev pub is_active : List (List (Held M)) → ℕ → ℕ → Bool
  is_active jobs p n = is_open (slice_get (listed jobs p) n)

  abbrev pub is_job_at : ℕ → ℕ → RunJob M → Bool
  is_job_at p n j = (j.place == p) && (j.nth == n)

  -- how often job number n of p is held
  abbrev pub times_held : ℕ → ℕ → List (RunJob M) → ℕ
  times_held p n [] = 0
  times_held p n (j ∷ js) = (if is_job_at p n j then 1 else 0) + times_held p n js

  -- the owner keeps the job with this mark and this meaning
  pub record IsKeptAs (target : ℕ) (jobs : List (List (Held M))) (j : RunJob M) : Type 0 where
    pub target_is : j.target ≡ target
    pub kept : Held M
    pub there : slice_get (listed jobs j.place) j.nth ≡ Some kept
    pub mark_is : kept.mark ≡ j.mark
    pub meaning_is : kept.meaning ≡ j.meaning

  abbrev pub AreKeptAs : ℕ → List (List (Held M)) → List (RunJob M) → Type 0
  AreKeptAs target jobs [] = Unit {0}
  AreKeptAs target jobs (j ∷ js) = IsKeptAs target jobs j × AreKeptAs target jobs js

  -- There are as many places at most. Each active job is held once, and no other is held, with the mark and the meaning that the owner keeps.
  pub record HoldsActive (target places : ℕ) (jobs : List (List (Held M))) (held : List (RunJob M)) : Type 0 where
    pub wide : length jobs ≤ places
    pub kept : AreKeptAs target jobs held
    pub once : (p n : ℕ) → times_held p n held ≡ (if is_active jobs p n then 1 else 0)
