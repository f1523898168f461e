-- What a mailbox does with jobs: by which calls of the runner, and what it changes of the jobs that the owner keeps.
use Rattle.std.specs.Prelude.{◌≡◌, ℕ, ◌<◌, Option, Some, None, List, [], ◌∷◌, ◌++◌, length, slice_get, slice_set}
use Rattle.proxy_laws.specs.declared.records.FateMark.{FateMark}
use Rattle.proxy_laws.specs.declared.records.FateMark.TheVariants as fate
use Rattle.proxy_laws.specs.declared.records.Started.{Started}
use Rattle.proxy_laws.specs.declared.records.Started.TheVariants as started
use Rattle.post_core.specs.declared.views.Held.{Held}
use Rattle.post_core.specs.Kept.{listed}
use Rattle.post_core.specs.Views.{held_settled}
use Rattle.mailbox.specs.declared.calls.Deed.{Deed}
use Rattle.mailbox.specs.declared.calls.Deed.TheVariants as deed
use Rattle.mailbox.specs.declared.calls.RunCall.{RunCall}
use Rattle.mailbox.specs.declared.calls.RunCall.TheVariants as call
use Rattle.mailbox.specs.declared.calls.RunJob.{RunJob}
use Rattle.mailbox.specs.declared.runner.Ran.TheVariants as ran
use Rattle.mailbox.specs.Calls.{first_off}

module _ {M : Type 0} where
  -- what the owner keeps of a job that it took
  abbrev pub kept_job : RunJob M → Started → Option FateMark → Held M
  kept_job j s f = record { mark = j.mark; meaning = j.meaning; started = s; fate = f }

  -- one job more at p
  abbrev pub job_added : ℕ → Held M → List (List (Held M)) → List (List (Held M))
  job_added p h jobs = slice_set jobs p (listed jobs p ++ h ∷ [])

  -- job number n of p is settled
  abbrev pub fate_given : ℕ → ℕ → FateMark → List (List (Held M)) → List (List (Held M))
  fate_given p n f jobs = slice_set jobs p (held_settled (listed jobs p) n f (slice_get (listed jobs p) n))

  -- the job is the next that is taken at its place
  abbrev pub IsNextJob : ℕ → List (List (Held M)) → RunJob M → Type 0
  IsNextJob target jobs j = (j.target ≡ target) × (j.place < length jobs) × (j.nth ≡ length (listed jobs j.place))

  -- the job was taken, with this mark and this meaning, and is not settled
  abbrev pub IsActiveJob : ℕ → List (List (Held M)) → RunJob M → Type 0
  IsActiveJob target jobs j = (j.target ≡ target) × ((h : Held M) × (slice_get (listed jobs j.place) j.nth ≡ Some h) × (h.mark ≡ j.mark) × (h.meaning ≡ j.meaning) × (h.fate ≡ None))

module _ {M T : Type 0} where
  abbrev pub deed_calls : Deed M T → List (RunCall M T)
  deed_calls (deed.Finished j s t) = call.Run j (ran.Finished t) ∷ call.Tell t j.place j.nth fate.Finished ∷ []
  deed_calls (deed.Held j s) = call.Run j ran.Held ∷ []
  deed_calls (deed.Cancelled j t) = call.Cancel j t ∷ call.Tell t j.place j.nth fate.Cancelled ∷ []
  deed_calls (deed.GivenUp j t) = call.NextHeld (Some (record { place = j.place; nth = j.nth; tail = t })) ∷ call.Tell t j.place j.nth fate.Cancelled ∷ []

  -- the jobs that the owner keeps, by place
  abbrev pub jobs_after : Deed M T → List (List (Held M)) → List (List (Held M))
  jobs_after (deed.Finished j s t) jobs = job_added j.place (kept_job j s (Some fate.Finished)) jobs
  jobs_after (deed.Held j s) jobs = job_added j.place (kept_job j s None) jobs
  jobs_after (deed.Cancelled j t) jobs = job_added j.place (kept_job j started.Closing (Some fate.Cancelled)) jobs
  jobs_after (deed.GivenUp j t) jobs = fate_given j.place j.nth fate.Cancelled jobs

  -- the jobs that the runner holds
  abbrev pub held_after : Deed M T → List (RunJob M) → List (RunJob M)
  held_after (deed.Held j s) held = held ++ j ∷ []
  held_after (deed.GivenUp j t) held = first_off held
  held_after _ held = held

  -- the job is the next that is taken; or it is one that was held
  abbrev pub IsRight : ℕ → List (List (Held M)) → Deed M T → Type 0
  IsRight target jobs (deed.Finished j s t) = IsNextJob target jobs j
  IsRight target jobs (deed.Held j s) = IsNextJob target jobs j
  IsRight target jobs (deed.Cancelled j t) = IsNextJob target jobs j
  IsRight target jobs (deed.GivenUp j t) = IsActiveJob target jobs j

  -- the deed is that of an open owner, which starts the job so
  abbrev pub StartsAs : (Started → Type 0) → Deed M T → Type 0
  StartsAs P (deed.Finished j s t) = P s
  StartsAs P (deed.Held j s) = P s
  StartsAs P _ = ⊥

  abbrev pub Cancels : Deed M T → Type 0
  Cancels (deed.Cancelled j t) = Unit {0}
  Cancels _ = ⊥

  abbrev pub GivesUp : Deed M T → Type 0
  GivesUp (deed.GivenUp j t) = Unit {0}
  GivesUp _ = ⊥

  -- the same of deeds, one after another
  abbrev pub calls_of : List (Deed M T) → List (RunCall M T)
  calls_of [] = []
  calls_of (d ∷ ds) = deed_calls d ++ calls_of ds

  abbrev pub jobs_after_all : List (Deed M T) → List (List (Held M)) → List (List (Held M))
  jobs_after_all [] jobs = jobs
  jobs_after_all (d ∷ ds) jobs = jobs_after_all ds (jobs_after d jobs)

  abbrev pub held_after_all : List (Deed M T) → List (RunJob M) → List (RunJob M)
  held_after_all [] held = held
  held_after_all (d ∷ ds) held = held_after_all ds (held_after d held)

  abbrev pub AreRight : (Deed M T → Type 0) → ℕ → List (List (Held M)) → List (Deed M T) → Type 0
  AreRight kind target jobs [] = Unit {0}
  AreRight kind target jobs (d ∷ ds) = kind d × IsRight target jobs d × AreRight kind target (jobs_after d jobs) ds

-- The job at this place, with this number there, was taken and is not settled, and the tail suits it as finished.
module _ {M T : Type 0} (suits_as : T → RunJob M → FateMark → Type 0) where
  pub record MayFinish (target : ℕ) (jobs : List (List (Held M))) (place nth : ℕ) (tail : T) : Type 0 where
    pub job : RunJob M
    pub place_is : job.place ≡ place
    pub nth_is : job.nth ≡ nth
    pub active : IsActiveJob target jobs job
    pub suits : suits_as tail job fate.Finished

-- So many deeds of this kind led from the one runner to the other, by these calls and no other. The jobs that the owner
-- keeps, and those that the runner holds, were changed by them alone.
pub record WasDone {M T R : Type 0} (did : R → List (RunCall M T) → R → Type 0) (kind : Deed M T → Type 0) (target n : ℕ) (r r' : R) (jobs jobs' : List (List (Held M))) (held held' : List (RunJob M)) : Type 0 where
  pub deeds : List (Deed M T)
  pub count : length deeds ≡ n
  pub called : did r (calls_of deeds) r'
  pub right : AreRight kind target jobs deeds
  pub jobs_are : jobs' ≡ jobs_after_all deeds jobs
  pub held_are : held' ≡ held_after_all deeds held
