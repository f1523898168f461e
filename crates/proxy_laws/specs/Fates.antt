-- What became of a job, read off the world; and what holds of the record of a closed target.
use Rattle.std.specs.Prelude.{◌≡◌, ◌≢◌, ℕ, ◌<◌, ◌≤◌, nat_lt, IsTrue, Option, Some, None, List, [], map, All, length, slice_index_or, if◌then◌else◌}
use Rattle.std.specs.List.{list_any}
use Rattle.proxy_laws.specs.declared.records.FateMark.{FateMark}
use Rattle.proxy_laws.specs.declared.records.FateMark.TheVariants as fate
use Rattle.proxy_laws.specs.declared.records.Job.{Job}
use Rattle.proxy_laws.specs.declared.records.Mark.{Mark}
use Rattle.proxy_laws.specs.declared.records.JobRecord.{JobRecord}
use Rattle.proxy_laws.specs.declared.records.PostRecord.{PostRecord}
use Rattle.proxy_laws.specs.declared.records.Started.TheVariants as started
use Rattle.proxy_laws.specs.Lists.{job_at}
use Rattle.proxy_laws.specs.Starts.{is_notice, AreInOrder, AreNumbered}
use Rattle.proxy_laws.specs.Worlds.{WorldState, put, taken}

-- what became of a job that was put
pub data Fate : Type 0 where
  Waiting : Fate
  Active : Fate
  Settled : FateMark → Fate

-- the fate of a job that was taken
abbrev pub taken_fate : Option FateMark → Fate
taken_fate None = Active
taken_fate (Some mark) = Settled mark

-- the fate of job number n at p; none where fewer were put
abbrev pub fate_of : WorldState → ℕ → ℕ → Option Fate
fate_of w p n =
    if nat_lt n (taken w p) then Some (taken_fate (job_at (w.jobs p) n).fate) else (if nat_lt n (put w p) then Some Waiting else None)

-- What may come of a fate: a job that waits may be taken, an active one settled, and what is settled stays.
abbrev pub MayBecome : Option Fate → Option Fate → Type 0
MayBecome None later = Unit {0}
MayBecome (Some Waiting) None = ⊥
MayBecome (Some Waiting) (Some later) = Unit {0}
MayBecome (Some Active) None = ⊥
MayBecome (Some Active) (Some Waiting) = ⊥
MayBecome (Some Active) (Some Active) = Unit {0}
MayBecome (Some Active) (Some (Settled mark)) = Unit {0}
MayBecome (Some (Settled mark)) later = later ≡ Some (Settled mark)

-- the jobs of a place's record are numbered, in order, and cancelled where a closed owner took them
pub record IsLawfulPlace (jobs : List JobRecord) : Type 0 where
  pub numbered : AreNumbered (map (λ job. job.mark) jobs)
  pub in_order : AreInOrder (λ job. job.started) jobs
  pub cancelled : All (λ job. job.started ≡ started.Closing → job.fate ≡ fate.Cancelled) jobs

-- the jobs of place number p
abbrev pub jobs_of : PostRecord → ℕ → List JobRecord
jobs_of record_of_post p = slice_index_or (map (λ place. place.jobs.items) record_of_post.places.items) p []

-- the record of a closed target: each place is lawful, and one notice is of one place
pub record LawfulPost (r : PostRecord) : Type 0 where
  pub places : (p : ℕ) → p < length r.places.items → IsLawfulPlace (jobs_of r p)
  pub one_place : (p q k : ℕ) → IsTrue (list_any (λ job. is_notice k job.started) (jobs_of r p)) → IsTrue (list_any (λ job. is_notice k job.started) (jobs_of r q)) → p ≡ q

-- the job that a settled job's record is of
abbrev pub job_of : JobRecord → Job
job_of job = record { started = job.started; fate = Some job.fate }

-- the jobs of a place's record, where these marks were put and these jobs taken: all of them, in order
pub record AreRecordsOf (marks : List Mark) (jobs : List Job) (records : List JobRecord) : Type 0 where
  pub marks_are : map (λ job. job.mark) records ≡ marks
  pub jobs_are : map job_of records ≡ jobs

-- the record is the world's
pub record IsRecordOf (w : WorldState) (r : PostRecord) : Type 0 where
  pub places : length r.places.items ≡ w.places
  pub each : (p : ℕ) → p < w.places → AreRecordsOf (w.sent p) (w.jobs p) (jobs_of r p)

-- each job that was put was taken, and is settled
pub record IsSettled (w : WorldState) : Type 0 where
  pub none_waits : (p : ℕ) → p < w.places → put w p ≤ taken w p
  pub none_active : (p n : ℕ) → p < w.places → n < taken w p → (job_at (w.jobs p) n).fate ≢ None
