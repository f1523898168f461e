-- The jobs of one place in the record of a closed target, made from what the owner and the passes keep.
use Rattle.std.specs.Prelude.{◌≡◌, ◌≢◌, ℕ, ◌-◌, ◌<◌, ◌≤◌, Option, Some, None, List, [], ◌∷◌, ◌++◌, map, length, take, replicate, slice_index_or, slice_set}
use Rattle.proxy_laws.specs.declared.records.FateMark.{FateMark}
use Rattle.proxy_laws.specs.declared.records.FateMark.TheVariants as fate
use Rattle.proxy_laws.specs.declared.records.Job.{Job}
use Rattle.proxy_laws.specs.declared.records.JobRecord.{JobRecord}
use Rattle.proxy_laws.specs.declared.records.Mark.{Mark}
use Rattle.proxy_laws.specs.declared.records.Started.TheVariants as started
use Rattle.proxy_laws.specs.declared.records.OwnMark.{OwnMark}
use Rattle.post_core.specs.declared.records.PlaceJobs.{PlaceJobs}
use Rattle.post_core.specs.declared.records.StartedJob.{StartedJob}
use Rattle.post_core.specs.declared.views.Entry.{Entry}
use Rattle.post_core.specs.declared.views.Held.{Held}
use Rattle.post_core.specs.declared.views.Kept.{Kept}

abbrev pub no_mark : Mark
no_mark = record { sender = 0; seq = 0; tag = 0 }

-- the record of a job that a closed owner took, before its mark is known
abbrev pub blank_job : JobRecord
blank_job = record { mark = no_mark; started = started.Closing; fate = fate.Cancelled }

-- the mark is written at its number
abbrev pub marked : List JobRecord → OwnMark → List JobRecord
marked jobs k = slice_set jobs k.nth (record (slice_index_or jobs k.nth blank_job) { mark = k.mark })

-- each mark is written at its number
abbrev pub filled : List JobRecord → List OwnMark → List JobRecord
filled jobs [] = jobs
filled jobs (k ∷ ks) = filled (marked jobs k) ks

-- the marks of each pass are written
abbrev pub filled_by_all : List JobRecord → List (List OwnMark) → List JobRecord
filled_by_all jobs [] = jobs
filled_by_all jobs (own ∷ owns) = filled_by_all (filled jobs own) owns

abbrev pub fate_or_cancelled : Option FateMark → FateMark
fate_or_cancelled None = fate.Cancelled
fate_or_cancelled (Some f) = f

abbrev pub record_of : StartedJob → JobRecord
record_of job = record { mark = job.mark; started = job.started; fate = fate_or_cancelled job.fate }

-- the records of a place where so many jobs were taken, of which the owner keeps the first
abbrev pub place_record : List StartedJob → ℕ → List (List OwnMark) → List JobRecord
place_record kept_jobs taken owns = filled_by_all (map record_of kept_jobs ++ replicate (taken - length kept_jobs) blank_job) owns

-- by place: the jobs that the owner took before it closed, and how many it took in all
abbrev pub starts_of : List PlaceJobs → List (List StartedJob)
starts_of jobs = map (λ place. place.started.items) jobs

abbrev pub counts_of : List PlaceJobs → List ℕ
counts_of jobs = map (λ place. place.taken) jobs

module _ {M : Type 0} where
  abbrev pub own_mark : Kept M → OwnMark
  own_mark k = record { nth = k.nth; mark = k.mark }

  abbrev pub held_entry : Held M → Entry M
  held_entry h = record { mark = h.mark; meaning = h.meaning }

  abbrev pub held_job : Held M → Job
  held_job h = record { started = h.started; fate = h.fate }

  abbrev pub started_job : Held M → StartedJob
  started_job h = record { mark = h.mark; started = h.started; fate = h.fate }

  -- the record of a job that the owner took
  abbrev pub held_record : Held M → JobRecord
  held_record h = record { mark = h.mark; started = h.started; fate = fate_or_cancelled h.fate }

  -- no job that the owner took is active
  abbrev pub AreSettled : List (Held M) → Type 0
  AreSettled held = (n : ℕ) (d : Held M) → n < length held → (slice_index_or held n d).fate ≢ None

  -- The owner keeps the first jobs of a place. The others a closed owner took, and they are cancelled.
  pub record IsKept (held : List (Held M)) (kept_jobs : List StartedJob) (taken : ℕ) : Type 0 where
    pub taken_is : taken ≡ length held
    pub few : length kept_jobs ≤ length held
    pub front : take (length kept_jobs) (map started_job held) ≡ kept_jobs
    pub back : (n : ℕ) (d : Held M) → length kept_jobs ≤ n → n < length held → ((slice_index_or held n d).started ≡ started.Closing) × ((slice_index_or held n d).fate ≡ Some fate.Cancelled)
