-- The marks and the jobs of one place, as lists.
use Rattle.std.specs.Prelude.{◌≡◌, ℕ, ◌<◌, ◌==◌, Bool, Some, None, List, length, count_by, slice_index_or, slice_set}
use Rattle.proxy_laws.specs.declared.actors.OwnerState.{OwnerState}
use Rattle.proxy_laws.specs.declared.actors.OwnerState.TheVariants as owner
use Rattle.proxy_laws.specs.declared.actors.Serving.{Serving}
use Rattle.proxy_laws.specs.declared.actors.Serving.TheVariants as serving
use Rattle.proxy_laws.specs.declared.records.FateMark.{FateMark}
use Rattle.proxy_laws.specs.declared.records.Job.{Job}
use Rattle.proxy_laws.specs.declared.records.Mark.{Mark}
use Rattle.proxy_laws.specs.declared.records.Started.{Started}
use Rattle.proxy_laws.specs.declared.records.Started.TheVariants as started

-- the mark is one of the sender s
abbrev pub is_by : ℕ → Mark → Bool
is_by s mark = mark.sender == s

-- the mark of the next job that s puts at a place with these marks
abbrev pub next_mark : List Mark → ℕ → ℕ → Mark
next_mark marks s tag = record { sender = s; seq = count_by (is_by s) marks; tag = tag }

-- a job that was taken and is not settled
abbrev pub active_job : Started → Job
active_job start = record { started = start; fate = None }

-- the job of number n; past the end of the list it means nothing
abbrev pub job_at : List Job → ℕ → Job
job_at jobs n = slice_index_or jobs n (active_job started.Direct)

-- the job of number n was taken, and is not settled
abbrev pub IsActive : List Job → ℕ → Type 0
IsActive jobs n = (n < length jobs) × ((job_at jobs n).fate ≡ None)

-- the jobs once number n has this fate
abbrev pub with_fate : List Job → ℕ → FateMark → List Job
with_fate jobs n fate = slice_set jobs n (record { started = (job_at jobs n).started; fate = Some fate })

-- what starts a job that the owner takes: a closed owner takes it to cancel it
abbrev pub start_under : OwnerState → Serving → Started
start_under owner.Closed _ = started.Closing
start_under _ (serving.Executing k) = started.Notice k
start_under _ _ = started.Direct
