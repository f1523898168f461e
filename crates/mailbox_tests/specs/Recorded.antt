-- What a recorder says of the calls that were made.
use Rattle.std.specs.Prelude.{◌≡◌, ℕ, true, List, [], ◌∷◌, ◌++◌, map, Some, None}
use Rattle.proxy_laws.specs.declared.records.FateMark.{FateMark}
use Rattle.mailbox.specs.declared.calls.RunCall.{RunCall}
use Rattle.mailbox.specs.declared.calls.RunCall.TheVariants as call
use Rattle.mailbox.specs.declared.calls.RunJob.{RunJob}
use Rattle.mailbox.specs.declared.runner.Ran.TheVariants as ran
use Rattle.mailbox.specs.Calls.{run_job}
use Rattle.mailbox_tests.specs.declared.events.Event.{Event}
use Rattle.mailbox_tests.specs.declared.events.Event.TheVariants as event
use Rattle.mailbox_tests.specs.declared.events.Kept.{Kept}
use Rattle.mailbox_tests.specs.declared.events.Left.{Left}
use Rattle.mailbox_tests.specs.declared.recorder.Recorder.{Recorder}

abbrev pub job_of : Kept → RunJob ℕ
job_of k = run_job 0 k.place k.nth k.mark k.job

-- the jobs that the recorder holds
abbrev pub held_jobs : Recorder → List (RunJob ℕ)
held_jobs r = map job_of r.kept.items

abbrev pub left_suits : Left → RunJob ℕ → FateMark → Type 0
left_suits t j f = (t.place ≡ j.place) × (t.nth ≡ j.nth)

-- what is kept of a call
abbrev pub event_of : RunCall ℕ Left → Event
event_of (call.Run j (ran.Finished t)) = event.Ran j.place j.nth
event_of (call.Run j ran.Held) = event.Kept j.place j.nth
event_of (call.Cancel j t) = event.Cancelled j.place j.nth
event_of (call.NextHeld None) = event.NoneHeld
event_of (call.NextHeld (Some h)) = event.GaveUp h.place h.nth
event_of (call.Tell t place nth fate) = event.Told place nth fate

-- unless there was no room, the list grew by the calls
abbrev pub Recorded : Recorder → List (RunCall ℕ Left) → Recorder → Type 0
Recorded a cs b = b.complete ≡ true → (a.complete ≡ true) × (b.log.items ≡ a.log.items ++ map event_of cs)

abbrev pub Noting : Event → Recorder → Recorder → Type 0
Noting e a b = b.complete ≡ true → (a.complete ≡ true) × (b.log.items ≡ a.log.items ++ e ∷ [])
