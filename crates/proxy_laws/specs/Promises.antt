-- What the invariant promises to those who use a target.
use Rattle.std.specs.Prelude.{◌≡◌, ◌≢◌, ℕ, ◌<◌, ◌≤◌, Bool, true, false, IsTrue, List, None, All, slice_index_or}
use Rattle.proxy_laws.specs.declared.actors.Actor.{Actor}
use Rattle.proxy_laws.specs.declared.actors.Actor.TheVariants as actor
use Rattle.proxy_laws.specs.declared.actors.Note.TheVariants as note
use Rattle.proxy_laws.specs.declared.actors.OwnerState.TheVariants as owner
use Rattle.proxy_laws.specs.declared.actors.Phase.TheVariants as phase
use Rattle.proxy_laws.specs.declared.events.Event.{Event}
use Rattle.proxy_laws.specs.declared.events.Event.TheVariants as event
use Rattle.proxy_laws.specs.declared.records.JobRecord.{JobRecord}
use Rattle.proxy_laws.specs.declared.records.Mark.{Mark}
use Rattle.proxy_laws.specs.declared.records.PostRecord.{PostRecord}
use Rattle.proxy_laws.specs.Events.{Enabled}
use Rattle.proxy_laws.specs.Fates.{AreRecordsOf, IsRecordOf, IsSettled, LawfulPost, MayBecome, fate_of}
use Rattle.proxy_laws.specs.Lists.{job_at}
use Rattle.proxy_laws.specs.Mailbox.{IsLowest}
use Rattle.proxy_laws.specs.Phases.{is_executing, is_executing_notice, is_got, is_messenger_at, owes_note_at}
use Rattle.proxy_laws.specs.Runs.{Leads}
use Rattle.proxy_laws.specs.Sound.{Sound, bearers}
use Rattle.proxy_laws.specs.Worlds.{WorldState, IsWellFormed, IsAwayEverywhere, put, taken}

-- the actor is a sender
abbrev pub is_sender : Actor → Bool
is_sender (actor.Sender s) = true
is_sender actor.Owner = false

-- a sender gets or gives back a reference, takes a turn, puts, swaps a note, or adds a notice
abbrev pub is_send : Event → Bool
is_send (event.AddRef s) = true
is_send (event.DropRef s) = true
is_send (event.TakePlace who p) = is_sender who
is_send (event.Put s p tag) = true
is_send (event.SwapNote s p) = true
is_send (event.AddMail s) = true
is_send _ = false

-- the target is closed, and no sender has a reference
pub record IsShut (w : WorldState) : Type 0 where
  pub closed : w.owner ≡ owner.Closed
  pub no_reference : w.refs ≡ 0
  pub idle : (s : ℕ) → s < w.senders → w.phase s ≡ phase.Idle

-- Once the owner is closed no sender has or gets a reference, puts, swaps a note or adds a notice,
-- whatever comes.
abbrev pub NoSenderAfterClose : Type 0
NoSenderAfterClose = (w : WorldState) (events : List Event) (end : WorldState) → Sound w → w.owner ≡ owner.Closed → Leads w events end → IsShut end × All (λ e. is_send e ≡ false) events

-- nothing waits at the place and nobody uses it; while the owner is not closed, nothing bears a notice of it
pub record IsBare (w : WorldState) (p : ℕ) : Type 0 where
  pub none_waits : put w p ≤ taken w p
  pub no_use : (s : ℕ) → s < w.senders → w.uses s p ≡ 0
  pub no_notice : w.owner ≢ owner.Closed → (w.note p ≡ note.None) × (bearers w.senders w.phase (w.mail p) (w.serving p) p ≡ 0)

-- A place that is free is bare, so whoever creates it begins anew.
abbrev pub PlacesComeFree : Type 0
PlacesComeFree = (w : WorldState) (p : ℕ) → Sound w → p < w.places → w.life p ≡ 0 → IsBare w p

-- A messenger finds no notice of its place in the mailbox, so no notice hides another.
abbrev pub NoticesFindRoom : Type 0
NoticesFindRoom = (w : WorldState) (s p : ℕ) → IsWellFormed w → Sound w → Enabled w (event.AddMail s) → w.phase s ≡ phase.Messenger p → w.mail p ≡ false

-- who sees to the jobs that wait at p
pub data IsSeenTo (w : WorldState) (p : ℕ) : Type 0 where
  -- a sender that still owes a notification
  by_sender : (s : ℕ) → s < w.senders → IsTrue (owes_note_at p (w.phase s)) → IsSeenTo w p
  -- a messenger, on its way to the mailbox
  by_messenger : (s : ℕ) → s < w.senders → IsTrue (is_messenger_at p (w.phase s)) → IsSeenTo w p
  -- a notice in the mailbox, whose note is pending
  by_mailbox : IsTrue (w.mail p) → w.mail_note ≡ note.Pending → IsSeenTo w p
  -- the owner, which has got the notice
  by_getting : IsTrue (is_got (w.serving p)) → IsSeenTo w p
  -- the owner, which executes the place under a notice that it has received
  by_executing : w.note p ≡ note.Received → IsTrue (is_executing_notice (w.serving p)) → IsSeenTo w p
  -- a closed owner, which empties the place
  by_emptying : w.owner ≡ owner.Closed → IsTrue (is_executing (w.serving p)) → IsSeenTo w p

-- No notification is lost: where a job waits, somebody sees to it. That they come to it is not said.
abbrev pub NothingIsLost : Type 0
NothingIsLost = (w : WorldState) (p : ℕ) → Sound w → p < w.places → taken w p < put w p → IsSeenTo w p

-- A closed owner that is at no place, and whose mailbox has no notice, has no job waiting at any place.
abbrev pub NothingWaitsOnceEmptied : Type 0
NothingWaitsOnceEmptied = (w : WorldState) (p : ℕ) → Sound w → w.owner ≡ owner.Closed → IsAwayEverywhere w → ((q : ℕ) → q < w.places → w.mail q ≡ false) → p < w.places → put w p ≤ taken w p

-- A mailbox with a notice has one lowest place, which comes first.
pub record MailHasLowest : Type 0 where
  pub there : (mail : ℕ → Bool) (p : ℕ) → IsTrue (mail p) → (q : ℕ) × (q ≤ p) × IsLowest mail q
  pub one : (mail : ℕ → Bool) (p q : ℕ) → IsLowest mail p → IsLowest mail q → p ≡ q

-- what a run leaves of job number n at p, which has a fate from when it was put: its mark, its start once it was
-- taken, and its fate once it is settled
pub record IsJobKept (old new : WorldState) (p n : ℕ) : Type 0 where
  pub has_fate : n < put old p → fate_of old p n ≢ None
  pub mark : (d : Mark) → n < put old p → (n < put new p) × (slice_index_or (new.sent p) n d ≡ slice_index_or (old.sent p) n d)
  pub start : n < taken old p → (n < taken new p) × ((job_at (new.jobs p) n).started ≡ (job_at (old.jobs p) n).started)
  pub fate : MayBecome (fate_of old p n) (fate_of new p n)

-- A job has one fate, and it never changes.
abbrev pub JobsAreKept : Type 0
JobsAreKept = (w : WorldState) (events : List Event) (end : WorldState) (p n : ℕ) → Leads w events end → IsJobKept w end p n

-- A world whose jobs are all settled has its record, and that is a lawful one.
pub record RecordsAreLawful : Type 0 where
  pub there : (w : WorldState) (p : ℕ) → Sound w → IsSettled w → p < w.places → (records : List JobRecord) × AreRecordsOf (w.sent p) (w.jobs p) records
  pub lawful : (w : WorldState) (r : PostRecord) → Sound w → IsRecordOf w r → LawfulPost r
