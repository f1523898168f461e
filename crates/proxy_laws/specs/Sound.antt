-- The invariant of a target's world. Its eleven parts each read the fields that they name.
use Rattle.std.specs.Prelude.{◌≡◌, ◌≢◌, ◌⊎◌, ℕ, ◌+◌, ◌-◌, ◌<◌, ◌≤◌, ◌==◌, Bool, false, not, ◌&&◌, ◌||◌, IsTrue, Option, Some, List, length, All}
use Rattle.std.specs.List.{list_any}
use Rattle.proxy_laws.specs.declared.actors.Actor.{Actor}
use Rattle.proxy_laws.specs.declared.actors.Actor.TheVariants as actor
use Rattle.proxy_laws.specs.declared.actors.Look.{Look}
use Rattle.proxy_laws.specs.declared.actors.Note.{Note}
use Rattle.proxy_laws.specs.declared.actors.Note.TheVariants as note
use Rattle.proxy_laws.specs.declared.actors.OwnerState.{OwnerState}
use Rattle.proxy_laws.specs.declared.actors.OwnerState.TheVariants as owner
use Rattle.proxy_laws.specs.declared.actors.Phase.{Phase}
use Rattle.proxy_laws.specs.declared.actors.Serving.{Serving}
use Rattle.proxy_laws.specs.declared.actors.Serving.TheVariants as serving
use Rattle.proxy_laws.specs.declared.records.FateMark.TheVariants as fate
use Rattle.proxy_laws.specs.declared.records.Job.{Job}
use Rattle.proxy_laws.specs.declared.records.Mark.{Mark}
use Rattle.proxy_laws.specs.declared.records.Started.TheVariants as started
use Rattle.proxy_laws.specs.Mailbox.{notices}
use Rattle.proxy_laws.specs.Maps.{bit, sum_below, count_below}
use Rattle.proxy_laws.specs.Phases.{is_idle, names, has_turn_at, owes_note_at, is_messenger_at, is_notifying, is_got, is_executing_notice, is_executing, is_seen_empty, is_under, is_open, is_pending, is_received, looks_at, saw_none_at}
use Rattle.proxy_laws.specs.Starts.{is_notice, AreInOrder, AreNumbered}
use Rattle.proxy_laws.specs.Worlds.{WorldState}

-- (i) There is a reference for each sender that is not idle, and one for an open owner.
abbrev pub RefsAreCounted : (senders refs : ℕ) → OwnerState → (ℕ → Phase) → Type 0
RefsAreCounted senders refs state phase = refs ≡ count_below senders (λ s. not (is_idle (phase s))) + bit (is_open state)

-- (ii) A sender at a place has a use of it, which its phase engages.
abbrev pub UsesAreEngaged : (senders places : ℕ) → (ℕ → Phase) → (ℕ → ℕ → ℕ) → Type 0
UsesAreEngaged senders places phase uses = (s p : ℕ) → s < senders → p < places → bit (names p (phase s)) ≤ uses s p

-- (iii) Where a job waits, the note is pending, or a sender owes a notification, or the owner executes
-- the place under a notice that it has received.
abbrev pub IsAnnounced : (senders : ℕ) → (ℕ → Phase) → List Mark → List Job → Note → Serving → ℕ → Type 0
IsAnnounced senders phase sent jobs n at_place p =
    length jobs < length sent → 0 < bit (is_pending n) + count_below senders (λ s. owes_note_at p (phase s)) + bit (is_received n && is_executing_notice at_place)

-- how many bear a notice of p: its messengers, the mailbox, the owner that has got it
abbrev pub bearers : (senders : ℕ) → (ℕ → Phase) → (mailed : Bool) → Serving → ℕ → ℕ
bearers senders phase mailed at_place p = count_below senders (λ s. is_messenger_at p (phase s)) + bit mailed + bit (is_got at_place)

-- What bears the notices of p once the owner is closed.
pub record IsBorneClosed (sent : List Mark) (jobs : List Job) (mailed : Bool) (n : Note) (at_place : Serving) : Type 0 where
  -- a place where a job waits is in the mailbox, or the owner has got it or executes it
  pub waits : length jobs < length sent → 0 < bit mailed + bit (is_got at_place) + bit (is_executing at_place)
  -- a place that it has got is not in the mailbox
  pub got : IsTrue (is_got at_place) → mailed ≡ false
  -- a place got or in the mailbox has not the note received
  pub not_received : 0 < bit mailed + bit (is_got at_place) → n ≢ note.Received

-- (iv) What bears the notices of p. The mailbox is a set, so it never has a place twice.
pub record IsBorne (senders : ℕ) (state : OwnerState) (phase : ℕ → Phase) (sent : List Mark) (jobs : List Job) (mailed : Bool) (n : Note) (at_place : Serving) (p : ℕ) : Type 0 where
  -- until the owner is closed, one bears the notice of a pending note, and none that of another
  pub open_once : state ≢ owner.Closed → bearers senders phase mailed at_place p ≡ bit (is_pending n)
  pub closed : state ≡ owner.Closed → IsBorneClosed sent jobs mailed n at_place

-- (v) What the owner does where the note is received, and where it is none.
pub record IsServed (state : OwnerState) (n : Note) (at_place : Serving) : Type 0 where
  -- received means that the owner executes the place under a notice, or has seen it empty
  pub received : n ≡ note.Received → IsTrue (is_executing_notice at_place || is_seen_empty at_place)
  -- until the owner is closed, none means that it is away, or executes the place directly
  pub none : state ≢ owner.Closed → n ≡ note.None → (at_place ≡ serving.Away) ⊎ (at_place ≡ serving.Direct)

-- (vi) A closed target has no references.
abbrev pub ClosedHasNone : OwnerState → ℕ → Type 0
ClosedHasNone state refs = state ≡ owner.Closed → refs ≡ 0

-- what a job's fate and start say of the owner: cancelled and `Closing` come of a closed owner alone,
-- what a closed owner took is not finished, and no start has a number above the owner's or above all got
pub record IsLawfulJob (state : OwnerState) (got : ℕ) (at_place : Serving) (job : Job) : Type 0 where
  pub cancelled : job.fate ≡ Some fate.Cancelled → state ≡ owner.Closed
  pub closing : job.started ≡ started.Closing → state ≡ owner.Closed
  pub unfinished : job.started ≡ started.Closing → job.fate ≢ Some fate.Finished
  pub in_phase : (k m : ℕ) → job.started ≡ started.Notice k → IsTrue (is_under m at_place) → k ≤ m
  pub was_got : (k : ℕ) → job.started ≡ started.Notice k → k ≤ got

-- the owner started a job of the place under the notice k, or is there under it
abbrev pub uses_notice : ℕ → List Job → Serving → Bool
uses_notice k jobs at_place = list_any (λ job. is_notice k job.started) jobs || is_under k at_place

-- (vii) What was started and settled. A job's fate is none, finished or cancelled, so the numbers below
-- `taken` have one each.
pub record JobsAreLawful (places : ℕ) (state : OwnerState) (got : ℕ) (sent : ℕ → List Mark) (jobs : ℕ → List Job) (at_place : ℕ → Serving) : Type 0 where
  pub taken : (p : ℕ) → p < places → length (jobs p) ≤ length (sent p)
  pub each : (p : ℕ) → p < places → All (IsLawfulJob state got (at_place p)) (jobs p)
  pub in_order : (p : ℕ) → p < places → AreInOrder (λ job. job.started) (jobs p)
  -- one notice is of one place, and is one of those got
  pub one_place : (p q k : ℕ) → p < places → q < places → IsTrue (uses_notice k (jobs p) (at_place p)) → IsTrue (uses_notice k (jobs q) (at_place q)) → p ≡ q
  pub phase_got : (p k : ℕ) → p < places → IsTrue (is_under k (at_place p)) → k ≤ got

-- nothing waits, and the note is none unless the owner is closed
pub record IsQuiet (state : OwnerState) (sent : List Mark) (jobs : List Job) (n : Note) : Type 0 where
  pub none_waits : length sent ≤ length jobs
  pub none_noted : state ≢ owner.Closed → n ≡ note.None

-- (viii) The lives of places. 2 + n with n at least 1 means n uses and nobody looking, 2 means no use and
-- one sender looking, 0 and 1 mean neither.
pub record LivesAreLawful (senders places : ℕ) (state : OwnerState) (sent : ℕ → List Mark) (jobs : ℕ → List Job) (n : ℕ → Note) (life : ℕ → ℕ) (uses : ℕ → ℕ → ℕ) (look : ℕ → Look) : Type 0 where
  pub used : (p : ℕ) → p < places → sum_below senders (λ s. uses s p) ≡ life p - 2
  pub looked : (p : ℕ) → p < places → count_below senders (λ s. looks_at p (look s)) ≡ bit (life p == 2)
  -- a free place is quiet, and so is one whose looker saw none
  pub free : (p : ℕ) → p < places → life p ≡ 0 → IsQuiet state (sent p) (jobs p) (n p)
  pub saw_none : (s p : ℕ) → s < senders → p < places → IsTrue (saw_none_at p (look s)) → IsQuiet state (sent p) (jobs p) (n p)
  -- all uses of a place other than 0 are one sender's
  pub one_user : (s t p : ℕ) → s < senders → t < senders → p < places → p ≢ 0 → 0 < uses s p → 0 < uses t p → s ≡ t

-- (ix) Where the mailbox has a notice, its note is pending.
abbrev pub MailIsAnnounced : (places : ℕ) → (ℕ → Bool) → Note → Type 0
MailIsAnnounced places mail mail_note = (p : ℕ) → p < places → IsTrue (mail p) → mail_note ≡ note.Pending

-- (x) A sender that is holding or put has the turn of the place; the marks of each sender are numbered in
-- order. A turn has one holder at most, so its word is 1 exactly where it has one.
pub record TurnsAreHeld (senders places : ℕ) (turn : ℕ → Option Actor) (sent : ℕ → List Mark) (phase : ℕ → Phase) : Type 0 where
  pub held : (s p : ℕ) → s < senders → p < places → IsTrue (has_turn_at p (phase s)) → turn p ≡ Some (actor.Sender s)
  pub numbered : (p : ℕ) → p < places → AreNumbered (sent p)

-- (xi) Each notice that was got, is in the mailbox or is still on its way there stands for a mark.
abbrev pub NoticesAreFew : (senders places got : ℕ) → (ℕ → Bool) → (ℕ → Phase) → (ℕ → List Mark) → Type 0
NoticesAreFew senders places got mail phase sent =
    got + notices places mail + count_below senders (λ s. is_notifying (phase s)) ≤ sum_below places (λ p. length (sent p))

-- the world is sound
pub record Sound (w : WorldState) : Type 0 where
  pub refs : RefsAreCounted w.senders w.refs w.owner w.phase
  pub engaged : UsesAreEngaged w.senders w.places w.phase w.uses
  pub announced : (p : ℕ) → p < w.places → IsAnnounced w.senders w.phase (w.sent p) (w.jobs p) (w.note p) (w.serving p) p
  pub borne : (p : ℕ) → p < w.places → IsBorne w.senders w.owner w.phase (w.sent p) (w.jobs p) (w.mail p) (w.note p) (w.serving p) p
  pub served : (p : ℕ) → p < w.places → IsServed w.owner (w.note p) (w.serving p)
  pub closed : ClosedHasNone w.owner w.refs
  pub jobs : JobsAreLawful w.places w.owner w.got w.sent w.jobs w.serving
  pub lives : LivesAreLawful w.senders w.places w.owner w.sent w.jobs w.note w.life w.uses w.look
  pub mail : MailIsAnnounced w.places w.mail w.mail_note
  pub turns : TurnsAreHeld w.senders w.places w.turn w.sent w.phase
  pub notices : NoticesAreFew w.senders w.places w.got w.mail w.phase w.sent
