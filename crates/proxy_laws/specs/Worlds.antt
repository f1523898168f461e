-- The world of one target: plain data, after Emscripten's em_task_queue.c and thread_mailbox.c.
use Rattle.std.specs.Prelude.{◌≡◌, ◌≢◌, ℕ, ◌+◌, ◌<◌, ◌≤◌, ◌==◌, nat_lt, Bool, false, ◌&&◌, IsTrue, Option, Some, None, List, [], length, count_by, if◌then◌else◌}
use Rattle.proxy_laws.specs.declared.actors.Actor.{Actor}
use Rattle.proxy_laws.specs.declared.actors.Actor.TheVariants as actor
use Rattle.proxy_laws.specs.declared.actors.Look.{Look}
use Rattle.proxy_laws.specs.declared.actors.Look.TheVariants as look
use Rattle.proxy_laws.specs.declared.actors.Note.{Note}
use Rattle.proxy_laws.specs.declared.actors.Note.TheVariants as note
use Rattle.proxy_laws.specs.declared.actors.OwnerState.{OwnerState}
use Rattle.proxy_laws.specs.declared.actors.OwnerState.TheVariants as owner
use Rattle.proxy_laws.specs.declared.actors.Phase.{Phase}
use Rattle.proxy_laws.specs.declared.actors.Phase.TheVariants as phase
use Rattle.proxy_laws.specs.declared.actors.Serving.{Serving}
use Rattle.proxy_laws.specs.declared.actors.Serving.TheVariants as serving
use Rattle.proxy_laws.specs.declared.records.Job.{Job}
use Rattle.proxy_laws.specs.declared.records.Mark.{Mark}
use Rattle.proxy_laws.specs.Lists.{is_by}
use Rattle.proxy_laws.specs.Maps.{bit}
use Rattle.proxy_laws.specs.Phases.{names, looks_at}

-- A function of a place or of a sender means nothing from the number of places or of senders on.
pub record WorldState : Type 0 where
  pub senders : ℕ
  pub places : ℕ
  -- the references of the target: one for each sender that is not idle, and one for an open owner
  pub refs : ℕ
  pub owner : OwnerState
  -- by place: the marks that were put there, in order
  pub sent : ℕ → List Mark
  -- by place: the jobs that were taken there, in order
  pub jobs : ℕ → List Job
  -- by place
  pub note : ℕ → Note
  -- by place: 0 free, 1 a zombie, 2 being looked at, and 2 + n with n uses
  pub life : ℕ → ℕ
  -- by place: who has the turn
  pub turn : ℕ → Option Actor
  -- by place: what the owner does there
  pub serving : ℕ → Serving
  -- by place: a notice of it is in the mailbox
  pub mail : ℕ → Bool
  pub mail_note : Note
  -- how many notices the owner got
  pub got : ℕ
  -- by sender
  pub phase : ℕ → Phase
  -- by sender, then by place; a use that the sender's phase engages counts
  pub uses : ℕ → ℕ → ℕ
  -- by sender: the place that it is looking at, if any
  pub look : ℕ → Look

-- how many jobs were put at p
abbrev pub put : WorldState → ℕ → ℕ
put w p = length (w.sent p)

-- how many jobs were taken at p
abbrev pub taken : WorldState → ℕ → ℕ
taken w p = length (w.jobs p)

-- the sender has a use of p that its phase does not engage
abbrev pub HasUse : WorldState → ℕ → ℕ → Type 0
HasUse w s p = bit (names p (w.phase s)) < w.uses s p

-- the owner is at no place
abbrev pub IsAwayEverywhere : WorldState → Type 0
IsAwayEverywhere w = (p : ℕ) → p < w.places → w.serving p ≡ serving.Away

-- the owner is closed and not away at p, and nothing waits there
abbrev pub IsEmptied : WorldState → ℕ → Type 0
IsEmptied w p = (w.owner ≡ owner.Closed) × (w.serving p ≢ serving.Away) × (put w p ≤ taken w p)

-- the senders and places that a world names are there
pub record NamesAreThere (senders places : ℕ) (phase : ℕ → Phase) (look : ℕ → Look) (turn : ℕ → Option Actor) (mail : ℕ → Bool) (sent : ℕ → List Mark) : Type 0 where
  pub phases : (s p : ℕ) → s < senders → IsTrue (names p (phase s)) → p < places
  pub looks : (s p : ℕ) → s < senders → IsTrue (looks_at p (look s)) → p < places
  pub turns : (p s : ℕ) → p < places → turn p ≡ Some (actor.Sender s) → s < senders
  pub notices : (p : ℕ) → IsTrue (mail p) → p < places
  pub marks : (p s : ℕ) → p < places → 0 < count_by (is_by s) (sent p) → s < senders

abbrev pub IsWellFormed : WorldState → Type 0
IsWellFormed w = NamesAreThere w.senders w.places w.phase w.look w.turn w.mail w.sent

-- The two worlds say the same of their own senders and places; of the mailbox, which has a bit for each place
-- that any target may have, they say the same everywhere.
pub record SayTheSame (w v : WorldState) : Type 0 where
  pub senders : w.senders ≡ v.senders
  pub places : w.places ≡ v.places
  pub refs : w.refs ≡ v.refs
  pub owner : w.owner ≡ v.owner
  pub sent : (p : ℕ) → p < w.places → w.sent p ≡ v.sent p
  pub jobs : (p : ℕ) → p < w.places → w.jobs p ≡ v.jobs p
  pub note : (p : ℕ) → p < w.places → w.note p ≡ v.note p
  pub life : (p : ℕ) → p < w.places → w.life p ≡ v.life p
  pub turn : (p : ℕ) → p < w.places → w.turn p ≡ v.turn p
  pub serving : (p : ℕ) → p < w.places → w.serving p ≡ v.serving p
  pub mail : (p : ℕ) → w.mail p ≡ v.mail p
  pub mail_note : w.mail_note ≡ v.mail_note
  pub got : w.got ≡ v.got
  pub phase : (s : ℕ) → s < w.senders → w.phase s ≡ v.phase s
  pub uses : (s p : ℕ) → s < w.senders → p < w.places → w.uses s p ≡ v.uses s p
  pub look : (s : ℕ) → s < w.senders → w.look s ≡ v.look s

-- the world as a target is made: one reference, which is the owner's, and of places the system queue alone,
-- of which each sender has one use
abbrev pub opening_world : ℕ → ℕ → WorldState
opening_world senders places = record {
  senders = senders;
  places = places;
  refs = 1;
  owner = owner.Open;
  sent = λ p. [];
  jobs = λ p. [];
  note = λ p. note.None;
  life = λ p. if p == 0 then senders + 2 else 0;
  turn = λ p. None;
  serving = λ p. serving.Away;
  mail = λ p. false;
  mail_note = note.None;
  got = 0;
  phase = λ s. phase.Idle;
  uses = λ s p. if nat_lt s senders && (p == 0) then 1 else 0;
  look = λ s. look.Nowhere;
}
