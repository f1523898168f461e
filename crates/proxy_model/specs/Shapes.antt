-- What every world keeps: its lists have the right lengths, and name senders and places that are there.
use Rattle.std.specs.Prelude.{◌≡◌, ℕ, ◌<◌, Bool, IsTrue, Option, Some, None, List, [], length, count_by, slice_index_or}
use Rattle.proxy_laws.specs.declared.actors.Actor.{Actor}
use Rattle.proxy_laws.specs.declared.actors.Actor.TheVariants as actor
use Rattle.proxy_laws.specs.declared.actors.Look.{Look}
use Rattle.proxy_laws.specs.declared.actors.Look.TheVariants as look
use Rattle.proxy_laws.specs.declared.actors.Note.{Note}
use Rattle.proxy_laws.specs.declared.actors.Phase.{Phase}
use Rattle.proxy_laws.specs.declared.actors.Phase.TheVariants as phase
use Rattle.proxy_laws.specs.declared.actors.Serving.{Serving}
use Rattle.proxy_laws.specs.declared.records.Job.{Job}
use Rattle.proxy_laws.specs.declared.records.Mark.{Mark}
use Rattle.proxy_laws.specs.Lists.{is_by}
use Rattle.proxy_laws.specs.Phases.{names, looks_at}

-- there is a member for each place
pub record HasPlaces (places : ℕ) (sent : List (List Mark)) (jobs : List (List Job)) (notes : List Note) (lives : List ℕ) (turns : List (Option Actor)) (serving : List Serving) (mail : List Bool) : Type 0 where
  pub sent_len : length sent ≡ places
  pub jobs_len : length jobs ≡ places
  pub notes_len : length notes ≡ places
  pub lives_len : length lives ≡ places
  pub turns_len : length turns ≡ places
  pub serving_len : length serving ≡ places
  pub mail_len : length mail ≡ places

-- there is a member for each sender
pub record HasSenders (senders places : ℕ) (phases : List Phase) (uses : List (List ℕ)) (looks : List Look) : Type 0 where
  pub phases_len : length phases ≡ senders
  pub uses_len : length uses ≡ senders
  pub looks_len : length looks ≡ senders
  pub by_place : (s : ℕ) → s < senders → length (slice_index_or uses s []) ≡ places

-- each phase names a place that is there
abbrev pub PhasesInRange : ℕ → List Phase → Type 0
PhasesInRange places phases = (s p : ℕ) → IsTrue (names p (slice_index_or phases s phase.Idle)) → p < places

-- each look is at a place that is there
abbrev pub LooksInRange : ℕ → List Look → Type 0
LooksInRange places looks = (s p : ℕ) → IsTrue (looks_at p (slice_index_or looks s look.Nowhere)) → p < places

-- each turn is held by a sender that is there, or by the owner
abbrev pub TurnsInRange : ℕ → List (Option Actor) → Type 0
TurnsInRange senders turns = (p s : ℕ) → slice_index_or turns p None ≡ Some (actor.Sender s) → s < senders

-- each mark is of a sender that is there
abbrev pub MarksInRange : ℕ → List (List Mark) → Type 0
MarksInRange senders sent = (p s : ℕ) → 0 < count_by (is_by s) (slice_index_or sent p []) → s < senders
