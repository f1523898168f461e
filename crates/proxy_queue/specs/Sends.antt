-- What comes of a send.
use Rattle.std.specs.Prelude.{◌≡◌, ℕ, ◌⊎◌}
use Rattle.proxy_laws.specs.declared.actors.Phase.TheVariants as phase
use Rattle.post_core.specs.declared.meant.Meant.{Ghosts}
use Rattle.post_core.specs.declared.post.SendPass.{SendPass}
use Rattle.post_core.specs.declared.views.View.{View}
use Rattle.post_core.specs.SendParts.{next_own_mark}
use Rattle.post_core.specs.SendSteps.{IsNextAt, job_sent}
use Rattle.post_core.specs.TryParts.{HasMissedRef, HasMissedTurn}
use Rattle.post_core.specs.Views.{at_phase}
use Rattle.post_core.specs.Words.{refs_at, turn_at}
use Rattle.proxy_queue.specs.declared.answers.SendAnswer.{SendAnswer}
use Rattle.proxy_queue.specs.declared.answers.SendAnswer.TheVariants as sent
use Rattle.proxy_queue.specs.declared.answers.TryAnswer.{TryAnswer}
use Rattle.proxy_queue.specs.declared.answers.TryAnswer.TheVariants as tried

module _ {M : Type 0} where
  -- The job is last at the place, under the pass's next mark there with this tag and under a number that is next to all
  -- that the pass had seen there. The pass keeps that mark, has seen the number reached, and is idle again.
  pub record IsAccepted (place tag : ℕ) (meant : M) (nth : ℕ) (v w : View M) : Type 0 where
    pub next : IsNextAt place nth v
    pub kept : w ≡ at_phase phase.Idle (job_sent place nth (record { mark = next_own_mark place tag v; meaning = meant }) v)

  -- One exchange failed, and found this value in this word. It was of the references, from what a load had found; or of the
  -- turn of the place, from 0. The pass keeps the exchange, and nothing else of it has changed.
  abbrev pub HasMissed : (place word value : ℕ) → View M → View M → Type 0
  HasMissed place word value v w = ((word ≡ refs_at) × HasMissedRef value v w) ⊎ ((word ≡ turn_at place) × HasMissedTurn place value v w)

module _ {J M : Type 0} {g : Ghosts J M} where
  abbrev pub IfSent : SendAnswer J M g → (SendPass J M g → ℕ → Type 0) → Type 0
  IfSent (sent.Accepted pass nth) P = P pass nth
  IfSent (sent.Closed pass job) P = Unit {0}
  IfSent (sent.NoMemory pass job) P = Unit {0}

  abbrev pub IfRefused : SendAnswer J M g → (SendPass J M g → J → Type 0) → Type 0
  IfRefused (sent.Accepted pass nth) P = Unit {0}
  IfRefused (sent.Closed pass job) P = P pass job
  IfRefused (sent.NoMemory pass job) P = Unit {0}

  abbrev pub IfWanting : SendAnswer J M g → (SendPass J M g → J → Type 0) → Type 0
  IfWanting (sent.Accepted pass nth) P = Unit {0}
  IfWanting (sent.Closed pass job) P = Unit {0}
  IfWanting (sent.NoMemory pass job) P = P pass job

  -- the same of a send that does not wait
  abbrev pub IfTriedSent : TryAnswer J M g → (SendPass J M g → ℕ → Type 0) → Type 0
  IfTriedSent (tried.Accepted pass nth) P = P pass nth
  IfTriedSent (tried.Closed pass job) P = Unit {0}
  IfTriedSent (tried.NoMemory pass job) P = Unit {0}
  IfTriedSent (tried.Busy pass job word value) P = Unit {0}

  abbrev pub IfTriedRefused : TryAnswer J M g → (SendPass J M g → J → Type 0) → Type 0
  IfTriedRefused (tried.Accepted pass nth) P = Unit {0}
  IfTriedRefused (tried.Closed pass job) P = P pass job
  IfTriedRefused (tried.NoMemory pass job) P = Unit {0}
  IfTriedRefused (tried.Busy pass job word value) P = Unit {0}

  abbrev pub IfTriedWanting : TryAnswer J M g → (SendPass J M g → J → Type 0) → Type 0
  IfTriedWanting (tried.Accepted pass nth) P = Unit {0}
  IfTriedWanting (tried.Closed pass job) P = Unit {0}
  IfTriedWanting (tried.NoMemory pass job) P = P pass job
  IfTriedWanting (tried.Busy pass job word value) P = Unit {0}

  abbrev pub IfBusy : TryAnswer J M g → (SendPass J M g → J → ℕ → ℕ → Type 0) → Type 0
  IfBusy (tried.Accepted pass nth) P = Unit {0}
  IfBusy (tried.Closed pass job) P = Unit {0}
  IfBusy (tried.NoMemory pass job) P = Unit {0}
  IfBusy (tried.Busy pass job word value) P = P pass job word value
