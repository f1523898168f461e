-- What the contracts of a send that does not wait say of what they answer.
use Rattle.std.specs.Prelude.{◌≡◌, ◌≢◌, ℕ, ◌⊎◌}
use Rattle.post_core.specs.declared.meant.Meant.{Ghosts}
use Rattle.post_core.specs.declared.post.Owing.{Owing}
use Rattle.post_core.specs.declared.post.RefPass.{RefPass}
use Rattle.post_core.specs.declared.post.SendPass.{SendPass}
use Rattle.post_core.specs.declared.send_answers.TryPutAnswer.{TryPutAnswer}
use Rattle.post_core.specs.declared.send_answers.TryPutAnswer.TheVariants as put
use Rattle.post_core.specs.declared.send_answers.TryRefAnswer.{TryRefAnswer}
use Rattle.post_core.specs.declared.send_answers.TryRefAnswer.TheVariants as taken
use Rattle.post_core.specs.declared.try_jobs.Tried.{Tried}
use Rattle.post_core.specs.declared.try_jobs.Tried.TheVariants as tried
use Rattle.post_core.specs.declared.views.View.{View}
use Rattle.post_core.specs.SendSteps.{none_seen}
use Rattle.post_core.specs.TrySteps.{exchange_failed}
use Rattle.post_core.specs.Words.{refs_at, turn_at}

module _ {M : Type 0} where
  -- the pass found no reference: by a load, or by its one exchange, which it keeps
  abbrev pub HasFoundNone : View M → View M → Type 0
  HasFoundNone v w = (w ≡ none_seen v) ⊎ ((loaded : ℕ) × (loaded ≢ 0) × (w ≡ none_seen (exchange_failed refs_at loaded 0 v)))

  -- its one exchange, from what a load had found, found another number of references, and the pass keeps it
  abbrev pub HasMissedRef : ℕ → View M → View M → Type 0
  HasMissedRef value v w = (loaded : ℕ) × (value ≢ loaded) × (value ≢ 0) × (loaded ≢ 0) × (w ≡ exchange_failed refs_at loaded value v)

  -- its one exchange, from 0 to 1, found that somebody had the turn of the place, and the pass keeps it
  abbrev pub HasMissedTurn : ℕ → ℕ → View M → View M → Type 0
  HasMissedTurn place value v w = (value ≡ 1) × (w ≡ exchange_failed (turn_at place) 0 1 v)

-- what became of a job
module _ {J : Type 0} where
  abbrev pub IfTriedPut : Tried J → (ℕ → Type 0) → Type 0
  IfTriedPut (tried.Put nth) P = P nth
  IfTriedPut (tried.NoMemory job) P = Unit {0}
  IfTriedPut (tried.Busy job value) P = Unit {0}

  abbrev pub IfTriedNoMemory : Tried J → (J → Type 0) → Type 0
  IfTriedNoMemory (tried.Put nth) P = Unit {0}
  IfTriedNoMemory (tried.NoMemory job) P = P job
  IfTriedNoMemory (tried.Busy job value) P = Unit {0}

  abbrev pub IfTriedBusy : Tried J → (J → ℕ → Type 0) → Type 0
  IfTriedBusy (tried.Put nth) P = Unit {0}
  IfTriedBusy (tried.NoMemory job) P = Unit {0}
  IfTriedBusy (tried.Busy job value) P = P job value

module _ {J M : Type 0} {g : Ghosts J M} where
  abbrev pub IfHeldNow : TryRefAnswer J M g → (RefPass J M g → Type 0) → Type 0
  IfHeldNow (taken.Held pass) P = P pass
  IfHeldNow (taken.Closed pass) P = Unit {0}
  IfHeldNow (taken.Busy pass word value) P = Unit {0}

  abbrev pub IfClosedNow : TryRefAnswer J M g → (SendPass J M g → Type 0) → Type 0
  IfClosedNow (taken.Held pass) P = Unit {0}
  IfClosedNow (taken.Closed pass) P = P pass
  IfClosedNow (taken.Busy pass word value) P = Unit {0}

  abbrev pub IfBusyNow : TryRefAnswer J M g → (SendPass J M g → ℕ → ℕ → Type 0) → Type 0
  IfBusyNow (taken.Held pass) P = Unit {0}
  IfBusyNow (taken.Closed pass) P = Unit {0}
  IfBusyNow (taken.Busy pass word value) P = P pass word value

  abbrev pub IfPutNow : TryPutAnswer J M g → (Owing J M g → Type 0) → Type 0
  IfPutNow (put.Put owing) P = P owing
  IfPutNow (put.NoMemory pass job) P = Unit {0}
  IfPutNow (put.Busy pass job word value) P = Unit {0}

  abbrev pub IfNoMemoryNow : TryPutAnswer J M g → (RefPass J M g → J → Type 0) → Type 0
  IfNoMemoryNow (put.Put owing) P = Unit {0}
  IfNoMemoryNow (put.NoMemory pass job) P = P pass job
  IfNoMemoryNow (put.Busy pass job word value) P = Unit {0}

  abbrev pub IfTurnMissed : TryPutAnswer J M g → (RefPass J M g → J → ℕ → ℕ → Type 0) → Type 0
  IfTurnMissed (put.Put owing) P = Unit {0}
  IfTurnMissed (put.NoMemory pass job) P = Unit {0}
  IfTurnMissed (put.Busy pass job word value) P = P pass job word value
