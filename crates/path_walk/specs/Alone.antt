-- What the backends of a store that nobody else changes owe to a call, and what the call then comes to.
use Rattle.std.specs.Prelude.{◌≡◌, ℕ, Option, None, Some, Result, Ok, Err}
use Rattle.std.specs.declared.alloc.AllocError.{AllocError}
use Rattle.path_walk.specs.declared.step.CellId.{CellId}
use Rattle.path_walk.specs.declared.step.StoreOp.{StoreOp}
use Rattle.path_walk.specs.declared.step.StepAnswer.{StepAnswer}
use Rattle.path_walk.specs.declared.step.StepAnswer.TheVariants.{Answered, Cancelled, Closed}
use Rattle.path_walk.specs.declared.call.Call.{Call}
use Rattle.path_walk.specs.declared.call.Reply.{Reply}
use Rattle.path_walk.specs.Store.{Store, cstep}
use Rattle.path_walk.specs.Posix.{posix}

-- a step where the store is told, since nobody else changes it: the definition's, or want of memory
abbrev pub StepsAlone : Option Store → CellId → StoreOp → Result StepAnswer AllocError → Option Store → Type 0
StepsAlone None cell op outcome new = Unit {0}
StepsAlone (Some old) cell op outcome None = ⊥
StepsAlone (Some old) cell op (Ok (Answered answer)) (Some new) = cstep old cell op ≡ record { store = new; answer = answer }
StepsAlone (Some old) cell op (Ok Cancelled) (Some new) = ⊥
StepsAlone (Some old) cell op (Ok Closed) (Some new) = ⊥
StepsAlone (Some old) cell op (Err error) (Some new) = new ≡ old

-- a whole call where the store is told: its reply and its store are those of the call at once
abbrev pub CallsAlone : ℕ → Option Store → Call → Reply → Option Store → Type 0
CallsAlone version None call reply new = Unit {0}
CallsAlone version (Some old) call reply None = ⊥
CallsAlone version (Some old) call reply (Some new) = posix version old call ≡ record { store = new; reply = reply }
