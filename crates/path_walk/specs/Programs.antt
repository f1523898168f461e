-- A call as the steps that it takes: which step comes next, given the answers so far, and the reply.
-- Between two steps others may change the store.
use Rattle.std.specs.Prelude.{◌≡◌, ℕ, zero, suc, List, [], ◌∷◌, Result, Ok}
use Rattle.std.specs.declared.alloc.AllocError.{AllocError}
use Rattle.path_walk.specs.declared.step.CellId.{CellId}
use Rattle.path_walk.specs.declared.step.StoreOp.{StoreOp}
use Rattle.path_walk.specs.declared.step.StepAnswer.{StepAnswer}
use Rattle.path_walk.specs.declared.step.StepAnswer.TheVariants.{Answered}
use Rattle.path_walk.specs.declared.call.Reply.{Reply}
use Rattle.path_walk.specs.Store.{Store, cstep}
use Rattle.path_walk.specs.Backing.{IsCellOf, IsAnswerOf}

-- what a call does: it is over with its reply, or it asks for a step and goes on from the answer
pub data Program : Type 0 where
  finished : Reply → Program
  asks : CellId → StoreOp → (StepAnswer → Program) → Program

-- what a call replies, and the store that it leaves
pub record CallOutcome : Type 0 where
  pub store : Store
  pub reply : Reply

-- a reply that leaves the store as it was
abbrev pub replied : Store → Reply → CallOutcome
replied store reply = record { store = store; reply = reply }

-- a program over a store that nobody else changes: each step is the definition's
abbrev pub run : Program → Store → CallOutcome
run (finished reply) store = replied store reply
run (asks cell op next) store = let stepped = cstep store cell op in run (next (Answered stepped.answer)) stepped.store

-- a step that was asked for, and what came of it; a step may find no memory
pub record Step : Type 0 where
  pub cell : CellId
  pub op : StoreOp
  pub outcome : Result StepAnswer AllocError

abbrev pub step_of : CellId → StoreOp → Result StepAnswer AllocError → Step
step_of cell op outcome = record { cell = cell; op = op; outcome = outcome }

-- a program takes these steps, no more and no fewer, and gives this reply
abbrev pub Takes : Program → List Step → Reply → Type 0
Takes (finished given) [] reply = reply ≡ given
Takes (finished given) (step ∷ steps) reply = ⊥
Takes (asks cell op next) [] reply = ⊥
Takes (asks cell op next) (step ∷ steps) reply = (answer : StepAnswer) × (step ≡ step_of cell op (Ok answer)) × Takes (next answer) steps reply

-- a program begins with these steps; the last of them may have found no memory
abbrev pub Begins : Program → List Step → Type 0
Begins (finished given) [] = Unit {0}
Begins (finished given) (step ∷ steps) = ⊥
Begins (asks cell op next) [] = Unit {0}
Begins (asks cell op next) (step ∷ []) = (outcome : Result StepAnswer AllocError) × (step ≡ step_of cell op outcome)
Begins (asks cell op next) (step ∷ other ∷ steps) = (answer : StepAnswer) × (step ≡ step_of cell op (Ok answer)) × Begins (next answer) (other ∷ steps)

-- a program asks for at most so many steps, whatever the answers
abbrev pub IsWithin : ℕ → Program → Type 0
IsWithin most (finished reply) = Unit {0}
IsWithin zero (asks cell op next) = ⊥
IsWithin (suc most) (asks cell op next) = (answer : StepAnswer) → IsWithin most (next answer)

-- of so many backends, a program asks only those, while answers name no others
abbrev pub StaysAmong : ℕ → Program → Type 0
StaysAmong backends (finished reply) = Unit {0}
StaysAmong backends (asks cell op next) = IsCellOf backends cell op × ((answer : StepAnswer) → IsAnswerOf backends op answer → StaysAmong backends (next answer))
