-- The steps of a call on cells, and the entries that they add to its pass.
use Rattle.std.specs.Prelude.{◌≡◌, ℕ, List, [], ◌∷◌, ◌++◌, Ok, IsErr}
use Rattle.turn_cell.specs.declared.entry.Caller.{Caller}
use Rattle.turn_cell.specs.declared.turn_table.TurnPass.{TurnPass}
use Rattle.turn_cell.specs.declared.view.Known.{Known}
use Rattle.turn_cell.specs.Passes.{IsPassAt, TableId, pass_number, pass_own, pass_seen}
use Rattle.path_walk.specs.declared.step.StoreAnswer.{StoreAnswer}
use Rattle.path_walk.specs.declared.step.StepAnswer.TheVariants.{Answered}
use Rattle.path_walk.specs.Backing.{IsCellOf}
use Rattle.path_walk.specs.Programs.{Step}
use Rattle.cell_runs.specs.Scripts.{RiseAfter}
use Rattle.memory_backend.specs.declared.cell.CellOp.{CellOp}
use Rattle.memory_backend.specs.CellNumbers.{cell_of}
use Rattle.memory_backend.specs.Cells.{Cell}

-- the pass of a runner on the cells of a store
abbrev pub StorePass : Type 0
StorePass = TurnPass Cell CellOp StoreAnswer

abbrev pub StoreEntry : Type 0
StoreEntry = Known CellOp StoreAnswer

-- of so many backends, the entry is that of the step, which that runner took for that caller
pub record IsEntryOf (backends runner : ℕ) (caller : Caller) (step : Step) (known : StoreEntry) : Type 0 where
  pub cell : known.cell ≡ cell_of backends step.cell
  pub fits : IsCellOf backends step.cell step.op
  pub runner_is : known.entry.runner ≡ runner
  pub caller_is : known.entry.caller ≡ caller
  pub op : known.entry.op ≡ record { cell = step.cell; op = step.op }
  pub answer : step.outcome ≡ Ok (Answered known.entry.answer)

-- a step has one entry, and none where it found no memory
abbrev pub EntersOnce : ℕ → ℕ → Caller → Step → List StoreEntry → Type 0
EntersOnce backends runner caller step [] = IsErr step.outcome
EntersOnce backends runner caller step (known ∷ []) = IsEntryOf backends runner caller step known
EntersOnce backends runner caller step (known ∷ other ∷ more) = ⊥

-- the steps have these entries, one after another
abbrev pub EntersAll : ℕ → ℕ → Caller → List Step → List StoreEntry → Type 0
EntersAll backends runner caller [] entries = entries ≡ []
EntersAll backends runner caller (step ∷ steps) entries =
    (own : List StoreEntry) × (rest : List StoreEntry) × (entries ≡ own ++ rest)
    × EntersOnce backends runner caller step own × EntersAll backends runner caller steps rest

-- the pass is still one of the table of which it was
abbrev pub StaysOfTable : StorePass → StorePass → Type 0
StaysOfTable old new = (id : TableId) (openings : List Cell) → IsPassAt id openings old → IsPassAt id openings new

-- the steps led from one pass to the other: their entries, and no others, were added to what it made and has seen, with
-- rising stamps
abbrev pub PassRan : ℕ → Caller → List Step → StorePass → StorePass → Type 0
PassRan backends caller steps old new =
    (entries : List StoreEntry) × EntersAll backends (pass_number old) caller steps entries
    × (pass_own new ≡ pass_own old ++ entries) × (pass_seen new ≡ pass_seen old ++ entries) × RiseAfter (pass_seen old) entries
    × (pass_number new ≡ pass_number old) × StaysOfTable old new
