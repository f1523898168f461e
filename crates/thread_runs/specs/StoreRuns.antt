-- What the calls of threads on the cells of a store come to.
use Rattle.std.specs.Prelude.{◌≡◌, ℕ, ◌+◌, Bool, List, length, map, Ok, Vec}
use Rattle.std.specs.Global.{Global}
use mathlib.Core.Option.{some}
use lib.ListN.{get_elem?}
use Rattle.path_walk.specs.declared.call.Reply.{Reply}
use Rattle.path_walk.specs.declared.step.StoreAnswer.{StoreAnswer}
use Rattle.path_walk.specs.declared.step.StepAnswer.TheVariants.{Answered}
use Rattle.path_walk.specs.Backing.{IsCellOf}
use Rattle.path_walk.specs.Posix.{Walk}
use Rattle.path_walk.specs.Programs.{Step, step_of}
use Rattle.memory_backend.specs.declared.cell.CellOp.{CellOp}
use Rattle.memory_backend.specs.CellNumbers.{cell_of}
use Rattle.memory_backend.specs.Cells.{Cell, cell_after, cell_reply}
use Rattle.memory_backend.specs.CellSteps.{StoreEntry}
use Rattle.memory_backend.specs.Openings.{opening_cells}
use Rattle.cell_runs.specs.declared.run.ThreadRun.{ThreadRun}
use Rattle.cell_runs.specs.Scripts.{IsThreadRun}
use Rattle.trace_text.specs.declared.trace_call.TraceCall.{TraceCall}
use Rattle.trace_text.specs.declared.version.Version.{Version}
use Rattle.trace_text.specs.TraceCalls.{file_call, number_in_reply}
use Rattle.trace_text.specs.Versions.{version_number}

-- the step that an entry is of
abbrev pub step_in : StoreEntry → Step
step_in known = step_of known.entry.op.cell known.entry.op.op (Ok (Answered known.entry.answer))

-- of so many backends, each step was taken on the cell that its operation names
abbrev pub IsPlaced : ℕ → StoreEntry → Type 0
IsPlaced backends known = (known.cell ≡ cell_of backends known.entry.op.cell) × IsCellOf backends known.entry.op.cell known.entry.op.op

abbrev pub ArePlaced : ℕ → List StoreEntry → Type 0
ArePlaced backends entries = (i : ℕ) (known : StoreEntry) → get_elem? entries i ≡ some known → IsPlaced backends known

-- where a thread has had these replies before, which tell the numbers that a call may name, the call takes the steps of these
-- entries, and replies so
pub record StoreWalk (version : Version) (backends : ℕ) (before : List Reply) (call : TraceCall) (entries : List StoreEntry) (reply : Reply) : Type 0 where
  pub walk : Walk (version_number version) (file_call (map number_in_reply before) call) (map step_in entries) reply
  pub placed : ArePlaced backends entries

-- the calls of the threads, over an empty store with these backends, made one lawful run
abbrev pub IsStoreRun : Version → List (List ℕ × Bool) → List (Vec TraceCall Global) → ThreadRun Reply Cell CellOp StoreAnswer → Type 0
IsStoreRun version backends scripts run = IsThreadRun cell_after cell_reply (StoreWalk version (1 + length backends)) (opening_cells backends) scripts run
