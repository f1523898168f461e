-- The passes of a table of counters, by number.
use Rattle.std.specs.Prelude.{◌≡◌, ◌<◌, ℕ, List, length, slice_index_or}
use Rattle.turn_cell.specs.declared.turn_table.TurnPass.{TurnPass}
use Rattle.turn_cell.specs.declared.turn_table.TurnTable.{TurnTable}
use Rattle.turn_cell.specs.Passes.{IsPassOf, pass_number, table_passes}
use Rattle.cell_tests.specs.declared.counter.Counter.{Counter}

module _ {K : Type 0} where
  -- the pass is that of this runner
  abbrev pub IsRunnerOf : TurnTable Counter ℕ ℕ K → ℕ → TurnPass Counter ℕ ℕ → Type 0
  IsRunnerOf table number pass = IsPassOf table pass × (pass_number pass ≡ number)

  -- the passes are those of the runners 0, 1 and so on
  abbrev pub AreRunnersOf : TurnTable Counter ℕ ℕ K → List (TurnPass Counter ℕ ℕ) → Type 0
  AreRunnersOf table passes = (k : ℕ) (d : TurnPass Counter ℕ ℕ) → k < length passes → IsRunnerOf table k (slice_index_or passes k d)

  -- the passes are those of all runners
  abbrev pub AreAllRunnersOf : TurnTable Counter ℕ ℕ K → List (TurnPass Counter ℕ ℕ) → Type 0
  AreAllRunnersOf table passes = (length passes ≡ table_passes table) × AreRunnersOf table passes
