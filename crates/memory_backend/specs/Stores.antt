-- The cells of a store, at one time, and the store that they are.
use Rattle.std.specs.Prelude.{◌≡◌, ℕ, ◌<◌, ◌==◌, length, if◌then◌else◌}
use Rattle.wf_core.specs.Limits.{group_count}
use Rattle.path_walk.specs.declared.step.CellId.{CellId}
use Rattle.path_walk.specs.declared.step.CellId.TheVariants.{Names as NamesCell, Files as FilesCell, Descriptors as DescriptorsCell}
use Rattle.path_walk.specs.declared.step.StoreOp.{StoreOp}
use Rattle.path_walk.specs.Store.{Store, backend_at, group_at, names_at}
use Rattle.memory_backend.specs.declared.cell.CellContents.{CellContents}
use Rattle.memory_backend.specs.declared.cell.CellContents.TheVariants.{Descriptors, Names, Files}
use Rattle.memory_backend.specs.CellNumbers.{IsCellIn, cell_of}
use Rattle.memory_backend.specs.Cells.{contents_after}

-- what the store has at a cell
abbrev pub contents_at : Store → CellId → CellContents
contents_at store DescriptorsCell = Descriptors store.descriptors
contents_at store (NamesCell backend) = Names (names_at store backend)
contents_at store (FilesCell backend group) = Files (group_at store backend group)

-- the cells hold what the store has
pub record IsStoreOf (backends : ℕ) (cells : ℕ → CellContents) (store : Store) : Type 0 where
  pub count : length store.backends ≡ backends
  pub groups : (backend : ℕ) → backend < backends → length (backend_at store backend).groups ≡ group_count
  pub each : (cell : CellId) → IsCellIn backends cell → cells (cell_of backends cell) ≡ contents_at store cell

-- the cells after an operation on one of them
abbrev pub with_step : (ℕ → CellContents) → ℕ → StoreOp → ℕ → CellContents
with_step cells number op = λ other. if other == number then contents_after (cells number) op else cells other
