-- The cells of a store of so many backends, in a row: the descriptors, the names of each backend, and the four groups of
-- files of each backend (own).
use Rattle.std.specs.Prelude.{◌≡◌, ℕ, ◌+◌, ◌*◌, ◌<◌, ◌≤◌, List, length}
use mathlib.Core.Option.{some}
use lib.ListN.{get_elem?}
use Rattle.wf_core.specs.Limits.{group_count}
use Rattle.path_walk.specs.declared.step.CellId.{CellId}
use Rattle.path_walk.specs.declared.step.CellId.TheVariants.{Names as NamesCell, Files as FilesCell, Descriptors as DescriptorsCell}
use Rattle.memory_backend.specs.declared.cell.CellKind.{CellKind}
use Rattle.memory_backend.specs.declared.cell.CellPart.{CellPart}
use Rattle.memory_backend.specs.declared.cell.CellPart.TheVariants.{OfDescriptors, OfNames, OfFiles}
use Rattle.memory_backend.specs.Cells.{Cell, cell_kind}

-- the most backends of a store of cells, the root's among them
abbrev pub cell_backends_max : ℕ
cell_backends_max = 64

abbrev pub cell_of : ℕ → CellId → ℕ
cell_of backends DescriptorsCell = 0
cell_of backends (NamesCell backend) = 1 + backend
cell_of backends (FilesCell backend group) = 1 + backends + group_count * backend + group

-- how many cells there are
abbrev pub cells_of : ℕ → ℕ
cells_of backends = 1 + backends + group_count * backends

-- the cell is of one of so many backends
abbrev pub IsCellIn : ℕ → CellId → Type 0
IsCellIn backends DescriptorsCell = Unit {0}
IsCellIn backends (NamesCell backend) = backend < backends
IsCellIn backends (FilesCell backend group) = (backend < backends) × (group < group_count)

abbrev pub part_of_id : CellId → CellPart
part_of_id DescriptorsCell = OfDescriptors
part_of_id (NamesCell backend) = OfNames
part_of_id (FilesCell backend group) = OfFiles

abbrev pub kind_of_id : ℕ → CellId → CellKind
kind_of_id backends cell = record { backends = backends; part = part_of_id cell }

-- these are the cells of a store of so many backends: each is of the kind of its place
pub record AreCellsOf (backends : ℕ) (cells : List Cell) : Type 0 where
  pub root : 0 < backends
  pub few : backends ≤ cell_backends_max
  pub count : length cells ≡ cells_of backends
  pub kinds : (id : CellId) (cell : Cell) → IsCellIn backends id → get_elem? cells (cell_of backends id) ≡ some cell → cell_kind cell ≡ kind_of_id backends id
