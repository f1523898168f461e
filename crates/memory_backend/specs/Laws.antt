-- What a user may conclude of the cells of a store.
use Rattle.std.specs.Prelude.{◌≡◌, ℕ, ◌+◌, ◌<◌, Bool, List, [], ◌∷◌, length, map, slice_get, unwrap_or}
use Rattle.file_store.specs.DescriptorMap.{opening as descriptors_opening}
use Rattle.file_store.specs.FileGroups.{opening as group_opening}
use Rattle.path_walk.specs.declared.step.CellId.{CellId}
use Rattle.path_walk.specs.declared.step.StoreOp.{StoreOp}
use Rattle.path_walk.specs.Backing.{IsCellOf}
use Rattle.path_walk.specs.Store.{Store, cstep, opening_backend}
use Rattle.memory_backend.specs.declared.cell.CellContents.{CellContents}
use Rattle.memory_backend.specs.declared.cell.CellContents.TheVariants.{Files}
use Rattle.memory_backend.specs.CellNumbers.{IsCellIn, cell_of, cells_of}
use Rattle.memory_backend.specs.Cells.{contents_reply}
use Rattle.memory_backend.specs.Openings.{mounts_from, opening_contents}
use Rattle.memory_backend.specs.Stores.{IsStoreOf, with_step}

-- a step on a cell is the store's step: it answers what the store does, and leaves the cells of the store that is left
abbrev pub StepsAreTheStores : Type 0
StepsAreTheStores = (backends : ℕ) (cells : ℕ → CellContents) (store : Store) (cell : CellId) (op : StoreOp)
    → IsStoreOf backends cells store → IsCellOf backends cell op
    → ((cstep store cell op).answer ≡ contents_reply (cells (cell_of backends cell)) op)
    × IsStoreOf backends (with_step cells (cell_of backends cell) op) (cstep store cell op).store

-- each cell has a number of its own, and the numbers are those below the count
pub record NumbersAreOwn : Type 0 where
  pub below : (backends : ℕ) (cell : CellId) → IsCellIn backends cell → cell_of backends cell < cells_of backends
  pub own : (backends : ℕ) (cell other : CellId) → IsCellIn backends cell → IsCellIn backends other → cell_of backends cell ≡ cell_of backends other → cell ≡ other

-- the store of which the opening cells are: the root's backend with the mounts, the others, which are empty, and no
-- descriptor
abbrev pub opening_store_of : List (List ℕ × Bool) → Store
opening_store_of backends = record {
  backends = opening_backend (mounts_from 1 backends) ∷ map (λ backend. opening_backend []) backends;
  descriptors = descriptors_opening;
}

-- the cells of a list; a number behind its end is that of no cell
abbrev pub cells_in : List CellContents → ℕ → CellContents
cells_in all number = unwrap_or (slice_get all number) (Files (group_opening 0))

abbrev pub OpeningIsEmpty : Type 0
OpeningIsEmpty = (backends : List (List ℕ × Bool)) → IsStoreOf (1 + length backends) (cells_in (opening_contents backends)) (opening_store_of backends)
