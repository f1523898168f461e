-- A store: all that the calls of a run change, and one step on it.
use Rattle.std.specs.Prelude.{ℕ, List, [], ◌∷◌, map, slice_get, slice_set, unwrap_or}
use Rattle.name_store.specs.declared.operation.NameOp.{NameOp}
use Rattle.name_store.specs.declared.operation.NameAnswer.TheVariants.{Gone}
use Rattle.name_store.specs.NameTrees.{Tree, nstep, opening as names_opening}
use Rattle.file_store.specs.declared.file_operation.FileOp.{FileOp}
use Rattle.file_store.specs.FileGroups.{Group, fstep, opening as group_opening}
use Rattle.file_store.specs.declared.descriptor_operation.FdOp.{FdOp}
use Rattle.file_store.specs.DescriptorMap.{Map, dstep}
use Rattle.path_walk.specs.declared.step.CellId.{CellId}
use Rattle.path_walk.specs.declared.step.CellId.TheVariants.{Names as NamesCell, Files as FilesCell, Descriptors as DescriptorsCell}
use Rattle.path_walk.specs.declared.step.StoreOp.{StoreOp}
use Rattle.path_walk.specs.declared.step.StoreOp.TheVariants.{Names as NamesOp, Files as FilesOp, Descriptors as DescriptorsOp}
use Rattle.path_walk.specs.declared.step.StoreAnswer.{StoreAnswer}
use Rattle.path_walk.specs.declared.step.StoreAnswer.TheVariants.{Names as NamesAnswer, Files as FilesAnswer, Descriptors as DescriptorsAnswer}

-- a backend: its names, and its files in groups
pub record Backend : Type 0 where
  pub names : Tree
  pub groups : List Group

-- a backend that has these mounts, by their names and the numbers of their backends, and no file
abbrev pub opening_backend : List (List ℕ × ℕ) → Backend
opening_backend mounts = record { names = names_opening mounts; groups = map group_opening (0 ∷ 1 ∷ 2 ∷ 3 ∷ []) }

-- the backends, the root's first, and what each descriptor names
pub record Store : Type 0 where
  pub backends : List Backend
  pub descriptors : Map

-- a backend that is not there has no names and no files
abbrev pub backend_at : Store → ℕ → Backend
backend_at store backend = unwrap_or (slice_get store.backends backend) (record { names = []; groups = [] })

abbrev pub names_at : Store → ℕ → Tree
names_at store backend = (backend_at store backend).names

abbrev pub group_at : Store → ℕ → ℕ → Group
group_at store backend group = unwrap_or (slice_get (backend_at store backend).groups group) (group_opening group)

-- the store with another backend of that number
abbrev pub with_backend : Store → ℕ → Backend → Store
with_backend store number backend = record store { backends = slice_set store.backends number backend }

-- the store with other names of that backend
abbrev pub with_names : Store → ℕ → Tree → Store
with_names store backend tree = with_backend store backend (record (backend_at store backend) { names = tree })

-- the store with another group of files of that backend
abbrev pub with_group : Store → ℕ → ℕ → Group → Store
with_group store backend number group = with_backend store backend (record (backend_at store backend) { groups = slice_set (backend_at store backend).groups number group })

-- what a step answers, and the store that it leaves
pub record Stepped : Type 0 where
  pub store : Store
  pub answer : StoreAnswer

abbrev pub names_step : Store → ℕ → NameOp → Stepped
names_step store backend op =
    let outcome = nstep (names_at store backend) op in
    record { store = with_names store backend outcome.tree; answer = NamesAnswer outcome.answer }

abbrev pub files_step : Store → ℕ → ℕ → FileOp → Stepped
files_step store backend number op =
    let outcome = fstep (group_at store backend number) op in
    record { store = with_group store backend number outcome.group; answer = FilesAnswer outcome.answer }

abbrev pub descriptors_step : Store → FdOp → Stepped
descriptors_step store op =
    let outcome = dstep store.descriptors op in
    record { store = record store { descriptors = outcome.map }; answer = DescriptorsAnswer outcome.answer }

-- one step on a cell, by the cell's own definition. An operation of another kind of cell finds nothing
abbrev pub cstep : Store → CellId → StoreOp → Stepped
cstep store (NamesCell backend) (NamesOp op) = names_step store backend op
cstep store (FilesCell backend number) (FilesOp op) = files_step store backend number op
cstep store DescriptorsCell (DescriptorsOp op) = descriptors_step store op
cstep store cell op = record { store = store; answer = NamesAnswer Gone }
