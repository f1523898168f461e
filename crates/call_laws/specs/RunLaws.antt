-- What holds of every store that calls lead to, each taken at once, from the store before the first call.
use Rattle.std.specs.Prelude.{◌≡◌, ◌≢◌, ℕ, ◌%◌, ◌<◌, true, false, List, fold, map, Some, IsSome, slice_get}
use Rattle.wf_core.specs.Limits.{group_count}
use Rattle.name_store.specs.declared.operation.Node.TheVariants.{File as FileNode}
use Rattle.name_store.specs.Sound.{IsSound, node_at}
use Rattle.file_store.specs.declared.descriptor_operation.Slot.TheVariants as slot
use Rattle.file_store.specs.DescriptorMap.{opening as descriptors_opening, slot_at}
use Rattle.file_store.specs.declared.file.File.{File}
use Rattle.file_store.specs.FileGroups.{Group, description_at, file_at, is_open}
use Rattle.file_store.specs.Sound.{IsSound as IsSoundGroup, number_of}
use Rattle.path_walk.specs.declared.call.Call.{Call}
use Rattle.path_walk.specs.Store.{Backend, Store, group_at, names_at, opening_backend}
use Rattle.path_walk.specs.Posix.{posix}
use Rattle.call_laws.specs.ErrorLaws.{DescriptionsAreThere}

-- the store before the first call: backends with these mounts, the root's first, and no number that names something
abbrev pub opening_store : List (List (List ℕ × ℕ)) → Store
opening_store mounts = record { backends = map opening_backend mounts; descriptors = descriptors_opening }

-- the store after calls, one after another
abbrev pub store_after : ℕ → Store → List Call → Store
store_after version store calls = fold (λ before call. (posix version before call).store) store calls

-- the names of a backend are a tree, and its groups are all there and sound
pub record IsSoundBackend (backend : Backend) : Type 0 where
  pub names : IsSound backend.names
  pub groups : (number : ℕ) → number < group_count → (group : Group) × (slice_get backend.groups number ≡ Some group) × IsSoundGroup group × (number_of group ≡ number)

abbrev pub IsSoundStore : Store → Type 0
IsSoundStore store = (number : ℕ) (backend : Backend) → slice_get store.backends number ≡ Some backend → IsSoundBackend backend

abbrev pub RunsAreSound : Type 0
RunsAreSound = (version : ℕ) (mounts : List (List (List ℕ × ℕ))) (calls : List Call) → IsSoundStore (store_after version (opening_store mounts) calls)

-- between whole calls no number is reserved, each description that a number names is there, and each description that is
-- there has a number
pub record IsTidy (store : Store) : Type 0 where
  pub none_reserved : (number : ℕ) → slot_at store.descriptors number ≢ slot.Reserved
  pub there : DescriptionsAreThere store
  pub numbered : (backend description : ℕ) → IsSome (description_at (group_at store backend (description % group_count)) description) → (number : ℕ) × (slot_at store.descriptors number ≡ slot.File backend description)

abbrev pub RunsAreTidy : Type 0
RunsAreTidy = (version : ℕ) (mounts : List (List (List ℕ × ℕ))) (calls : List Call) → IsTidy (store_after version (opening_store mounts) calls)

-- a file that is there is named by an entry of its backend, or is open; one that is linked is named
pub record FileIsUsed (store : Store) (backend group id : ℕ) (file : File) : Type 0 where
  pub named : file.linked ≡ true → (directory : ℕ) × (name : List ℕ) × (node_at (names_at store backend) directory name ≡ Some (FileNode id))
  pub opened : file.linked ≡ false → is_open (group_at store backend group).descriptions id ≡ true

abbrev pub FilesAreUsed : Type 0
FilesAreUsed = (version : ℕ) (mounts : List (List (List ℕ × ℕ))) (calls : List Call) (backend group id : ℕ) (file : File) → group < group_count → file_at (group_at (store_after version (opening_store mounts) calls) backend group) id ≡ Some file → FileIsUsed (store_after version (opening_store mounts) calls) backend group id file
