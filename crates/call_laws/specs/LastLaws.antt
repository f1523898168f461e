-- What becomes of a file that has lost its name: POSIX.1-2017, XSH unlink(), rename() and close().
use Rattle.std.specs.Prelude.{◌≡◌, ℕ, false, List, None, Some, ℤ}
use Rattle.name_store.specs.declared.operation.Node.{Node}
use Rattle.name_store.specs.NameTrees.{Tree}
use Rattle.file_store.specs.declared.descriptor_operation.Slot.TheVariants as slot
use Rattle.file_store.specs.DescriptorMap.{with_slot, is_description_open}
use Rattle.file_store.specs.declared.file.File.{File}
use Rattle.file_store.specs.declared.file.Description.{Description}
use Rattle.file_store.specs.Tables.{without_row}
use Rattle.file_store.specs.FileGroups.{file_at, is_open}
use Rattle.path_walk.specs.declared.call.Call.TheVariants.{Close, Fstat, Pread, Unlink}
use Rattle.path_walk.specs.declared.call.Reply.TheVariants.{Done}
use Rattle.path_walk.specs.Store.{Store, group_at, with_names}
use Rattle.path_walk.specs.Posix.{posix}
use Rattle.call_laws.specs.Entries.{after_loss}
use Rattle.call_laws.specs.EntryLaws.{IsDone}
use Rattle.call_laws.specs.FileLaws.{IsOpenOn}
use Rattle.call_laws.specs.OpenLaws.{HasGroup}

-- each number reads what it read, of a file of the same size
pub record ReadsAsBefore (version : ℕ) (old new : Store) : Type 0 where
  pub pread : (number count : ℕ) (offset : ℤ) → (posix version new (Pread number count offset)).reply ≡ (posix version old (Pread number count offset)).reply
  pub fstat : (number : ℕ) → (posix version new (Fstat number)).reply ≡ (posix version old (Fstat number)).reply

-- what is removed stays readable through its descriptors; `rename` leaves a file that it replaces as `unlink` does
pub record RemovedFilesStay : Type 0 where
  pub unlink : (version : ℕ) (store : Store) (path : List ℕ) → IsDone version store (Unlink path) → ReadsAsBefore version store (posix version store (Unlink path)).store
  pub loss : (version : ℕ) (store : Store) (backend : ℕ) (tree : Tree) (node : Node) → ReadsAsBefore version store (after_loss (with_names store backend tree) backend (Some node))

-- the number is the last of its description, and that is the last of its file
pub record IsLast (store : Store) (number backend group : ℕ) (description : Description) : Type 0 where
  pub opened : IsOpenOn store number backend group description
  pub number_is : is_description_open backend opened.id (with_slot store.descriptors number slot.Free) ≡ false
  pub description_is : is_open (without_row (group_at store backend group).descriptions opened.id) description.file ≡ false

-- and it is gone with the last of them
abbrev pub RemovedFilesGo : Type 0
RemovedFilesGo = (version : ℕ) (store : Store) (number backend group : ℕ) (description : Description) (file : File) → HasGroup store backend group → IsLast store number backend group description → file_at (group_at store backend group) description.file ≡ Some file → file.linked ≡ false → ((posix version store (Close number)).reply ≡ Done) × (file_at (group_at (posix version store (Close number)).store backend group) description.file ≡ None)
