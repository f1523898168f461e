-- Laws of the definitions, which say what a user may conclude of the bytes of files that calls write, read and cut, and of
-- offsets: POSIX.1-2017, XSH write(), pwrite(), read(), pread(), ftruncate() and dup().
use Rattle.std.specs.Prelude.{◌≡◌, ℕ, ◌+◌, ◌%◌, ◌<◌, ◌≤◌, min, true, false, List, length, Some, ℤ, pos}
use Rattle.wf_core.specs.Limits.{group_count, read_max}
use Rattle.file_store.specs.declared.descriptor_operation.Slot.TheVariants as slot
use Rattle.file_store.specs.DescriptorMap.{slot_at}
use Rattle.file_store.specs.declared.file.File.{File}
use Rattle.file_store.specs.declared.file.Description.{Description}
use Rattle.file_store.specs.declared.file_operation.Whence.{Whence}
use Rattle.file_store.specs.FileBytes.{part}
use Rattle.file_store.specs.FileGroups.{can_read, description_at, file_at, natural}
use Rattle.file_store.specs.WriteLaws.{Resizes, WritesBytes}
use Rattle.path_walk.specs.declared.call.Call.TheVariants.{Dup, Read, Pread, Write, Pwrite, Seek, Ftruncate, Fstat}
use Rattle.path_walk.specs.declared.call.Reply.TheVariants.{Done, Fd, Bytes, Count}
use Rattle.path_walk.specs.Store.{Store, group_at, with_group}
use Rattle.path_walk.specs.Programs.{replied}
use Rattle.path_walk.specs.Posix.{posix}

-- a number names a description, which is there, in that group of that backend
pub record IsOpenOn (store : Store) (number backend group : ℕ) (description : Description) : Type 0 where
  pub id : ℕ
  pub named : slot_at store.descriptors number ≡ slot.File backend id
  pub of_group : id % group_count ≡ group
  pub there : description_at (group_at store backend group) id ≡ Some description

-- only the files and the descriptions of that group have changed
abbrev pub ChangesGroup : Store → Store → ℕ → ℕ → Type 0
ChangesGroup old new backend group = new ≡ with_group old backend group (group_at new backend group)

-- Writing.

-- those bytes stand in a file from an offset on: any number that may read the file reads them there, at most `read_max` at
-- once, and leaves the store as it was
abbrev pub AreReadAt : ℕ → Store → ℕ → ℕ → ℕ → ℕ → List ℕ → Type 0
AreReadAt version store backend group file at bytes = (reader skip count : ℕ) (description : Description) → IsOpenOn store reader backend group description → description.file ≡ file → can_read description.mode.access ≡ true → skip + min count read_max ≤ length bytes → posix version store (Pread reader count (pos (at + skip))) ≡ replied store (Bytes (part bytes skip (min count read_max)))

-- bytes were written into a file from an offset on: all of its other bytes and all other files stay, and a gap between the
-- old end and the offset is zeros
pub record FileWritten (version : ℕ) (old new : Store) (backend group file at : ℕ) (bytes : List ℕ) : Type 0 where
  pub before : File
  pub after : File
  pub writes : WritesBytes (group_at old backend group) (group_at new backend group) file before after at bytes
  pub elsewhere : ChangesGroup old new backend group
  pub read : AreReadAt version new backend group file at bytes

-- all of the bytes were written, and the offset is behind them
pub record WrittenBy (version : ℕ) (old new : Store) (number backend group : ℕ) (description : Description) (count at : ℕ) (bytes : List ℕ) : Type 0 where
  pub all : count ≡ length bytes
  pub file : FileWritten version old new backend group description.file at bytes
  pub offset : IsOpenOn new number backend group (record description { offset = at + length bytes })

pub record WritesAreRead : Type 0 where
  -- a write is at the description's offset
  pub write : (version : ℕ) (store : Store) (number backend group count : ℕ) (description : Description) (bytes : List ℕ) → IsOpenOn store number backend group description → description.mode.append ≡ false → 0 < length bytes → (posix version store (Write number bytes)).reply ≡ Count count → WrittenBy version store (posix version store (Write number bytes)).store number backend group description count description.offset bytes
  -- under `append` it is at the file's end
  pub append : (version : ℕ) (store : Store) (number backend group count : ℕ) (description : Description) (bytes : List ℕ) (file : File) → IsOpenOn store number backend group description → file_at (group_at store backend group) description.file ≡ Some file → description.mode.append ≡ true → 0 < length bytes → (posix version store (Write number bytes)).reply ≡ Count count → WrittenBy version store (posix version store (Write number bytes)).store number backend group description count (length file.bytes) bytes
  -- and by `pwrite` at the offset that is given, in every mode. No offset moves
  pub pwrite : (version : ℕ) (store : Store) (number backend group count at : ℕ) (description : Description) (bytes : List ℕ) (offset : ℤ) → IsOpenOn store number backend group description → natural offset ≡ Some at → 0 < length bytes → (posix version store (Pwrite number bytes offset)).reply ≡ Count count → (count ≡ length bytes) × FileWritten version store (posix version store (Pwrite number bytes offset)).store backend group description.file at bytes × ((group_at (posix version store (Pwrite number bytes offset)).store backend group).descriptions ≡ (group_at store backend group).descriptions)

-- Reading.

-- the bytes from the offset on were read, at most as many as were asked for and as one read has; the offset is behind them,
-- and no file has changed
pub record ReadBy (old new : Store) (number backend group count : ℕ) (description : Description) (bytes : List ℕ) : Type 0 where
  pub file : File
  pub was : file_at (group_at old backend group) description.file ≡ Some file
  pub read : bytes ≡ part file.bytes description.offset (min count read_max)
  pub offset : IsOpenOn new number backend group (record description { offset = description.offset + length bytes })
  pub files : (group_at new backend group).files ≡ (group_at old backend group).files
  pub elsewhere : ChangesGroup old new backend group

abbrev pub ReadsMoveOffsets : Type 0
ReadsMoveOffsets = (version : ℕ) (store : Store) (number backend group count : ℕ) (description : Description) (bytes : List ℕ) → IsOpenOn store number backend group description → (posix version store (Read number count)).reply ≡ Bytes bytes → ReadBy store (posix version store (Read number count)).store number backend group count description bytes

-- Copies of a number.

-- both numbers name the same
abbrev pub AreOne : Store → ℕ → ℕ → Type 0
AreOne store number other = slot_at store.descriptors other ≡ slot_at store.descriptors number

-- each call does by the one number what it does by the other
pub record DoTheSame (version : ℕ) (store : Store) (number other : ℕ) : Type 0 where
  pub read : (count : ℕ) → posix version store (Read other count) ≡ posix version store (Read number count)
  pub pread : (count : ℕ) (offset : ℤ) → posix version store (Pread other count offset) ≡ posix version store (Pread number count offset)
  pub write : (bytes : List ℕ) → posix version store (Write other bytes) ≡ posix version store (Write number bytes)
  pub pwrite : (bytes : List ℕ) (offset : ℤ) → posix version store (Pwrite other bytes offset) ≡ posix version store (Pwrite number bytes offset)
  pub seek : (offset : ℤ) (whence : Whence) → posix version store (Seek other offset whence) ≡ posix version store (Seek number offset whence)
  pub ftruncate : (size : ℤ) → posix version store (Ftruncate other size) ≡ posix version store (Ftruncate number size)
  pub fstat : posix version store (Fstat other) ≡ posix version store (Fstat number)

-- what one number read, the other goes on behind
abbrev pub ReadsOn : ℕ → Store → ℕ → ℕ → ℕ → ℕ → Type 0
ReadsOn version store number other backend group = (count more : ℕ) (description : Description) (first next : List ℕ) → IsOpenOn store number backend group description → (posix version store (Read number count)).reply ≡ Bytes first → (posix version (posix version store (Read number count)).store (Read other more)).reply ≡ Bytes next → (file : File) × (file_at (group_at store backend group) description.file ≡ Some file) × (first ≡ part file.bytes description.offset (min count read_max)) × (next ≡ part file.bytes (description.offset + length first) (min more read_max))

pub record CopiesShare : Type 0 where
  -- the number that `dup` replies names what its number names, still
  pub dup : (version : ℕ) (store : Store) (number copy : ℕ) → (posix version store (Dup number)).reply ≡ Fd copy → AreOne (posix version store (Dup number)).store number copy × (slot_at (posix version store (Dup number)).store.descriptors number ≡ slot_at store.descriptors number)
  pub same : (version : ℕ) (store : Store) (number other : ℕ) → AreOne store number other → DoTheSame version store number other
  pub reads_on : (version : ℕ) (store : Store) (number other backend group : ℕ) → AreOne store number other → ReadsOn version store number other backend group

-- Cutting.

-- a file has that size: its bytes below it stay, and what it grew by is zeros. No offset moves
pub record FileCut (old new : Store) (backend group file size : ℕ) : Type 0 where
  pub before : File
  pub after : File
  pub resizes : Resizes (group_at old backend group) (group_at new backend group) file before after size
  pub offsets : (group_at new backend group).descriptions ≡ (group_at old backend group).descriptions
  pub elsewhere : ChangesGroup old new backend group

abbrev pub CutsKeepTheRest : Type 0
CutsKeepTheRest = (version : ℕ) (store : Store) (number backend group n : ℕ) (description : Description) (size : ℤ) → IsOpenOn store number backend group description → natural size ≡ Some n → (posix version store (Ftruncate number size)).reply ≡ Done → FileCut store (posix version store (Ftruncate number size)).store backend group description.file n
