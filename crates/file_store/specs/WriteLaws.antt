-- What a user may conclude of the bytes of files that are written, read and cut, in the words of POSIX.1-2017, XSH
-- write(), pwrite(), pread(), ftruncate() and open(). Byte i of a file is `slice_index` of its bytes.
use Rattle.std.specs.Prelude.{◌≡◌, ◌≢◌, ℕ, ◌+◌, ◌<◌, ◌≤◌, max, min, true, false, List, length, slice_index, Some, ℤ, pos}
use Rattle.wf_core.specs.Limits.{read_max}
use Rattle.file_store.specs.declared.file.File.{File}
use Rattle.file_store.specs.declared.file.Description.{Description}
use Rattle.file_store.specs.declared.file_operation.Mode.{Mode}
use Rattle.file_store.specs.declared.file_operation.FileOp.TheVariants as op
use Rattle.file_store.specs.declared.file_operation.FileAnswer.TheVariants as answer
use Rattle.file_store.specs.FileBytes.{part}
use Rattle.file_store.specs.FileGroups.{Group, fstep, file_at, description_at, open_file_at, can_read, natural}

-- of all files one became another, with the same link
pub record ChangesOne (before after : Group) (id : ℕ) (old new : File) : Type 0 where
  pub was : file_at before id ≡ Some old
  pub is : file_at after id ≡ Some new
  pub linked : new.linked ≡ old.linked
  pub others : (other : ℕ) → other ≢ id → file_at after other ≡ file_at before other

-- bytes were written into a file from an offset on
pub record WritesBytes (before after : Group) (id : ℕ) (old new : File) (at : ℕ) (bytes : List ℕ) : Type 0 where
  pub one : ChangesOne before after id old new
  pub size : length new.bytes ≡ max (length old.bytes) (at + length bytes)
  pub written : part new.bytes at (length bytes) ≡ bytes
  pub below : (i : ℕ) → i < at → i < length old.bytes → slice_index new.bytes i ≡ slice_index old.bytes i
  -- a gap between the old end and the offset is zeros
  pub gap : (i : ℕ) → length old.bytes ≤ i → i < at → slice_index new.bytes i ≡ 0
  pub above : (i : ℕ) → at + length bytes ≤ i → i < length old.bytes → slice_index new.bytes i ≡ slice_index old.bytes i

-- a file got a size
pub record Resizes (before after : Group) (id : ℕ) (old new : File) (n : ℕ) : Type 0 where
  pub one : ChangesOne before after id old new
  pub size : length new.bytes ≡ n
  pub kept : (i : ℕ) → i < n → i < length old.bytes → slice_index new.bytes i ≡ slice_index old.bytes i
  -- a growth is zeros
  pub growth : (i : ℕ) → length old.bytes ≤ i → i < n → slice_index new.bytes i ≡ 0

-- bytes were written by a description, whose offset is then behind them
abbrev pub IsWritten : Group → Group → ℕ → Description → File → ℕ → List ℕ → Type 0
IsWritten before after id description old at bytes = (new : File) × WritesBytes before after description.file old new at bytes × (description_at after id ≡ Some (record description { offset = at + length bytes }))

pub record WritesAreRead : Type 0 where
  -- under `append` a write is at the file's end, else at the description's offset
  pub append : (group : Group) (id : ℕ) (bytes : List ℕ) (count : ℕ) (description : Description) (old : File) → open_file_at group id ≡ Some (description, old) → description.mode.append ≡ true → 0 < length bytes → (fstep group (op.Write id bytes)).answer ≡ answer.Count count → IsWritten group (fstep group (op.Write id bytes)).group id description old (length old.bytes) bytes
  pub write : (group : Group) (id : ℕ) (bytes : List ℕ) (count : ℕ) (description : Description) (old : File) → open_file_at group id ≡ Some (description, old) → description.mode.append ≡ false → 0 < length bytes → (fstep group (op.Write id bytes)).answer ≡ answer.Count count → IsWritten group (fstep group (op.Write id bytes)).group id description old description.offset bytes
  -- a write at an offset is there in every mode, and moves no offset
  pub write_at : (group : Group) (id : ℕ) (bytes : List ℕ) (offset : ℤ) (at count : ℕ) (description : Description) (old : File) → open_file_at group id ≡ Some (description, old) → natural offset ≡ Some at → 0 < length bytes → (fstep group (op.Writeat id bytes offset)).answer ≡ answer.Count count → (new : File) × WritesBytes group (fstep group (op.Writeat id bytes offset)).group description.file old new at bytes × ((fstep group (op.Writeat id bytes offset)).group.descriptions ≡ group.descriptions)
  -- what was written is what a read there reads, by whichever description of the file
  pub read_at : (before after : Group) (file : ℕ) (old new : File) (at : ℕ) (bytes : List ℕ) → WritesBytes before after file old new at bytes → (reader skip count : ℕ) (description : Description) → description_at after reader ≡ Some description → description.file ≡ file → can_read description.mode.access ≡ true → skip + min count read_max ≤ length bytes → (fstep after (op.Readat reader count (pos (at + skip)))).answer ≡ answer.Bytes (part bytes skip (min count read_max))

pub record CutsKeepTheRest : Type 0 where
  pub cut : (group : Group) (id : ℕ) (size : ℤ) (n : ℕ) (description : Description) (old : File) → open_file_at group id ≡ Some (description, old) → natural size ≡ Some n → (fstep group (op.Cut id size)).answer ≡ answer.Done → (new : File) × Resizes group (fstep group (op.Cut id size)).group description.file old new n × ((fstep group (op.Cut id size)).group.descriptions ≡ group.descriptions)
  -- with truncation a file is cut to nothing, and without it all files stay
  pub truncation : (group : Group) (file : ℕ) (mode : Mode) (description : ℕ) (old : File) → file_at group file ≡ Some old → (fstep group (op.Attach file mode true)).answer ≡ answer.Desc description → (new : File) × Resizes group (fstep group (op.Attach file mode true)).group file old new 0
  pub no_truncation : (group : Group) (file : ℕ) (mode : Mode) → (fstep group (op.Attach file mode false)).group.files ≡ group.files
