-- The files of one group of a backend, and the open file descriptions that refer to them: what each
-- operation answers and leaves. After POSIX.1-2017, XBD 3.258 (open file description) and XSH open(),
-- read(), pread(), write(), pwrite(), lseek(), ftruncate(), unlink() and close(): a file that was removed
-- stays until its last description ends. The ids, the limits, that an operation on a description that is
-- not there is `EBADF`, and that `pwrite()` writes at its offset under `append` too, are this project's own.
use Rattle.std.specs.Prelude.{ℕ, ◌+◌, ◌==◌, Bool, true, false, ◌||◌, nat_lt, min, List, [], length, Option, None, Some, Result, Ok, Err, ℤ, pos, negsuc, ◌+ℤ◌, sum_by, if◌then◌else◌}
use Rattle.std.specs.List.{list_any}
use Rattle.wf_core.specs.Limits.{file_max, group_max, offset_max, read_max}
use Rattle.wf_core.specs.declared.errno.Errno.{Errno}
use Rattle.wf_core.specs.declared.errno.Errno.TheVariants.{Ebadf, Einval, Efbig, Enospc, Eoverflow}
use Rattle.file_store.specs.declared.file_operation.Access.{Access}
use Rattle.file_store.specs.declared.file_operation.Access.TheVariants.{Read, Write, ReadWrite}
use Rattle.file_store.specs.declared.file_operation.Mode.{Mode}
use Rattle.file_store.specs.declared.file_operation.Whence.{Whence}
use Rattle.file_store.specs.declared.file_operation.Whence.TheVariants.{Set, Cur, End}
use Rattle.file_store.specs.declared.file_operation.FileOp.{FileOp}
use Rattle.file_store.specs.declared.file_operation.FileOp.TheVariants as op
use Rattle.file_store.specs.declared.file_operation.FileAnswer.{FileAnswer}
use Rattle.file_store.specs.declared.file_operation.FileAnswer.TheVariants as answer
use Rattle.file_store.specs.declared.file.File.{File}
use Rattle.file_store.specs.declared.file.Description.{Description}
use Rattle.file_store.specs.FileBytes.{part, with_length, with_bytes_at, page_count}
use Rattle.file_store.specs.Tables.{Table, empty_from, row_at, rows, with_next_row, with_row, without_row}

-- a group: its files and its descriptions, by their ids
pub record Group : Type 0 where
  pub files : Table File
  pub descriptions : Table Description

-- group g without files. Its ids are g, g + 4, g + 8 and so on, and none is used again
abbrev pub opening : ℕ → Group
opening group = record { files = empty_from group; descriptions = empty_from group }

abbrev pub file_at : Group → ℕ → Option File
file_at group id = row_at group.files id

abbrev pub description_at : Group → ℕ → Option Description
description_at group id = row_at group.descriptions id

-- the file of a description
abbrev pub open_file_with : Option File → Description → Option (Description × File)
open_file_with None description = None
open_file_with (Some file) description = Some (description, file)

abbrev pub open_file_of : Group → Option Description → Option (Description × File)
open_file_of group None = None
open_file_of group (Some description) = open_file_with (file_at group description.file) description

-- a description with its file
abbrev pub open_file_at : Group → ℕ → Option (Description × File)
open_file_at group id = open_file_of group (description_at group id)

-- some description is of that file
abbrev pub is_open : Table Description → ℕ → Bool
is_open descriptions id = list_any (λ (description : Description). description.file == id) (rows descriptions)

-- how many bytes all files have together, removed ones that are still open among them
abbrev pub total : Table File → ℕ
total files = sum_by (λ (file : File). length file.bytes) (rows files)

-- how many pages of all files have a byte other than 0
abbrev pub total_pages : Table File → ℕ
total_pages files = sum_by (λ (file : File). page_count file.bytes) (rows files)

abbrev pub can_read : Access → Bool
can_read Read = true
can_read Write = false
can_read ReadWrite = true

abbrev pub can_write : Access → Bool
can_write Read = false
can_write Write = true
can_write ReadWrite = true

-- a signed number that is not negative
abbrev pub natural : ℤ → Option ℕ
natural (pos n) = Some n
natural (negsuc n) = None

-- what an operation answers, and the group that it leaves
pub record FilesOutcome : Type 0 where
  pub group : Group
  pub answer : FileAnswer

abbrev pub outcome_of : Group → FileAnswer → FilesOutcome
outcome_of group answer = record { group = group; answer = answer }

-- what is done by a description is done where it is there, and is `EBADF` else
abbrev pub on_open : Group → (Description → File → FilesOutcome) → Option (Description × File) → FilesOutcome
on_open group done None = outcome_of group (answer.Fault Ebadf)
on_open group done (Some o) = done o.0 o.1

-- the group with other files
abbrev pub with_files : Group → Table File → Group
with_files group files = record group { files = files }

-- the group in which a description is at another offset
abbrev pub with_offset : Group → ℕ → Description → ℕ → Group
with_offset group id description offset = record group { descriptions = with_row group.descriptions id (record description { offset = offset }) }

-- the group with one more description, at offset 0
abbrev pub with_description : Group → ℕ → Mode → Group
with_description group file mode = record group { descriptions = with_next_row group.descriptions (record { file = file; mode = mode; offset = 0 }) }

abbrev pub empty_file : File
empty_file = record { bytes = []; linked = true }

-- why a file may not have that end, in the files that would be left
abbrev pub refusal : ℕ → Table File → Option Errno
refusal end files = if nat_lt file_max end then Some Efbig else (if nat_lt group_max (total files) then Some Enospc else None)

-- what would be done is done, unless it is refused
abbrev pub unless_refused : Group → Option Errno → FilesOutcome → FilesOutcome
unless_refused group None done = done
unless_refused group (Some error) done = outcome_of group (answer.Fault error)

abbrev pub make_outcome : Group → Mode → FilesOutcome
make_outcome group mode = record { group = with_description (with_files group (with_next_row group.files empty_file)) group.files.next mode; answer = answer.File group.files.next group.descriptions.next }

-- a file whose contents are cut to nothing where that is asked
abbrev pub files_after_truncation : Table File → ℕ → File → Bool → Table File
files_after_truncation files id file false = files
files_after_truncation files id file true = with_row files id (record file { bytes = [] })

abbrev pub attach_outcome : Group → ℕ → Mode → Bool → Option File → FilesOutcome
attach_outcome group id mode truncate None = outcome_of group answer.Gone
attach_outcome group id mode truncate (Some file) = if file.linked then (record { group = with_description (with_files group (files_after_truncation group.files id file truncate)) id mode; answer = answer.Desc group.descriptions.next }) else outcome_of group answer.Gone

abbrev pub sizeof_answer : Option File → FileAnswer
sizeof_answer None = answer.Gone
sizeof_answer (Some file) = if file.linked then answer.Size (length file.bytes) else answer.Gone

-- the files of which one is no longer linked. Without a description it is gone at once
abbrev pub files_after_unlink : Table File → Bool → ℕ → Option File → Table File
files_after_unlink files in_use id None = files
files_after_unlink files in_use id (Some file) = if in_use then with_row files id (record file { linked = false }) else without_row files id

-- the files without one that is neither linked nor open
abbrev pub files_after_sweep : Table File → Bool → ℕ → Option File → Table File
files_after_sweep files in_use id None = files
files_after_sweep files in_use id (Some file) = if file.linked || in_use then files else without_row files id

-- the group without a description, and without its file where that was only kept for it
abbrev pub group_after_release : Group → Table Description → ℕ → Group
group_after_release group left id = record { files = files_after_sweep group.files (is_open left id) id (file_at group id); descriptions = left }

abbrev pub release_outcome : Group → ℕ → Option Description → FilesOutcome
release_outcome group id None = outcome_of group (answer.Fault Ebadf)
release_outcome group id (Some description) = record { group = group_after_release group (without_row group.descriptions id) description.file; answer = answer.Done }

-- the bytes that were read, with the offset moved on behind them
abbrev pub read_outcome_on : Group → ℕ → Description → List ℕ → FilesOutcome
read_outcome_on group id description bytes = record { group = with_offset group id description (description.offset + length bytes); answer = answer.Bytes bytes }

abbrev pub read_outcome : Group → ℕ → ℕ → Description → File → FilesOutcome
read_outcome group id count description file = if can_read description.mode.access then read_outcome_on group id description (part file.bytes description.offset (min count read_max)) else outcome_of group (answer.Fault Ebadf)

abbrev pub readat_answer_from : File → ℕ → Option ℕ → FileAnswer
readat_answer_from file count None = answer.Fault Einval
readat_answer_from file count (Some offset) = answer.Bytes (part file.bytes offset (min count read_max))

abbrev pub readat_answer : ℕ → ℤ → Description → File → FileAnswer
readat_answer count offset description file = if can_read description.mode.access then readat_answer_from file count (natural offset) else answer.Fault Ebadf

abbrev pub readat_outcome : Group → ℕ → ℤ → Description → File → FilesOutcome
readat_outcome group count offset description file = outcome_of group (readat_answer count offset description file)

-- the files into one of which bytes were written
abbrev pub with_bytes : Table File → ℕ → File → ℕ → List ℕ → Table File
with_bytes files id file at bytes = with_row files id (record file { bytes = with_bytes_at file.bytes at bytes })

-- why bytes may not be written into a file
abbrev pub put_refusal : Table File → ℕ → File → ℕ → List ℕ → Option Errno
put_refusal files id file at bytes = refusal (at + length bytes) (with_bytes files id file at bytes)

-- where a description writes
abbrev pub write_offset : Description → File → ℕ
write_offset description file = if description.mode.append then length file.bytes else description.offset

-- bytes written by a description, which is then at their end
abbrev pub write_outcome_on : Group → ℕ → Description → File → ℕ → List ℕ → FilesOutcome
write_outcome_on group id description file at bytes = unless_refused group (put_refusal group.files description.file file at bytes) (record { group = with_offset (with_files group (with_bytes group.files description.file file at bytes)) id description (at + length bytes); answer = answer.Count (length bytes) })

abbrev pub write_outcome : Group → ℕ → List ℕ → Description → File → FilesOutcome
write_outcome group id bytes description file = if can_write description.mode.access then (if length bytes == 0 then outcome_of group (answer.Count 0) else write_outcome_on group id description file (write_offset description file) bytes) else outcome_of group (answer.Fault Ebadf)

abbrev pub writeat_outcome_from : Group → ℕ → File → List ℕ → Option ℕ → FilesOutcome
writeat_outcome_from group file_id file bytes None = outcome_of group (answer.Fault Einval)
writeat_outcome_from group file_id file bytes (Some at) = if length bytes == 0 then outcome_of group (answer.Count 0) else unless_refused group (put_refusal group.files file_id file at bytes) (record { group = with_files group (with_bytes group.files file_id file at bytes); answer = answer.Count (length bytes) })

abbrev pub writeat_outcome : Group → List ℕ → ℤ → Description → File → FilesOutcome
writeat_outcome group bytes offset description file = if can_write description.mode.access then writeat_outcome_from group description.file file bytes (natural offset) else outcome_of group (answer.Fault Ebadf)

-- what a seek counts from
abbrev pub seek_base : Whence → Description → File → ℕ
seek_base Set description file = 0
seek_base Cur description file = description.offset
seek_base End description file = length file.bytes

-- the offset that a seek leads to, which is not negative and not too large
abbrev pub seek_offset : Option ℕ → Result ℕ Errno
seek_offset None = Err Einval
seek_offset (Some at) = if nat_lt offset_max at then Err Eoverflow else Ok at

abbrev pub seek_outcome_to : Group → ℕ → Description → Result ℕ Errno → FilesOutcome
seek_outcome_to group id description (Err error) = outcome_of group (answer.Fault error)
seek_outcome_to group id description (Ok at) = record { group = with_offset group id description at; answer = answer.At at }

abbrev pub seek_outcome : Group → ℕ → ℤ → Whence → Description → File → FilesOutcome
seek_outcome group id offset whence description file = seek_outcome_to group id description (seek_offset (natural (pos (seek_base whence description file) +ℤ offset)))

-- the files of which one has that size
abbrev pub with_size : Table File → ℕ → File → ℕ → Table File
with_size files id file size = with_row files id (record file { bytes = with_length size file.bytes })

abbrev pub cut_refusal : Table File → ℕ → File → ℕ → Option Errno
cut_refusal files id file size = refusal size (with_size files id file size)

abbrev pub cut_outcome_to : Group → ℕ → File → Option ℕ → FilesOutcome
cut_outcome_to group id file None = outcome_of group (answer.Fault Einval)
cut_outcome_to group id file (Some size) = unless_refused group (cut_refusal group.files id file size) (record { group = with_files group (with_size group.files id file size); answer = answer.Done })

abbrev pub cut_outcome : Group → ℤ → Description → File → FilesOutcome
cut_outcome group size description file = if can_write description.mode.access then cut_outcome_to group description.file file (natural size) else outcome_of group (answer.Fault Einval)

abbrev pub size_outcome : Group → Description → File → FilesOutcome
size_outcome group description file = outcome_of group (answer.Size (length file.bytes))

-- each operation on a group
abbrev pub fstep : Group → FileOp → FilesOutcome
fstep group (op.Make mode) = make_outcome group mode
fstep group (op.Attach file mode truncate) = attach_outcome group file mode truncate (file_at group file)
fstep group (op.Sizeof file) = outcome_of group (sizeof_answer (file_at group file))
fstep group (op.Unlinked file) = outcome_of (with_files group (files_after_unlink group.files (is_open group.descriptions file) file (file_at group file))) answer.Done
fstep group (op.Release id) = release_outcome group id (description_at group id)
fstep group (op.Read id count) = on_open group (read_outcome group id count) (open_file_at group id)
fstep group (op.Readat id count offset) = on_open group (readat_outcome group count offset) (open_file_at group id)
fstep group (op.Write id bytes) = on_open group (write_outcome group id bytes) (open_file_at group id)
fstep group (op.Writeat id bytes offset) = on_open group (writeat_outcome group bytes offset) (open_file_at group id)
fstep group (op.Seek id offset whence) = on_open group (seek_outcome group id offset whence) (open_file_at group id)
fstep group (op.Cut id size) = on_open group (cut_outcome group size) (open_file_at group id)
fstep group (op.Size id) = on_open group (size_outcome group) (open_file_at group id)
