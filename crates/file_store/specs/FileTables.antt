-- What a table of files keeps true of itself. No public clause cites this module.
use Rattle.std.specs.Prelude.{◌≡◌, ℕ, ◌≤◌, List, Option, None, Some}
use Rattle.wf_core.specs.declared.errno.Errno.{Errno}
use Rattle.file_store.specs.declared.file.File.{File}
use Rattle.file_store.specs.Tables.{Table, IsFresh}
use Rattle.wf_core.specs.Limits.{group_max}
use Rattle.file_store.specs.FileGroups.{total, with_bytes, with_size}

-- the sum of sizes that is kept is that of the files, within the group's limit
pub record IsSummed (files : Table File) (sum : ℕ) : Type 0 where
  pub sum_is : sum ≡ total files
  pub within : sum ≤ group_max
  pub fresh : IsFresh files

-- the files after bytes were written into one of them, unless that was refused
abbrev pub put_unless : Table File → ℕ → File → ℕ → List ℕ → Option Errno → Table File
put_unless files id file at bytes None = with_bytes files id file at bytes
put_unless files id file at bytes (Some error) = files

-- the files after one of them got a size, unless that was refused
abbrev pub cut_unless : Table File → ℕ → File → ℕ → Option Errno → Table File
cut_unless files id file size None = with_size files id file size
cut_unless files id file size (Some error) = files
