-- What holds of every group that operations lead to from an opening.
use Rattle.std.specs.Prelude.{◌≡◌, ℕ, ◌%◌, ◌<◌, ◌≤◌, true, false, length, Some, IsSome}
use Rattle.std.specs.Ordering.{nat_cmp}
use Rattle.std.specs.Map.{keys_of}
use Rattle.std.specs.List.Sorted.{IsStrictlySortedBy}
use Rattle.wf_core.specs.Limits.{file_max, group_count, group_max}
use Rattle.file_store.specs.declared.file.File.{File}
use Rattle.file_store.specs.declared.file.Description.{Description}
use Rattle.file_store.specs.Tables.{Table, row_at}
use Rattle.file_store.specs.FileGroups.{Group, file_at, description_at, is_open, total}

-- which group of its backend it is: the rest by `group_count` of its ids
abbrev pub number_of : Group → ℕ
number_of group = group.files.next % group_count

-- the ids of a table are those of group `number`, below the next one, and none stands twice
pub record AreIdsOf {X : Type 0} (number : ℕ) (table : Table X) : Type 0 where
  pub given : (id : ℕ) → IsSome (row_at table id) → (id < table.next) × (id % group_count ≡ number)
  pub next : table.next % group_count ≡ number
  pub once : IsStrictlySortedBy nat_cmp (keys_of table.entries)

pub record IsSound (group : Group) : Type 0 where
  -- each description is of a file that is there: so no file goes that is open
  pub has_file : (id : ℕ) (description : Description) → description_at group id ≡ Some description → IsSome (file_at group description.file)
  -- a file that is not linked is open: else it is freed
  pub is_used : (id : ℕ) (file : File) → file_at group id ≡ Some file → file.linked ≡ false → is_open group.descriptions id ≡ true
  -- no file has more than `file_max` bytes
  pub file_size : (id : ℕ) (file : File) → file_at group id ≡ Some file → length file.bytes ≤ file_max
  -- all together, removed ones that are still open among them, have not more than `group_max`
  pub group_size : total group.files ≤ group_max
  pub file_ids : AreIdsOf (number_of group) group.files
  pub description_ids : AreIdsOf (number_of group) group.descriptions
