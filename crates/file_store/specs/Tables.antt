-- Finite maps from ids to what they name, with the next id.
use Rattle.std.specs.Prelude.{◌≡◌, ℕ, ◌+◌, ◌<◌, List, [], Option, IsSome}
use Rattle.std.specs.Ordering.{nat_cmp}
use Rattle.std.specs.Map.{lookup, set_value, remove_entry, values_of}
use Rattle.std.specs.BTreeMap.{insert_entry, is_at}
use Rattle.wf_core.specs.Limits.{group_count}

-- the entries in the order of their ids, and the next id
pub record Table (X : Type 0) : Type 0 where
  pub entries : List (ℕ × X)
  pub next : ℕ

module _ {X : Type 0} where
  -- a table without entries
  abbrev pub empty_from : ℕ → Table X
  empty_from first = record { entries = []; next = first }

  -- what an id names, where it names something
  abbrev pub row_at : Table X → ℕ → Option X
  row_at table id = lookup (is_at (nat_cmp id)) table.entries

  abbrev pub rows : Table X → List X
  rows table = values_of table.entries

  -- the table with one entry more, under the next id. Ids go up by the number of groups, so none is used again
  abbrev pub with_next_row : Table X → X → Table X
  with_next_row table x = record { entries = insert_entry nat_cmp table.entries table.next x; next = table.next + group_count }

  -- the table in which an id that names something names something else
  abbrev pub with_row : Table X → ℕ → X → Table X
  with_row table id x = record table { entries = set_value (is_at (nat_cmp id)) table.entries x }

  abbrev pub without_row : Table X → ℕ → Table X
  without_row table id = record table { entries = remove_entry (is_at (nat_cmp id)) table.entries }

  -- no id from the next on names anything
  abbrev pub IsFresh : Table X → Type 0
  IsFresh table = (id : ℕ) → IsSome (row_at table id) → id < table.next

  -- an entry was added under that id
  abbrev pub IsAdded : Table X → ℕ → Type 0
  IsAdded table id = (before : Table X) × (x : X) × IsFresh before × (id ≡ before.next) × (table ≡ with_next_row before x)
