-- How a `Ring` lays its items out in its cells. No public clause cites this module.
use Rattle.std.specs.Prelude.{◌≡◌, ℕ, ◌+◌, ◌-◌, ◌≤◌, List, ◌++◌, Option, Some, None, map, length, take, drop, replicate, nat_lt, if◌then◌else◌}
use Rattle.std.specs.List.{filter_map}

-- the cell at an index of a row of so many cells. The row goes around, and the index passes its end
-- once at most
abbrev pub around : ℕ → ℕ → ℕ
around count index = if nat_lt index count then index else index - count

module _ {T : Type 0} where
  -- the cells from the head on, around the end
  abbrev pub from_head : ℕ → List (Option T) → List (Option T)
  from_head head cells = drop head cells ++ take head cells

  -- the items in a row of cells
  abbrev pub items_in : List (Option T) → List T
  items_in cells = filter_map (λ cell. cell) cells

  -- the items stand in order from the head to the tail, and the other cells are empty, one at least
  -- where there are cells
  pub record Holds (cells : List (Option T)) (head tail : ℕ) (items : List T) : Type 0 where
    pub empty : ℕ
    pub row : from_head head cells ≡ map Some items ++ replicate empty None
    pub head_within : head ≤ length cells - 1
    pub tail_is : tail ≡ around (length cells) (head + length items)
    pub one_empty : length items ≤ length cells - 1

  -- the cells hold what is seen of them, and `first` is enough for an item and an empty cell
  pub record IsSound (cells : List (Option T)) (head tail first : ℕ) : Type 0 where
    pub holds : Holds cells head tail (items_in (from_head head cells))
    pub least : 2 ≤ first
