-- What the records of the cells are at the end: legal each by replay, and together the entries of the passes (own).
use Rattle.std.specs.Prelude.{◌≡◌, ℕ, ◌<◌, List, length}
use Rattle.std.specs.List.{sum_by}
use mathlib.Core.Option.{some}
use lib.ListN.{get_elem?}
use Rattle.turn_cell.specs.declared.entry.Entry.{Entry}
use Rattle.turn_cell.specs.declared.entry.CellRecord.{CellRecord}
use Rattle.turn_cell.specs.declared.view.Known.{Known}
use Rattle.turn_cell.specs.declared.view.View.{View}
use Rattle.turn_cell.specs.Histories.{HasMember, HasRisingStamps, Replays, count_with_stamp, entries_at_cell, entries_of_runner, state_after}
use Rattle.turn_cell.specs.Maps.{one_if_below}
use Rattle.turn_cell.specs.Views.{own_in}

module _ {S O A K : Type 0} (after : S → O → S) (reply : S → O → A) (kind : S → K) (allows : K → O → A → Type 0) where
  -- of a cell that began with s: the stamps rise along its entries, and those replay to its state
  pub record IsLegal (s : S) (r : CellRecord S O A) : Type 0 where
    pub rises : HasRisingStamps r.entries.items
    pub answers : Replays after reply s r.entries.items
    pub state : r.state ≡ state_after after s r.entries.items
    pub allowed : (i : ℕ) (e : Entry O A) → get_elem? r.entries.items i ≡ some e → allows (kind s) e.op e.answer

  -- of cells that began so, and of the views of all passes in the order of their numbers
  pub record AreHistories (openings : List S) (views : List (View S O A)) (rs : List (CellRecord S O A)) : Type 0 where
    pub count : length rs ≡ length openings
    pub legal : (c : ℕ) (r : CellRecord S O A) (s : S) → get_elem? rs c ≡ some r → get_elem? openings c ≡ some s → IsLegal s r
    -- each stamp below the clock is of one entry, and no other is of any
    pub clock : ℕ
    pub once : (x : ℕ) → sum_by (λ (r : CellRecord S O A). count_with_stamp x r.entries.items) rs ≡ one_if_below x clock
    -- each entry's runner is a pass, whose own entries are those alone that the records have of it
    pub runners : (c : ℕ) (r : CellRecord S O A) → get_elem? rs c ≡ some r → (i : ℕ) (e : Entry O A) → get_elem? r.entries.items i ≡ some e → e.runner < length views
    pub own : (t c : ℕ) (v : View S O A) (r : CellRecord S O A) → get_elem? views t ≡ some v → get_elem? rs c ≡ some r → entries_of_runner t r.entries.items ≡ entries_at_cell c (own_in v)
    pub own_near : (t i : ℕ) (v : View S O A) (x : Known O A) → get_elem? views t ≡ some v → get_elem? (own_in v) i ≡ some x → x.cell < length openings
    -- what a pass has seen is there
    pub seen : (t k : ℕ) (v : View S O A) (x : Known O A) → get_elem? views t ≡ some v → get_elem? v.seen k ≡ some x
        → (r : CellRecord S O A) × (get_elem? rs x.cell ≡ some r) × HasMember r.entries.items x.entry
