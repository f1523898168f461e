-- What each step of the table tells the seat that takes it. Each says the whole of the seat after.
use Rattle.std.specs.Prelude.{◌≡◌, ◌≢◌, ℕ, ◌+◌, ◌<◌, [], ◌∷◌, ◌++◌, Some}
use mathlib.Core.Option.{some}
use lib.ListN.{get_elem?}
use Rattle.atomic_table.specs.Table.{Step, Me, rest}
use Rattle.turn_cell.specs.declared.entry.Entry.{Entry}
use Rattle.turn_cell.specs.declared.entry.CellRecord.{CellRecord}
use Rattle.turn_cell.specs.declared.view.Known.{Known}
use Rattle.turn_cell.specs.declared.view.Part.{Part}
use Rattle.turn_cell.specs.declared.view.Held.{Held}
use Rattle.turn_cell.specs.declared.view.View.{View}
use Rattle.turn_cell.specs.Histories.{AreAllowed}
use Rattle.turn_cell.specs.Views.{note_view, with_own_entry, with_turn, without_turn}

module _ {S O A K : Type 0} (kind : S → K) where
  -- Where the word was 0 the turn of its cell was taken, and the slot with it, of the kind that the cell began with. Else
  -- nothing was.
  abbrev pub TellsTake : Step (CellRecord S O A) → Me (CellRecord S O A) (View S O A) → ℕ → Me (CellRecord S O A) (View S O A) → Type 0
  TellsTake st m found m' = (c : ℕ) → st.word ≡ 1 + c
      → (found ≡ 0 → (cell : CellRecord S O A) × (m' ≡ (with_turn c cell m.0, (c, cell) ∷ m.1)) × ((s : S) → get_elem? m.0.openings c ≡ some s → kind cell.state ≡ kind s))
      × (found ≢ 0 → m' ≡ m)

module _ {S O A : Type 0} where
  -- the last entry in the slot has the stamp that was found, which is greater than all that the pass has seen
  abbrev pub TellsDraw : Step (CellRecord S O A) → Me (CellRecord S O A) (View S O A) → ℕ → Me (CellRecord S O A) (View S O A) → Type 0
  TellsDraw st m found m' = (g : Held S O A) (p : Part O A) (cell : CellRecord S O A) (e : Entry O A)
      → m.0.held ≡ Some g → m.0.parts ≡ p ∷ [] → m.1 ≡ (g.cell, cell) ∷ [] → cell.entries.items ≡ g.entries ++ e ∷ []
      → (m' ≡ (with_own_entry g p (record e { stamp = found }) cell.state m.0, m.1)) × ((k : ℕ) (x : Known O A) → get_elem? m.0.seen k ≡ some x → x.entry.stamp < found)

  -- the turn was given back, with the slot
  abbrev pub TellsGive : Step (CellRecord S O A) → Me (CellRecord S O A) (View S O A) → ℕ → Me (CellRecord S O A) (View S O A) → Type 0
  TellsGive st m stored m' = m' ≡ (without_turn m.0, rest m.1)

  -- a new seat has seen nothing; the seat before is told with the first view
  abbrev pub TellsEnter : Step (CellRecord S O A) → Me (CellRecord S O A) (View S O A) → ℕ → Me (CellRecord S O A) (View S O A) → Type 0
  TellsEnter st m found m' = m' ≡ (note_view m.0, [])

module _ {S O A K : Type 0} (kind : S → K) (allows : K → O → A → Type 0) where
  -- nothing changes, and what was seen is allowed
  abbrev pub TellsLearn : Step (CellRecord S O A) → Me (CellRecord S O A) (View S O A) → ℕ → Me (CellRecord S O A) (View S O A) → Type 0
  TellsLearn st m found m' = (m' ≡ m) × AreAllowed kind allows m.0.openings m.0.seen
