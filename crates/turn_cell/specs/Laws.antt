-- What each step on a table changes of what it shows, in every state that the table may have (own).
use Rattle.std.specs.Prelude.{◌≡◌, ◌≢◌, ℕ, suc, ◌+◌, ◌%◌, ◌^◌, ◌<◌, true, List, [], ◌∷◌, ◌++◌, length, slice_index, slice_set, Some, None}
use mathlib.Core.Option.{some}
use lib.ListN.{get_elem?}
use Rattle.atomic_table.specs.Table.{State, gives, keeps, stepped, takes}
use Rattle.turn_cell.specs.declared.entry.Entry.{Entry}
use Rattle.turn_cell.specs.declared.entry.CellRecord.{CellRecord}
use Rattle.turn_cell.specs.declared.view.Known.{Known}
use Rattle.turn_cell.specs.declared.view.Part.{Part}
use Rattle.turn_cell.specs.declared.view.Held.{Held}
use Rattle.turn_cell.specs.declared.view.View.{View}
use Rattle.turn_cell.specs.Histories.{CellAllows, HasMember}
use Rattle.turn_cell.specs.Maps.{with_value_at}
use Rattle.turn_cell.specs.Rule.{Shown, ShowsThat}
use Rattle.turn_cell.specs.Turns.{IsAfterSeen, IsNextEntry}
use Rattle.turn_cell.specs.Views.{dealer_view, dealt_view, first_view, joined_view, note_view, parts_from, spent_view, with_own_entry, with_turn, without_turn}

module _ {S O A K : Type 0} (after : S → O → S) (reply : S → O → A) (kind : S → K) (allows : K → O → A → Type 0) where
  -- of each state that a table may have, whatever its cells began with
  abbrev pub OfEachState : ((openings : List S) (passes : ℕ) (s : State (CellRecord S O A) (View S O A)) → Shown after reply kind allows openings passes s → Type 0) → Type 0
  OfEachState P = (openings : List S) (passes : ℕ) (s : State (CellRecord S O A) (View S O A)) (r : Shown after reply kind allows openings passes s) → P openings passes s r

  -- of each seat in each such state
  abbrev pub OfEachSeat : ((openings : List S) (passes : ℕ) (s : State (CellRecord S O A) (View S O A)) → Shown after reply kind allows openings passes s → ℕ → View S O A → Type 0) → Type 0
  OfEachSeat P = OfEachState (λ openings passes s r. (id : ℕ) (v : View S O A) → get_elem? s.views id ≡ some v → P openings passes s r id v)

  -- whatever a state shows of a cell, it shows always
  abbrev pub ShowsOneHistory : Type 0
  ShowsOneHistory = OfEachState (λ openings passes s r. (r' : Shown after reply kind allows openings passes s) (c : ℕ) → c < length openings
      → (r.log c ≡ r'.log c) × (r.turn c ≡ r'.turn c))

  -- An exchange of a free turn: the cell lies in its slot with its entries, and from then on the seat has its turn. No entry
  -- changes.
  abbrev pub TakesFreeTurn : Type 0
  TakesFreeTurn = OfEachSeat (λ openings passes s r id v. (c : ℕ) (held : List (ℕ × CellRecord S O A)) → c < length openings → v.held ≡ None → 0 < length v.parts → slice_index s.words (1 + c) ≡ 0
      → (r.turn c ≡ None) × ((cell : CellRecord S O A) × (get_elem? s.homes c ≡ some (some cell)) × (cell.entries.items ≡ r.log c)
      × ShowsThat after reply kind allows openings passes (stepped s (1 + c) 1 id held (with_turn c cell v) (takes c cell)) r.log (with_value_at r.turn c (Some id))))

  -- A fetch add of the clock, by a seat that has the turn of a cell and there the next entry: the entry, whose stamp is what
  -- the clock was, is then last in that cell. The stamp is greater than all that the seat has seen, and than all of that
  -- cell. No other cell changes, and no turn.
  abbrev pub DrawsUnderTurn : Type 0
  DrawsUnderTurn = OfEachSeat (λ openings passes s r id v. (g : Held S O A) (p : Part O A) (e : Entry O A) (state : S) (held : List (ℕ × CellRecord S O A))
      → v.held ≡ Some g → v.parts ≡ p ∷ [] → e.stamp ≡ slice_index s.words 0 → IsNextEntry after reply kind allows g p e state
      → (r.turn g.cell ≡ Some id) × IsAfterSeen v e.stamp × ((i : ℕ) (x : Entry O A) → get_elem? (r.log g.cell) i ≡ some x → x.stamp < e.stamp)
      × ShowsThat after reply kind allows openings passes (stepped s 0 ((slice_index s.words 0 + 1) % 2 ^ 64) id held (with_own_entry g p e state v) keeps)
      (with_value_at r.log g.cell (r.log g.cell ++ e ∷ [])) r.turn)

  -- A store of a free turn, by the seat that has it, with the cell as its view says: the turn is free. No entry changes.
  abbrev pub GivesOwnTurn : Type 0
  GivesOwnTurn = OfEachSeat (λ openings passes s r id v. (g : Held S O A) (cell : CellRecord S O A) (held : List (ℕ × CellRecord S O A))
      → v.held ≡ Some g → cell.state ≡ g.state → cell.entries.items ≡ g.entries
      → (r.turn g.cell ≡ Some id) × (cell.entries.items ≡ r.log g.cell)
      × ShowsThat after reply kind allows openings passes (stepped s (1 + g.cell) 0 id ((g.cell, cell) ∷ held) (without_turn v) gives) r.log (with_value_at r.turn g.cell None))

  -- a pass splits off a note: no entry changes, and no turn
  abbrev pub SplitsOffNote : Type 0
  SplitsOffNote = OfEachSeat (λ openings passes s r id v. v.live ≡ true
      → ShowsThat after reply kind allows openings passes (record { words = s.words; homes = s.homes; views = slice_set s.views id v ++ note_view v ∷ [] }) r.log r.turn)

  -- the dealer splits off a pass: no entry changes, and no turn
  abbrev pub SplitsOffPass : Type 0
  SplitsOffPass = OfEachSeat (λ openings passes s r id v. (first count : ℕ) → v.live ≡ true → v.held ≡ None → v.parts ≡ parts_from first (suc count)
      → ShowsThat after reply kind allows openings passes (record { words = s.words; homes = s.homes; views = slice_set s.views id (dealer_view v) ++ dealt_view v ∷ [] }) r.log r.turn)

  -- a seat takes in another that has no turn: no entry changes, and no turn
  abbrev pub JoinsOther : Type 0
  JoinsOther = OfEachSeat (λ openings passes s r id v. (other : ℕ) (w : View S O A) → v.live ≡ true → w.held ≡ None → other ≢ id → get_elem? s.views other ≡ some w
      → ShowsThat after reply kind allows openings passes (record { words = s.words; homes = s.homes; views = slice_set (slice_set s.views id (joined_view v w)) other spent_view }) r.log r.turn)

  -- a new seat comes, which has seen nothing: no entry changes, and no turn
  abbrev pub AddsSeat : Type 0
  AddsSeat = OfEachState (λ openings passes s r.
      ShowsThat after reply kind allows openings passes (record { words = s.words; homes = s.homes; views = s.views ++ note_view (first_view openings passes) ∷ [] }) r.log r.turn)

  -- What a seat has seen, as its own or from a note, is an entry of its cell, with an answer that the cell's kind allows.
  abbrev pub SeenIsAllowed : Type 0
  SeenIsAllowed = OfEachSeat (λ openings passes s r id v. (k : ℕ) (x : Known O A) → get_elem? v.seen k ≡ some x
      → (x.cell < length openings) × HasMember (r.log x.cell) x.entry × CellAllows kind allows openings x.cell x.entry.op x.entry.answer)
