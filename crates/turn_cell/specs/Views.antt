-- What a seat of the table knows, and what becomes of it.
use Rattle.std.specs.Prelude.{ℕ, zero, suc, ◌+◌, true, false, List, [], ◌∷◌, ◌++◌, Some, None}
use Rattle.turn_cell.specs.declared.entry.Entry.{Entry}
use Rattle.turn_cell.specs.declared.entry.CellRecord.{CellRecord}
use Rattle.turn_cell.specs.declared.view.Known.{Known}
use Rattle.turn_cell.specs.declared.view.Part.{Part}
use Rattle.turn_cell.specs.declared.view.Held.{Held}
use Rattle.turn_cell.specs.declared.view.View.{View}

module _ {O A : Type 0} where
  -- the parts of the k runners from number n on, of which none has an entry
  abbrev pub parts_from : ℕ → ℕ → List (Part O A)
  parts_from n zero = []
  parts_from n (suc k) = record { number = n; own = [] } ∷ parts_from (n + 1) k

  abbrev pub first_part : List (Part O A) → List (Part O A)
  first_part [] = []
  first_part (p ∷ ps) = p ∷ []

  abbrev pub other_parts : List (Part O A) → List (Part O A)
  other_parts [] = []
  other_parts (p ∷ ps) = ps

  abbrev pub own_of_parts : List (Part O A) → List (Known O A)
  own_of_parts [] = []
  own_of_parts (p ∷ ps) = p.own

module _ {S O A : Type 0} where
  -- of the first seat, which has all runners
  abbrev pub first_view : List S → ℕ → View S O A
  first_view openings passes = record { live = true; openings = openings; parts = parts_from 0 passes; seen = []; held = None }

  -- the entries of the runner of a pass, in the order in which they were made
  abbrev pub own_in : View S O A → List (Known O A)
  own_in v = own_of_parts v.parts

  -- the turn of the cell c is held, which is as it is found
  abbrev pub with_turn : ℕ → CellRecord S O A → View S O A → View S O A
  with_turn c cell v = record v { held = Some (record { cell = c; state = cell.state; entries = cell.entries.items }) }

  abbrev pub without_turn : View S O A → View S O A
  without_turn v = record v { held = None }

  -- the entry is the runner's own, and seen, and stands last in the cell that is held
  abbrev pub with_own_entry : Held S O A → Part O A → Entry O A → S → View S O A → View S O A
  with_own_entry g p e state v = record v {
    parts = record p { own = p.own ++ record { cell = g.cell; entry = e } ∷ [] } ∷ [];
    seen = v.seen ++ record { cell = g.cell; entry = e } ∷ [];
    held = Some (record { cell = g.cell; state = state; entries = g.entries ++ e ∷ [] });
  }

  -- of a pass once it has added the entry to the cell c, and has given the turn back
  abbrev pub view_after_step : ℕ → ℕ → Entry O A → View S O A → View S O A
  view_after_step number c e v = record v {
    parts = record { number = number; own = own_in v ++ record { cell = c; entry = e } ∷ [] } ∷ [];
    seen = v.seen ++ record { cell = c; entry = e } ∷ [];
    held = None;
  }

  -- of a note, which has seen what its pass has seen
  abbrev pub note_view : View S O A → View S O A
  note_view v = record { live = true; openings = v.openings; parts = []; seen = v.seen; held = None }

  -- of a seat that another took in
  abbrev pub spent_view : View S O A
  spent_view = record { live = false; openings = []; parts = []; seen = []; held = None }

  -- the first has the runners of both, and has seen what both have seen
  abbrev pub joined_view : View S O A → View S O A → View S O A
  joined_view v w = record v { parts = v.parts ++ w.parts; seen = v.seen ++ w.seen }

  -- of a pass that is dealt, which has the first runner
  abbrev pub dealt_view : View S O A → View S O A
  dealt_view v = record { live = true; openings = v.openings; parts = first_part v.parts; seen = []; held = None }

  -- of the dealer after it, which has the others
  abbrev pub dealer_view : View S O A → View S O A
  dealer_view v = record v { parts = other_parts v.parts }
