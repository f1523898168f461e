use Rattle.std.proofs.Common.{◌≡◌, ℕ, [], map}
use mathlib.Core.Option.{some}
use lib.ListN.{get_elem?}
use Rattle.turn_cell.specs.declared.entry.CellRecord.{CellRecord}
use Rattle.turn_cell.proofs.making.records_of.Given as goal

abbrev pub invariant-loop-state : goal.invariant-loop-state
invariant-loop-state g l = (map (λ r. r.state) l.records.items ≡ l.yielded) × ((c : ℕ) (r : CellRecord _ _ _) → get_elem? l.records.items c ≡ some r → r.entries.items ≡ [])
