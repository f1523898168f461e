use Rattle.turn_cell.proofs.Lawful.{seen_entry_is_allowed}
use Rattle.turn_cell.proofs.laws.seen_is_allowed.Goals as goal

pub returns : goal.returns
returns g c = let s = g.S.CellState in seen_entry_is_allowed s.after s.reply s.kind s.allows
