use Rattle.turn_cell.proofs.Lawful.{seat_is_added}
use Rattle.turn_cell.proofs.laws.new_seat_changes_no_cell.Goals as goal

pub returns : goal.returns
returns g c = let s = g.S.CellState in seat_is_added s.after s.reply s.kind s.allows
