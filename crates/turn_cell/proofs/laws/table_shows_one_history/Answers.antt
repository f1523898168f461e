use Rattle.turn_cell.proofs.Lawful.{one_history_is_shown}
use Rattle.turn_cell.proofs.laws.table_shows_one_history.Goals as goal

pub returns : goal.returns
returns g c = let s = g.S.CellState in one_history_is_shown s.after s.reply s.kind s.allows
