use Rattle.turn_cell.proofs.Lawful.{entry_is_drawn}
use Rattle.turn_cell.proofs.laws.draw_puts_entry_last.Goals as goal

pub returns : goal.returns
returns g c = let s = g.S.CellState in entry_is_drawn s.after s.reply s.kind s.allows
