use Rattle.turn_cell.proofs.Lawful.{free_turn_is_taken}
use Rattle.turn_cell.proofs.laws.take_gets_free_turn.Goals as goal

pub returns : goal.returns
returns g c = let s = g.S.CellState in free_turn_is_taken s.after s.reply s.kind s.allows
