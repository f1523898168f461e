use Rattle.turn_cell.proofs.Lawful.{own_turn_is_given}
use Rattle.turn_cell.proofs.laws.give_frees_turn.Goals as goal

pub returns : goal.returns
returns g c = let s = g.S.CellState in own_turn_is_given s.after s.reply s.kind s.allows
