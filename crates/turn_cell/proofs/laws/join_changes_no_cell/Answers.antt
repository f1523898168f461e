use Rattle.turn_cell.proofs.Lawful.{other_is_joined}
use Rattle.turn_cell.proofs.laws.join_changes_no_cell.Goals as goal

pub returns : goal.returns
returns g c = let s = g.S.CellState in other_is_joined s.after s.reply s.kind s.allows
