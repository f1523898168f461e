use Rattle.turn_cell.proofs.Lawful.{pass_is_split_off}
use Rattle.turn_cell.proofs.laws.split_of_pass_changes_no_cell.Goals as goal

pub returns : goal.returns
returns g c = let s = g.S.CellState in pass_is_split_off s.after s.reply s.kind s.allows
