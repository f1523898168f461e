use Rattle.turn_cell.proofs.Lawful.{note_is_split_off}
use Rattle.turn_cell.proofs.laws.split_of_note_changes_no_cell.Goals as goal

pub returns : goal.returns
returns g c = let s = g.S.CellState in note_is_split_off s.after s.reply s.kind s.allows
