use Rattle.turn_cell.proofs.Seats.{joins}
use Rattle.turn_cell.proofs.passes.take_in.Goals as goal

pub join_seat-requires : goal.join_seat-requires
join_seat-requires g c = let s = g.S.CellState in let t = c.args.cells.now in let seat = c.args.seat.now in let note = c.args.note in (
  c.requires.table,
  c.requires.note,
  note.no_slot,
  c.requires.sized,
  joins s.after s.reply s.kind s.allows t.key.cells.value.items t.key.passes seat.id seat.me.0 note.seat.id note.seat.me.0 c.requires.live note.no_turn,
)
