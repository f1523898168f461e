use Rattle.std.proofs.Common.{◌∙◌, ap, arith}
use Rattle.turn_cell.proofs.Seats.{splits_note}
use Rattle.turn_cell.proofs.passes.TurnPass+S+S+Op+S+Answer.note.Goals as goal

pub split_seat-seat-requires : goal.split_seat-seat-requires
split_seat-seat-requires g c = let s = g.S.CellState in let t = c.args.table.now in let p = c.args.self.now in let sized = t.sized in let l = c.learn.ensures in (
  l.table.0 ∙ c.requires.table,
  omega arith,
  splits_note s.after s.reply s.kind s.allows t.table.shared.key.cells.value.items t.table.shared.key.passes c.learn.new.seat.id c.learn.new.seat.me.0 (ap (λ m. m.0.live) l.same ∙ p.ready.live),
)
