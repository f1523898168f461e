use Rattle.turn_cell.proofs.Moves.{learns_allows}
use Rattle.turn_cell.proofs.passes.learn.Goals as goal

pub load-requires : goal.load-requires
load-requires g c = let s = g.S.CellState in let t = c.args.cells.now in let seat = c.args.seat.now in
    (c.requires.table, c.requires.sized, learns_allows s.after s.reply s.kind s.allows t.key.cells.value.items t.key.passes t.table_id.slots seat.id seat.me c.requires.live)
