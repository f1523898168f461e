use Rattle.std.proofs.Common.{◌∙◌, length, ap}
use Rattle.turn_cell.proofs.Seats.{enters, joins}
use Rattle.turn_cell.proofs.Gathering.{at_middle, whole_more, gathered_more}
use Rattle.turn_cell.proofs.closing.gather.Goals as goal

pub load_new_seat-seat-requires : goal.load_new_seat-seat-requires
load_new_seat-seat-requires g c = let s = g.S.CellState in let t = c.args.cells.now in (c.requires.sized, enters s.after s.reply s.kind s.allows t.key.cells.value.items t.key.passes t.table_id.slots)

pub join_seat-requires : goal.join_seat-requires
join_seat-requires g c = let s = g.S.CellState in let t = c.args.cells.now in let i = c.loop-pass.invariant in let p = c.in-Some.pass in
    let fits = c.requires.passes (length c.loop-pass.yielded) p (at_middle c.loop-pass.yielded c.loop-pass.pass-iterator.rest.items c.next.new.self.rest.items c.args.passes.items p i.whole c.in-Some.ensures.steps.0) in (
      i.table,
      fits.table,
      p.ready.none_held,
      c.requires.sized,
      joins s.after s.reply s.kind s.allows t.key.cells.value.items t.key.passes c.loop-pass.seat.id c.loop-pass.seat.me.0 p.seat.id p.seat.me.0 i.all.live p.ready.idle,
    )

pub loop-pass-preserved : goal.loop-pass-preserved
loop-pass-preserved g c = let i = c.loop-pass.invariant in let p = c.in-Some.pass in record {
  table = c.join_seat.ensures.0 ∙ i.table;
  all = gathered_more c.loop-pass.yielded p c.loop-pass.seat.me.0 c.join_seat.new.seat.me.0 i.all (ap (λ z. z.0) c.join_seat.ensures.2);
  whole = whole_more c.loop-pass.yielded c.loop-pass.pass-iterator.rest.items c.next.new.self.rest.items c.args.passes.items p i.whole c.in-Some.ensures.steps.0;
}
