use Rattle.std.proofs.Common.{◌<◌, ◌∙◌, length, arith}
use Rattle.std.specs.Mem.Slots.{slots_items, slots_filled, slots_len}
use Rattle.turn_cell.proofs.Gathering.{taken_longer, one_more_is_empty}
use Rattle.turn_cell.proofs.closing.empty.Goals as goal

pub loop-i-preserved : goal.loop-i-preserved
loop-i-preserved g c = let l = c.loop-i in let i = l.invariant in let o = c.take.ensures.others in let ok = l.closed.slots.ok in let before = c.args.closed.now.slots.ok in let count = i.count in let test = c.loop-i-test.true in let end = c.slot_count-i-end.ensures in
    let near : l.i < length (slots_filled l.closed.slots) = omega arith in
    let e = one_more_is_empty (slots_filled l.closed.slots) (slots_filled c.take.new.self.slots) (slots_len l.closed.slots) l.i o.1 near i.full i.gone in record {
      taken = taken_longer (slots_items l.closed.slots) (slots_items c.take.new.self.slots) l.records.items c.push_reserved.new.self.items l.i c.take.result i.taken c.push_reserved.ensures.items c.take.ensures.value o.0;
      same = o.0 ∙ i.same;
      count = o.2 ∙ i.count;
      full = λ k a b. e.0 k a (omega arith);
      gone = e.1;
      room = c.push_reserved.ensures.capacity ∙ i.room;
    }
