use Rattle.std.proofs.Common.{◌≡◌, ◌+◌, ◌-◌, suc, length, ◌∷◌, [], length-append, ◌∙◌, sym, ap, arith}
use Rattle.turn_cell.specs.Views.{own_in, parts_from}
use Rattle.turn_cell.proofs.Seats.{splits_deal}
use Rattle.turn_cell.proofs.Dealing.{dealt_runs, dealt_none, deals_next, dealt_longer}
use Rattle.turn_cell.proofs.making.deal.Goals as goal

pub split_seat-seat-requires : goal.split_seat-seat-requires
split_seat-seat-requires g c = let s = g.S.CellState in let i = c.loop-number.invariant in let t = c.args.cells.now in let d = i.deals in let n = c.loop-number.number in let v = c.loop-number.dealer.me.0 in
    let less : c.args.passes - n ≡ suc (c.args.passes - n - 1) = omega arith in
    (i.table, c.requires.sized, splits_deal s.after s.reply s.kind s.allows t.key.cells.value.items t.key.passes c.loop-number.dealer.id v n (c.args.passes - n - 1) d.live d.idle (d.parts ∙ ap (parts_from n) less))

pub pass_of-requires-clause-runs : goal.pass_of-requires-clause-runs
pass_of-requires-clause-runs g c = let d = c.loop-number.invariant.deals in let n = c.loop-number.number in
    let less : c.args.passes - n ≡ suc (c.args.passes - n - 1) = omega arith in
    dealt_runs c.loop-number.dealer.me.0 c.split_seat-seat.result.me.0 n (c.args.passes - n - 1) (d.parts ∙ ap (parts_from n) less) (ap (λ z. z.0) c.split_seat-seat.ensures.4)

pub loop-number-preserved : goal.loop-number-preserved
loop-number-preserved g c = let i = c.loop-number.invariant in let e = c.split_seat-seat.ensures in let d = i.deals in let n = c.loop-number.number in let t = c.args.cells.now in let v = c.loop-number.dealer.me.0 in
    let openings = t.key.cells.value.items in let p = c.pass_of.result in let ps = c.loop-number.dealt.items in let ps' = c.push_reserved.new.self.items in
    let less : c.args.passes - n ≡ suc (c.args.passes - (n + 1)) = omega arith in let count = i.count in let l = length-append ps (p ∷ []) in let m = ap length c.push_reserved.ensures.items in record {
      table = e.0 ∙ i.table;
      deals = deals_next n (c.args.passes - n) (c.args.passes - (n + 1)) openings c.loop-number.dealer.me c.split_seat-seat.new.seat.me less d e.2;
      count = omega arith;
      room = c.push_reserved.ensures.capacity ∙ i.room;
      dealt = dealt_longer t.table_id openings ps ps' p c.push_reserved.ensures.items
          (record { table = ap (λ z. z.table_id) c.pass_of.ensures.0 ∙ (e.3 ∙ i.table); openings_are = ap (λ z. z.me.0.openings) c.pass_of.ensures.0 ∙ (ap (λ z. z.0.openings) e.4 ∙ d.openings_are) })
          (c.pass_of.ensures.1 ∙ sym i.count)
          (ap (λ z. own_in z.me.0) c.pass_of.ensures.0 ∙ dealt_none v c.split_seat-seat.result.me.0 n (c.args.passes - (n + 1)) (d.parts ∙ ap (parts_from n) less) (ap (λ z. z.0) e.4))
          (ap (λ z. z.me.0.seen) c.pass_of.ensures.0 ∙ ap (λ z. z.0.seen) e.4) i.dealt;
    }
