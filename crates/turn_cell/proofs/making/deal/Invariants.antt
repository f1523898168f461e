use Rattle.std.proofs.Common.{◌≡◌, ◌-◌, length, vec_capacity}
use Rattle.turn_cell.specs.Closing.{AreDealt, IsDealer}
use Rattle.turn_cell.proofs.making.deal.Given as goal

abbrev pub invariant-loop-number : goal.invariant-loop-number
invariant-loop-number g l = record {
  table : l.dealer.table_id ≡ l.cells.table_id;
  deals : IsDealer l.number (l.passes - l.number) l.cells.key.cells.value.items l.dealer.me;
  count : length l.dealt.items ≡ l.number;
  room : vec_capacity l.dealt ≡ vec_capacity l.initial.dealt;
  dealt : AreDealt l.cells.table_id l.cells.key.cells.value.items l.dealt.items;
}
