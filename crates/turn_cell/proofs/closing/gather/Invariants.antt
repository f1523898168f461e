use Rattle.std.proofs.Common.{◌≡◌, ◌++◌}
use Rattle.turn_cell.specs.Closing.{HasGathered}
use Rattle.turn_cell.proofs.closing.gather.Given as goal

abbrev pub invariant-loop-pass : goal.invariant-loop-pass
invariant-loop-pass g l = record {
  table : l.seat.table_id ≡ l.cells.table_id;
  all : HasGathered l.yielded l.seat.me.0;
  whole : l.yielded ++ l.pass-iterator.rest.items ≡ l.fn.passes.items;
}
