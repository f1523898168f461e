use Rattle.std.proofs.Common.{◌≡◌, ◌-◌, List, ◌++◌, length, map, replicate, vec_capacity, Some, None}
use Rattle.task_ring.proofs.Ring.grow.Given as goal

-- the items that were moved stand at the start of the new row, and the ring still has the others
abbrev pub invariant-loop-item : goal.invariant-loop-item
invariant-loop-item g l = record {
  moved : List g.row.T.Denot;
  row : l.cells.items ≡ map Some moved;
  all : moved ++ l.self.items ≡ l.fn.self.items;
  first : l.self.first ≡ l.fn.self.first;
  room : vec_capacity l.cells ≡ l.count;
}

abbrev pub decreases-loop-item : goal.decreases-loop-item
decreases-loop-item g l = length l.self.items

-- empty cells stand behind the items
abbrev pub invariant-loop : goal.invariant-loop
invariant-loop g l = record {
  row : l.cells.items ≡ map Some l.fn.self.items ++ replicate (l.counter - l.tail) None;
  end : l.tail ≡ length l.fn.self.items;
  room : vec_capacity l.cells ≡ l.count;
}
