use Rattle.std.proofs.Common.{◌≡◌, ◌*◌, ◌^◌, ◌≤◌, take, sum_by}
use Rattle.run_engine.specs.Summary.{size_of_line}
use Rattle.run_engine.proofs.summary.sum_sizes.Given as goal

-- the sum of the lines so far, which is less than it may be
abbrev pub invariant-loop-line : goal.invariant-loop-line
invariant-loop-line l = record {
  sum : l.sum ≡ sum_by (size_of_line l.store) (take l.line-index l.lines);
  bound : l.sum ≤ l.line-index * 2 ^ 64;
}
