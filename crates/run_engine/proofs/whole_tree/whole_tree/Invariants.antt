use Rattle.std.proofs.Common.{◌≡◌, ◌++◌}
use Rattle.std.specs.List.{flat_map}
use Rattle.std.specs.Vec.Iter.{into_iter_items}
use Rattle.run_engine.specs.WholeTree.{lines_from, whole_tree}
use Rattle.run_engine.proofs.whole_tree.whole_tree.Given as goal

-- the lines so far and those from the lines that are left are all lines
abbrev pub invariant-loop-line : goal.invariant-loop-line
invariant-loop-line l = l.lines.items ++ flat_map (lines_from l.store) (into_iter_items l.line-iterator) ≡ whole_tree l.store
