use Rattle.std.proofs.Common.{◌≡◌, ◌++◌, map, Some}
use Rattle.std.specs.Vec.Iter.{into_iter_items}
use Rattle.run_engine.specs.WholeTree.{mounted_lines, placed}
use Rattle.run_engine.proofs.whole_tree.push_mounted.Given as goal

-- the lines so far and those that are left are all that are added
abbrev pub invariant-loop-line : goal.invariant-loop-line
invariant-loop-line l = l.lines.items ++ map (placed l.backend l.deeper) (into_iter_items l.line-iterator) ≡ l.fn.lines.items ++ mounted_lines l.store (Some (l.deeper, l.backend))
