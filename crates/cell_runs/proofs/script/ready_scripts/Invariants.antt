use Rattle.std.proofs.Common.{◌≡◌, ◌++◌}
use Rattle.std.specs.Vec.Iter.{into_iter_items}
use Rattle.cell_runs.specs.Scripts.{ready_with}
use Rattle.cell_runs.proofs.script.ready_scripts.Given as goal

-- the scripts that are ready, and those that are to become so, are all
abbrev pub invariant-loop-pass : goal.invariant-loop-pass
invariant-loop-pass g l = l.ready.items ++ ready_with (into_iter_items l.scripts) l.pass-iterator.rest.items ≡ ready_with l.fn.scripts.items l.fn.passes.items
