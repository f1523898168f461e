use Rattle.std.proofs.Common.{◌≡◌, ◌++◌, map}
use Rattle.cell_runs.specs.Runs.{known_at}
use Rattle.cell_runs.proofs.history.add.Given as goal

abbrev pub invariant-loop-entry : goal.invariant-loop-entry
invariant-loop-entry g l = (l.steps.items ≡ l.initial.steps.items ++ map (known_at l.cell) l.yielded) × (l.yielded ++ l.entry-iterator.rest.items ≡ l.fn.entries.items)
