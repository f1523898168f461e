use Rattle.std.proofs.Common.{◌≡◌, ◌++◌, map, length}
use Rattle.cell_runs.specs.Runs.{flattened}
use Rattle.cell_runs.proofs.history.history_of.Given as goal

abbrev pub invariant-loop-record : goal.invariant-loop-record
invariant-loop-record g l = record {
  number : l.cell ≡ length l.yielded;
  steps : l.steps.items ++ flattened l.cell l.record-iterator.rest.items ≡ flattened 0 l.fn.records.items;
  states : l.states.items ≡ map (λ z. z.state) l.yielded;
  whole : l.yielded ++ l.record-iterator.rest.items ≡ l.fn.records.items;
}
