use Rattle.std.proofs.Common.{◌≡◌, length}
use Rattle.cell_tests.proofs.scenes.counters.Given as goal

abbrev pub invariant-loop : goal.invariant-loop
invariant-loop g l = length l.counters.items ≡ l.counter
