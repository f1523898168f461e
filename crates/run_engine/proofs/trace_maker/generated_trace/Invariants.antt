use Rattle.std.proofs.Common.{◌≡◌, ◌*◌}
use Rattle.run_engine.specs.Generated.{generated_lines, state_after}
use Rattle.run_engine.proofs.trace_maker.generated_trace.Given as goal

-- so many calls were made, of three draws each
abbrev pub invariant-loop : goal.invariant-loop
invariant-loop l = record {
  state : l.generator.state ≡ state_after l.seed (3 * l.counter);
  lines : l.lines ≡ generated_lines l.seed l.counter;
}
