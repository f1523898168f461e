use Rattle.std.proofs.Common.{◌≡◌, ◌+◌, take}
use Rattle.trace_text.specs.SoloText.{mounts_from}
use Rattle.run_engine.proofs.run_store.mounts_of.Given as goal

-- the mounts so far are of the backends so far
abbrev pub invariant-loop-line : goal.invariant-loop-line
invariant-loop-line l = record {
  mounts : l.mounts.items ≡ mounts_from 1 (take l.line-index l.lines);
  number : l.number ≡ l.line-index + 1;
}
