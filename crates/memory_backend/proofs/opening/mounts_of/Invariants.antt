use Rattle.std.proofs.Common.{◌≡◌, ◌+◌, take}
use Rattle.memory_backend.specs.Openings.{mounts_from}
use Rattle.memory_backend.proofs.opening.mounts_of.Given as goal

-- the mounts so far are of the backends so far
abbrev pub invariant-loop-name : goal.invariant-loop-name
invariant-loop-name l = record {
  mounts : l.mounts.items ≡ mounts_from 1 (take l.name-index l.backends);
  number : l.number ≡ l.name-index + 1;
}
