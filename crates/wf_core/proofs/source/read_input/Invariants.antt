use Rattle.std.proofs.Common.{◌≡◌, ◌+◌, ◌-◌, ◌≤◌, vec_len}
use Rattle.std.specs.Io.KnownBytes.{Consumes}
use Rattle.wf_core.proofs.source.read_input.Given as goal

abbrev pub invariant-loop-count : goal.invariant-loop-count
invariant-loop-count g l = record {
  later : g.S.Source.faults l.fn.src ≤ g.S.Source.faults l.src;
  taken : Consumes (g.S.Source.left l.fn.src) (g.S.Source.left l.src) l.input.items;
  given : g.S.Source.given l.src ≡ g.S.Source.given l.fn.src + vec_len l.input;
  short : vec_len l.input ≤ l.limit;
}

abbrev pub decreases-loop-count : goal.decreases-loop-count
decreases-loop-count g l = l.limit - vec_len l.input
