use Rattle.std.proofs.Common.{◌≡◌, ◌+◌, ◌≤◌, length}
use Rattle.trace_text.specs.Fields.{pieces_of}
use Rattle.trace_text.specs.Reading.{trace_on}
use Rattle.trace_text.specs.Traces.{nothing}
use Rattle.trace_text.proofs.read.read_lines.Given as goal

-- the trace so far, and what is left, are the whole trace
abbrev pub invariant-loop-line : goal.invariant-loop-line
invariant-loop-line l = record {
  read : trace_on l.mode l.number l.reader (pieces_of l.rest) ≡ trace_on l.mode 2 (nothing l.fn.version) (pieces_of l.fn.bytes);
  count : l.number + length l.rest ≤ 2 + length l.fn.bytes;
}

abbrev pub decreases-loop-line : goal.decreases-loop-line
decreases-loop-line l = length l.rest
