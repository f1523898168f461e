use Rattle.std.proofs.Common.{◌≡◌, ◌+◌, ◌≤◌, length}
use Rattle.trace_text.specs.Fields.{pieces_of}
use Rattle.chunk_backend.specs.Inputs.{input_on}
use Rattle.chunk_backend.proofs.input.Input.read_lines.Given as goal

-- the input so far, and what is left, are the whole input
abbrev pub invariant-loop-line : goal.invariant-loop-line
invariant-loop-line l = record {
  read : input_on l.number l.self (pieces_of l.rest) ≡ input_on 2 l.fn.self (pieces_of l.fn.bytes);
  count : l.number + length l.rest ≤ 2 + length l.fn.bytes;
}

abbrev pub decreases-loop-line : goal.decreases-loop-line
decreases-loop-line l = length l.rest
