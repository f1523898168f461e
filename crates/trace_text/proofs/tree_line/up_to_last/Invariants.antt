use Rattle.std.proofs.Common.{◌≡◌, length}
use Rattle.trace_text.specs.Texts.{up_to_last}
use Rattle.trace_text.proofs.tree_line.up_to_last.Given as goal

abbrev pub invariant-loop-byte : goal.invariant-loop-byte
invariant-loop-byte l = up_to_last l.front ≡ up_to_last l.bytes

abbrev pub decreases-loop-byte : goal.decreases-loop-byte
decreases-loop-byte l = length l.front
