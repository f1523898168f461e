use Rattle.std.proofs.Common.{◌≡◌, ◌++◌, length}
use Rattle.std.specs.List.{flat_map}
use Rattle.trace_text.specs.Fields.{byte_field}
use Rattle.trace_text.proofs.print.append_bytes.Given as goal

-- what is written, and what is left, are the whole text
abbrev pub invariant-loop-rest : goal.invariant-loop-rest
invariant-loop-rest l = l.text.items ++ flat_map byte_field l.rest ≡ l.fn.text.items ++ flat_map byte_field l.bytes

abbrev pub decreases-loop-rest : goal.decreases-loop-rest
decreases-loop-rest l = length l.rest
