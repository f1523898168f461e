use Rattle.std.proofs.Common.{◌≡◌, ◌++◌, length, option_map}
use Rattle.trace_text.specs.Fields.{bytes_in}
use Rattle.trace_text.proofs.text_field.bytes_in.Given as goal

-- the bytes so far, and what is left of the field, are what the whole field stands for
abbrev pub invariant-loop-rest : goal.invariant-loop-rest
invariant-loop-rest l = option_map (λ bytes. l.bytes.items ++ bytes) (bytes_in l.rest) ≡ bytes_in l.field

abbrev pub decreases-loop-rest : goal.decreases-loop-rest
decreases-loop-rest l = length l.rest
