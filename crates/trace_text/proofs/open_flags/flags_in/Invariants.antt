use Rattle.std.proofs.Common.{◌≡◌, ◌+◌, ◌<◌, Bor, List, ℕ, Option, None, Some, IfSome, length, arith}
use Rattle.std.specs.Option.{option_copied}
use Rattle.trace_text.specs.Fields.{pieces_behind}
use Rattle.trace_text.specs.Words.{flags_in, with_flags}
use Rattle.trace_text.proofs.open_flags.flags_in.Given as goal

-- the flags so far, and the words that are left, are those of the whole field
abbrev pub invariant-loop-rest : goal.invariant-loop-rest
invariant-loop-rest l = with_flags (Some l.flags) (pieces_behind 44 (option_copied l.rest)) ≡ flags_in l.field

abbrev pub size_of : Option (List ℕ) → ℕ
size_of None = 0
size_of (Some rest) = length rest + 1

pub size_less : (rest : Option (Bor (List ℕ))) (size : ℕ) → IfSome rest (λ left. length left.now < size) → size_of (option_copied rest) < size + 1
size_less None size h = omega arith
size_less (Some left) size h = omega (arith, h)

abbrev pub decreases-loop-rest : goal.decreases-loop-rest
decreases-loop-rest l = size_of (option_copied l.rest)
