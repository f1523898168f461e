use Rattle.std.proofs.Common.{◌<◌, List, ℕ, Bor, Option, length, sym, subst}
use Rattle.std.specs.Option.{option_copied}
use Rattle.trace_text.proofs.open_flags.flags_in.Invariants.{size_less, size_of}
use Rattle.trace_text.proofs.open_flags.flags_in.Goals as goal

pub loop-rest-smaller : goal.loop-rest-smaller
loop-rest-smaller c =
    subst (λ (rest : Option (Bor (List ℕ))). size_of (option_copied c.cut-in-Some.result.1) < size_of (option_copied rest)) (sym c.in-Some.is)
    (size_less c.cut-in-Some.result.1 (length c.in-Some.words.now) c.cut-in-Some.ensures.shorter)
