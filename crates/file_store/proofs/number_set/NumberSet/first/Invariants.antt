use Rattle.std.proofs.Common.{◌≡◌, ℕ, ◌<◌, get_or}
use Rattle.file_store.proofs.number_set.NumberSet.first.Given as goal

-- the words so far are empty
abbrev pub invariant-loop-i : goal.invariant-loop-i
invariant-loop-i l = (k : ℕ) → k < l.i → get_or l.word-items k 0 ≡ 0
