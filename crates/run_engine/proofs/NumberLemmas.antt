-- The numbers in the replies of one thread, with one number more.
use Rattle.std.proofs.Common.{◌≡◌, ℕ, zero, suc, List, [], ◌∷◌, ◌++◌, map, Some, slice_get, slice_set, sym, ap, ◌∙◌}
use Rattle.trace_text.specs.SoloText.{with_number}

pub number_more : {V : Type 0} (numbers_in : V → List ℕ) (threads : List V) (thread number : ℕ) (old new : V) → slice_get threads thread ≡ Some old → numbers_in new ≡ numbers_in old ++ number ∷ [] → map numbers_in (slice_set threads thread new) ≡ with_number (map numbers_in threads) thread number
number_more numbers_in [] thread number old new here is = cc
number_more numbers_in (first ∷ threads) zero number old new here is =
    let same : first ≡ old = cc in
    ap (λ (ns : List ℕ). ns ∷ map numbers_in threads) (is ∙ ap (λ v. numbers_in v ++ number ∷ []) (sym same))
number_more numbers_in (first ∷ threads) (suc thread) number old new here is =
    ap (λ (rest : List (List ℕ)). numbers_in first ∷ rest) (number_more numbers_in threads thread number old new here is)
