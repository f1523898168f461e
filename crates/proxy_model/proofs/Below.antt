-- What `all` over the numbers below a bound tells.
use Rattle.std.proofs.Common.{ℕ, ◌<◌, ◌↔◌, Bool, true, false, length, refl, sym, subst, zero-add, arith, ◌∙◌}
use Rattle.std.specs.Bool.{IsTrue, MatchBool}
use Rattle.std.specs.List.{range_with_len, AllWithin, HoldsAt}
use Rattle.std.proofs.lemmas.List.FromFn.{get_or-range_with_len, length-range_with_len}

-- it answers true exactly where each number has P
pub all_below : (r : Bool) (n : ℕ) (P : ℕ → Type 0) → MatchBool r (AllWithin P (range_with_len 0 n) 0 (length (range_with_len 0 n))) ((k : ℕ) × (k < length (range_with_len 0 n)) × HoldsAt (λ x. P x → ⊥) (range_with_len 0 n) k) → IsTrue r ↔ ((k : ℕ) → k < n → P k)
all_below true n P all = (λ t k near. subst P (get_or-range_with_len 0 n k 0 near ∙ zero-add k) (all k 0 (omega arith) (omega (arith, length-range_with_len 0 n))), λ each. refl)
all_below false n P some = (λ t. absurd (cc), λ each. let near : some.0 < n = omega (arith, some.1, length-range_with_len 0 n) in absurd (some.2 0 (subst P (sym (get_or-range_with_len 0 n some.0 0 near ∙ zero-add some.0)) (each some.0 near))))
