-- The first place of a byte, as `memchr` tells it.
use Rattle.std.proofs.Common.{◌≡◌, ℕ, ◌<◌, Bool, true, false, cond, ltb, List, length, get_or, position, Option, None, Some, refl, sym, ap₂, ◌∙◌, arith}
use Rattle.std.specs.List.{position_or_len}
use Rattle.std.proofs.lemmas.List.Sums.{fails_before_first, passes_at_first}
use borrow.Author.Tests.{ltb-true, ltb-false}
use Rattle.memchr.specs.Find.{IsFirstByte}

module _ (test : ℕ → Bool) (bytes : List ℕ) where
  abbrev first : ℕ
  first = position_or_len test bytes

  nowhere : ((k : ℕ) → k < length bytes → ¬ (test (get_or bytes k 0) ≡ true)) → (within : Bool) → ltb first (length bytes) ≡ within → None ≡ cond within (Some first) None
  nowhere fails true is =
      let low : first < length bytes = ltb-true first (length bytes) is in
      absurd (fails first low (passes_at_first test bytes 0 low))
  nowhere fails false is = refl

  not_before : (k : ℕ) → test (get_or bytes k 0) ≡ true → (b : Bool) → ltb k first ≡ b → b ≡ false
  not_before k passes true is =
      let fails = fails_before_first test bytes k 0 (ltb-true k first is) in
      absurd (let e : true ≡ false = sym passes ∙ fails in cc)
  not_before k passes false is = refl

  not_after : (k : ℕ) → k < length bytes → ((j : ℕ) → j < k → ¬ (test (get_or bytes j 0) ≡ true)) → (b : Bool) → ltb first k ≡ b → b ≡ false
  not_after k low fails true is =
      let before : first < k = ltb-true first k is in
      absurd (fails first before (passes_at_first test bytes 0 (omega (arith, before, low))))
  not_after k low fails false is = refl

  within_is : (k : ℕ) → first ≡ k → k < length bytes → (b : Bool) → ltb first (length bytes) ≡ b → b ≡ true
  within_is k at low true is = refl
  within_is k at low false is = absurd (let high = ltb-false first (length bytes) is in omega (arith, at, low, high))

  pub place_is : (r : Option ℕ) → IsFirstByte test bytes r → r ≡ position test bytes
  place_is None none = nowhere (λ k low. none k (omega arith) low) (ltb first (length bytes)) refl
  place_is (Some k) (before, passes) =
      let up = ltb-false k first (not_before k passes (ltb k first) refl) in
      let down = ltb-false first k (not_after k before.high (λ j low. before.before j (omega arith) low) (ltb first k) refl) in
      let at : first ≡ k = omega (arith, up, down) in
      let within = within_is k at before.high (ltb first (length bytes)) refl in
      ap₂ (λ (b : Bool) (m : ℕ). cond b (Some m) None) (sym within) (sym at)
