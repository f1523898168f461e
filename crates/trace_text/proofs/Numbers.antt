-- Digits behind a number make it no smaller.
use Rattle.std.proofs.Common.{◌≡◌, ℕ, ◌+◌, ◌-◌, ◌*◌, ◌<◌, ◌==◌, ◌||◌, Bool, true, false, if◌then◌else◌, nat_le, List, [], ◌∷◌, length, Option, None, Some, refl, sym, ◌∙◌, ap, arith}
use Rattle.std.proofs.lemmas.Bool.Decides.{nat_tests}
use Rattle.trace_text.specs.Fields.{at_most, has_leading_zero, is_digit, number_in, value_on}

above : (most value : ℕ) → most < value → nat_le value most ≡ false
above most value h = grind (arith, nat_tests)

-- a number that is too large stays so
pub too_large : (most value : ℕ) (field : List ℕ) → most < value → at_most most (value_on value field) ≡ None
too_large most value [] h = ap (λ (b : Bool). if b then Some value else None) (above most value h)
too_large most value (byte ∷ field) h =
    elim (is_digit byte) as (λ b. at_most most (if b then value_on (10 * value + (byte - 48)) field else None) ≡ None) [
      | true ↦ too_large most (10 * value + (byte - 48)) field (omega arith)
      | false ↦ refl
    ]

over : (most value : ℕ) → at_most most (Some value) ≡ None → most < value
over most value e = grind (arith, nat_tests)

no_number : (test : Bool) (value : Option ℕ) → value ≡ None → None ≡ (if test then None else value)
no_number true value e = refl
no_number false value e = sym e

-- the digits up to one with which the number is too large
pub stops : (most value byte : ℕ) (rest left field : List ℕ) → left ≡ byte ∷ rest → is_digit byte ≡ true → at_most most (Some (10 * value + (byte - 48))) ≡ None
    → at_most most (value_on value left) ≡ at_most most (value_on 0 field) → None ≡ number_in most field
stops most value byte rest left field cut digit large h =
    no_number (length field == 0 || has_leading_zero field) (at_most most (value_on 0 field))
    (sym h ∙ ap (λ (digits : List ℕ). at_most most (value_on value digits)) cut
    ∙ ap (λ (b : Bool). at_most most (if b then value_on (10 * value + (byte - 48)) rest else None)) digit
    ∙ too_large most (10 * value + (byte - 48)) rest (over most (10 * value + (byte - 48)) large))
