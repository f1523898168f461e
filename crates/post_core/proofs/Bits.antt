-- The mailbox as words of bits: setting and clearing the bit of one place.
use Rattle.std.proofs.Common.{◌≡◌, ℕ, ◌*◌, ◌^◌, ◌%◌, Bool, true, false, refl, arith, ap, ◌∙◌}
use Rattle.std.specs.Prelude.{◌/◌}
use Rattle.std.specs.Int.{bit_at, bit_not, trailing_zeros, w64}
use Rattle.std.proofs.lemmas.Nat.Bits.{bit_at_clear_other, bit_at_clear_same, bit_at_set_other, bit_at_set_same}
use Rattle.proxy_laws.specs.Maps.{bit, upd}
use Rattle.proxy_laws.proofs.Maps.{upd_case}

-- the bits of a word after an `or` with that of p
pub set_bits : (mail : ℕ → Bool) (p n q : ℕ) → bit_at n (q % 64) ≡ bit (mail q) → q / 64 ≡ p / 64 → bit_at (Rattle.std.specs.Prelude.bit_or n (1 * 2 ^ (p % 64) % 2 ^ 64)) (q % 64) ≡ bit (upd mail p true q)
set_bits mail p n q was word = upd_case mail p true (λ k b. k ≡ q → bit_at (Rattle.std.specs.Prelude.bit_or n (1 * 2 ^ (p % 64) % 2 ^ 64)) (q % 64) ≡ bit b) q
    (λ same e. ap (λ k. bit_at (Rattle.std.specs.Prelude.bit_or n (1 * 2 ^ (p % 64) % 2 ^ 64)) (k % 64)) same ∙ bit_at_set_same w64 n (p % 64) (omega arith))
    (λ ne e. bit_at_set_other w64 n (p % 64) (omega arith) (q % 64) (λ same. ne (omega arith)) ∙ was)
    refl

-- and after an `and` with all others
pub cleared_bits : (mail : ℕ → Bool) (p n q : ℕ) → bit_at n (q % 64) ≡ bit (mail q) → q / 64 ≡ p / 64 → bit_at (Rattle.std.specs.Prelude.bit_and n (bit_not w64 (1 * 2 ^ (p % 64) % 2 ^ 64))) (q % 64) ≡ bit (upd mail p false q)
cleared_bits mail p n q was word = upd_case mail p false (λ k b. k ≡ q → bit_at (Rattle.std.specs.Prelude.bit_and n (bit_not w64 (1 * 2 ^ (p % 64) % 2 ^ 64))) (q % 64) ≡ bit b) q
    (λ same e. ap (λ k. bit_at (Rattle.std.specs.Prelude.bit_and n (bit_not w64 (1 * 2 ^ (p % 64) % 2 ^ 64))) (k % 64)) same ∙ bit_at_clear_same w64 n (p % 64) (omega arith))
    (λ ne e. bit_at_clear_other w64 n (p % 64) (omega arith) (q % 64) (omega arith) (λ same. ne (omega arith)) ∙ was)
    refl
