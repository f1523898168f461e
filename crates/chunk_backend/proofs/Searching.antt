-- A binary search of the numbers in order finds what is among the numbers as given.
use Rattle.std.proofs.Common.{◌≡◌, ℕ, ◌<◌, ◌≤◌, ◌==◌, true, false, List, length, get_or, Option, Some, Result, Ok, Err, MatchResult, refl, sym, ap, ◌∙◌, arith}
use Rattle.std.specs.List.{list_any}
use Rattle.std.specs.List.Sorted.{IsBinarySearchResult, IsPermutation, IsSorted}
use Rattle.std.specs.Ordering.{nat_cmp}
use Rattle.std.specs.Result.{is_ok}
use Rattle.std.proofs.lemmas.Bool.Decides.{nat_tests}
use Rattle.std.proofs.lemmas.List.Folds.{list_any-from_Any, list_any_none}
use Rattle.std.proofs.lemmas.List.Sorted.{IsNonDecreasingBy-from_sort, list_any-IsPermutation, searched}
use Rattle.std.proofs.lemmas.Option.{slice_get-get_or}
use native.Mathlib.Decide.{dec_le}

any_default : (ys : List ℕ) (k d e : ℕ) → k < length ys → get_or ys k d ≡ get_or ys k e
any_default ys k d e low =
    let same : ◌≡◌ {A = Option ℕ} (Some (get_or ys k d)) (Some (get_or ys k e)) = sym (slice_get-get_or ys k d low) ∙ slice_get-get_or ys k e low in
    cc

equal : (m n : ℕ) → m ≡ n → (m == n) ≡ true
equal m n e = grind (arith, nat_tests, e)

below : (m n : ℕ) → m < n → (m == n) ≡ false
below m n low = grind (arith, nat_tests, low)

above : (m n : ℕ) → n < m → (m == n) ≡ false
above m n high = grind (arith, nat_tests, high)

in_sorted : (ys : List ℕ) (n : ℕ) (r : Result ℕ ℕ)
    → MatchResult r (λ i. (i < length ys) × (get_or ys i 0 ≡ n)) (λ i. (i ≤ length ys) × ((k : ℕ) → k < i → get_or ys k 0 < n) × ((k : ℕ) → i ≤ k → k < length ys → n < get_or ys k 0))
    → is_ok r ≡ list_any (λ m. m == n) ys
in_sorted ys n (Ok i) (low, at) = sym (list_any-from_Any (λ m. m == n) ys (i, n, low, any_default ys i n 0 low ∙ at, equal n n refl))
in_sorted ys n (Err i) (within, less, more) = sym (list_any_none (λ m. m == n) ys (λ k d low. ap (λ (m : ℕ). m == n) (any_default ys k d 0 low) ∙ (elim (dec_le i k) as (λ _. (get_or ys k 0 == n) ≡ false) [
  | yes behind ↦ above (get_or ys k 0) n (more k behind low)
  | no before ↦ below (get_or ys k 0) n (less k (omega (arith, before)))
])))

pub found : (xs ys : List ℕ) (n : ℕ) (r : Result ℕ ℕ) → IsPermutation xs ys → IsSorted nat_cmp ys → IsBinarySearchResult (λ y. nat_cmp y n) ys r → is_ok r ≡ list_any (λ m. m == n) xs
found xs ys n r reordered up told =
    in_sorted ys n r (searched ys n r told (λ i j le low. IsNonDecreasingBy-from_sort (λ k. k) ys up i j 0 le low))
    ∙ sym (list_any-IsPermutation (λ m. m == n) xs ys reordered)
