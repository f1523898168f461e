-- Lemmas on the flat bytes of a file.
use Rattle.std.proofs.Common.{◌≡◌, ℕ, suc, ◌+◌, ◌-◌, ◌<◌, max, min, Bool, true, ◌&&◌, List, [], ◌∷◌, ◌++◌, length, take, drop, get_or, replicate, refl, sym, ap, ap₂, ◌∙◌, inl, inr, arith}
use Rattle.std.proofs.lemmas.Bool.{cases_lt}
use Rattle.std.proofs.lemmas.Bool.Decides.{Decides-eqb}
use Rattle.std.proofs.lemmas.List.{length-append, length-drop, length-take, length-replicate, get_or_append_left, get_or-append_right, get_or-take, get_or-drop, get_or-replicate, get_or_past}
use Rattle.file_store.specs.FileBytes.{part, with_length, with_bytes_at, all_zero}
use Rattle.file_store.specs.Pages.{overlay_byte}
use Rattle.file_store.proofs.WriteLemmas.{overlaid_inside, overlaid_before, overlaid_after}

pub length-resized : (size : ℕ) (xs : List ℕ) → length (with_length size xs) ≡ size
length-resized size xs =
    simp (length-append, length-replicate) (omega (arith, length-take size xs))

pub resized_at : (size : ℕ) (xs : List ℕ) (k : ℕ) → k < size → get_or (with_length size xs) k 0 ≡ get_or xs k 0
resized_at size xs k low =
    let front = length-take size xs in
    elim (cases_lt k (length xs)) [
      | inl inside ↦ get_or_append_left (take size xs) (replicate (size - length xs) 0) 0 k (omega arith) ∙ get_or-take size xs k 0 low
      | inr past ↦
          let all : length (take size xs) ≡ length xs = omega arith in
          get_or-append_right (take size xs) (replicate (size - length xs) 0) (length xs) k 0 all past
          ∙ get_or-replicate (size - length xs) (k - length xs) 0 0 (omega arith)
          ∙ sym (get_or_past xs k 0 past)
    ]

pub length-overwritten : (xs : List ℕ) (at : ℕ) (new : List ℕ) → length (with_bytes_at xs at new) ≡ max (length xs) (at + length new)
length-overwritten xs at new =
    length-append (with_length at xs) (new ++ drop (at + length new) xs)
    ∙ omega (arith, length-resized at xs, length-append new (drop (at + length new) xs), length-drop (at + length new) xs)

pub overwritten_at : (xs : List ℕ) (at : ℕ) (new : List ℕ) (k : ℕ) → get_or (with_bytes_at xs at new) k 0 ≡ overlay_byte (λ i. get_or xs i 0) at new k
overwritten_at xs at new k =
    let front = length-resized at xs in
    let rest = drop (at + length new) xs in
    elim (cases_lt k at) [
      | inl before ↦
          get_or_append_left (with_length at xs) (new ++ rest) 0 k (omega arith) ∙ resized_at at xs k before
          ∙ sym (overlaid_before (λ i. get_or xs i 0) at new k before)
      | inr from ↦
          let past = get_or-append_right (with_length at xs) (new ++ rest) at k 0 front from in
          elim (cases_lt k (at + length new)) [
            | inl inside ↦ past ∙ get_or_append_left new rest 0 (k - at) (omega arith) ∙ sym (overlaid_inside (λ i. get_or xs i 0) at new k from inside)
            | inr after ↦
                let place : at + length new + (k - at - length new) ≡ k = omega arith in
                past ∙ get_or-append_right new rest (length new) (k - at) 0 refl (omega arith)
                ∙ get_or-drop (at + length new) xs (k - at - length new) 0
                ∙ ap (λ (n : ℕ). get_or xs n 0) place
                ∙ sym (overlaid_after (λ i. get_or xs i 0) at new k after)
          ]
    ]

pub length-part : (xs : List ℕ) (offset count : ℕ) → length (part xs offset count) ≡ min count (length xs - offset)
length-part xs offset count = length-take count (drop offset xs) ∙ ap (λ (n : ℕ). min count n) (length-drop offset xs)

pub part_at : (xs : List ℕ) (offset count k : ℕ) → k < count → get_or (part xs offset count) k 0 ≡ get_or xs (offset + k) 0
part_at xs offset count k low = get_or-take count (drop offset xs) k 0 low ∙ get_or-drop offset xs k 0

-- bytes each of which is 0
pub all_zero_from : (xs : List ℕ) → ((k : ℕ) → get_or xs k 0 ≡ 0) → all_zero xs ≡ true
all_zero_from [] h = refl
all_zero_from (x ∷ xs) h = ap₂ (λ (a b : Bool). a && b) ((Decides-eqb x 0).1 (h 0)) (all_zero_from xs (λ k. h (suc k)))
