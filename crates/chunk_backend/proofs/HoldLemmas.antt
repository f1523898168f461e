-- Which chunks stand between two offsets.
use Rattle.std.proofs.Common.{◌≡◌, ◌↔◌, ℕ, zero, suc, ◌+◌, ◌-◌, ◌*◌, ◌/◌, ◌<◌, ◌≤◌, nat_lt, Bool, true, false, ◌||◌, inl, inr, map, refl, ap, arith}
use Rattle.std.specs.List.{range_with_len}
use Rattle.std.proofs.Math.Nat.{div-mul-le_self, mul-div_cancel, mul-le-mul_right}
use Rattle.std.proofs.lemmas.Nat.{le-div}
use Rattle.std.proofs.lemmas.Bool.{eq-eqb, lt-ltb, ltb-false, ltb-true}
use Rattle.std.proofs.lemmas.Bool.Decides.{eqb_tells}
use Rattle.chunk_backend.specs.declared.chunk.ChunkId.{ChunkId}
use Rattle.chunk_backend.specs.Chunks.{chunk_count, chunk_id, chunks_between}
use Rattle.chunk_backend.specs.CacheFold.{is_listed, is_same}
use Rattle.chunk_backend.proofs.IdLemmas.{same_ids}

module _ (file number : ℕ) where
  abbrev id : ChunkId
  id = chunk_id file number

  same_self : (other : ℕ) → number ≡ other → is_same id (chunk_id file other) ≡ true
  same_self other same = rw (eq-eqb file file refl) (eq-eqb number other same)

  abbrev Among : ℕ → ℕ → Bool
  Among first count = is_listed id (map (chunk_id file) (range_with_len first count))

  in_range : (first count : ℕ) → Among first count ≡ true → (first ≤ number) × (number < first + count)
  in_range first zero h = absurd cc
  in_range first (suc count) h = (elim (is_same id (chunk_id file first)) as (λ y. is_same id (chunk_id file first) ≡ y → (first ≤ number) × (number < first + suc count)) [
    | true ↦ λ t. (let same : number ≡ first = ap (λ (i : ChunkId). i.number) (same_ids id (chunk_id file first) t) in (omega arith, omega arith))
    | false ↦ λ t. (let on = in_range (first + 1) count (rw t at h) in (omega arith, omega arith))
  ]) refl

  of_range : (first count : ℕ) → first ≤ number → number < first + count → Among first count ≡ true
  of_range first zero low high = absurd (omega arith)
  of_range first (suc count) low high = elim (eqb_tells number first) [
    | inl same ↦ (let t = same_self first same.1 in rw t refl)
    | inr apart ↦ or_true (is_same id (chunk_id file first)) (Among (first + 1) count) (of_range (first + 1) count (let d = apart.1 in omega arith) (omega arith))
  ] where
    or_true : (a b : Bool) → b ≡ true → (a || b) ≡ true
    or_true true b h = refl
    or_true false b h = h

module _ (chunk file from end number : ℕ) (positive : 0 < chunk) where
  abbrev Holds : Type 0
  Holds = (offset : ℕ) × (from ≤ offset) × (offset < end) × (offset / chunk ≡ number)

  abbrev IsNeeded : Type 0
  IsNeeded = is_listed (chunk_id file number) (chunks_between chunk file from end) ≡ true

  count_is : from < end → chunk_count chunk from end ≡ (end - 1) / chunk + 1 - from / chunk
  count_is more = let t = lt-ltb from end more in rw t refl

  holds_within : from < end → from / chunk ≤ number → number ≤ (end - 1) / chunk → Holds
  holds_within more low high =
      let start_low : number * chunk ≤ end - 1 = (let a = mul-le-mul_right {m = number} {n = (end - 1) / chunk} chunk high in let b = div-mul-le_self (end - 1) chunk in omega arith) in
      elim (nat_lt (number * chunk) from) as (λ y. nat_lt (number * chunk) from ≡ y → Holds) [
        | true ↦ λ t. (let before = ltb-true (number * chunk) from t in
            let same : from / chunk ≡ number = (let b = le-div number from chunk positive (omega arith) in omega arith) in
            (from, omega arith, more, same))
        | false ↦ λ t. (let after = ltb-false (number * chunk) from t in (number * chunk, after, omega arith, mul-div_cancel number positive))
      ] refl

  needed_holds : IsNeeded → Holds
  needed_holds needed =
      let range = in_range file number (from / chunk) (chunk_count chunk from end) needed in
      (elim (nat_lt from end) as (λ y. nat_lt from end ≡ y → Holds) [
        | true ↦ λ t. (let more = ltb-true from end t in let count = count_is more in holds_within more range.0 (let r = range.1 in let l = range.0 in omega arith))
        | false ↦ λ t. (let none : chunk_count chunk from end ≡ 0 = rw t refl in let r = range.1 in let l = range.0 in absurd (omega arith))
      ]) refl

  rises : (a b : ℕ) → a ≤ b → a / chunk ≤ b / chunk
  rises a b h = le-div (a / chunk) b chunk positive (let l = div-mul-le_self a chunk in omega arith)

  holds_needed : Holds → IsNeeded
  holds_needed (offset, low, high, same) =
      let more : from < end = omega arith in
      let count = count_is more in
      let first = rises from offset low in
      let last = rises offset (end - 1) (omega arith) in
      of_range file number (from / chunk) (chunk_count chunk from end) (omega arith) (omega arith)

  pub needs_hold : IsNeeded ↔ Holds
  needs_hold = (needed_holds, holds_needed)
