-- The chunks that hold the bytes of a read, one after another.
use Rattle.std.proofs.Common.{◌≡◌, ℕ, zero, suc, ◌+◌, ◌-◌, ◌*◌, ◌/◌, ◌<◌, ◌≤◌, min, nat_lt, true, false, ◌⊎◌, inl, inr, ◌∷◌, map, refl, sym, ap, ◌∙◌, arith}
use Rattle.std.specs.List.{range_with_len}
use Rattle.std.proofs.Math.Nat.{add-div_right, div-mul-le_self, lt-div-mul-add, mul-div_cancel, suc-mul}
use Rattle.std.proofs.lemmas.Nat.{div-mul-add, le-div}
use Rattle.std.proofs.lemmas.Bool.{le-ltb, lt-ltb, ltb-false, ltb-true}
use Rattle.std.proofs.lemmas.Bool.Decides.{nat_tests}
use Rattle.chunk_backend.specs.Chunks.{chunk_count, chunk_id, chunks_between}

module _ (chunk : ℕ) (positive : 0 < chunk) (file at end : ℕ) (more : at < end) where
  abbrev number : ℕ
  number = at / chunk

  abbrev start : ℕ
  start = number * chunk

  abbrev stop : ℕ
  stop = min end (start + chunk)

  pub begins : start ≤ at
  begins = div-mul-le_self at chunk

  pub goes_on : at < stop
  goes_on = let past = lt-div-mul-add {a = at} {b = chunk} positive in grind (arith, nat_tests)

  le_or : (a b : ℕ) → (a ≤ b) ⊎ (b < a)
  le_or a b = (elim (nat_lt b a) as (λ y. nat_lt b a ≡ y → (a ≤ b) ⊎ (b < a)) [
    | true ↦ λ t. inr (ltb-true b a t)
    | false ↦ λ t. inl (ltb-false b a t)
  ]) refl

  test_more : nat_lt at end ≡ true
  test_more = grind (arith, nat_tests)

  next_number : (start + chunk) / chunk ≡ number + 1
  next_number = add-div_right start positive ∙ ap (λ n. n + 1) (mul-div_cancel number positive)

  -- the last chunk: the end stands in it or right behind it
  last : end ≤ start + chunk → (end - 1) / chunk ≡ number
  last within =
      let rest : end - 1 ≡ start + (end - 1 - start) = (let b = begins in omega arith) in
      ap (λ n. n / chunk) rest ∙ div-mul-add number chunk (end - 1 - start) (let b = begins in omega arith)

  count_last : end ≤ start + chunk → chunk_count chunk at end ≡ suc zero
  count_last within = rw test_more (let l = last within in omega arith)

  none_left : end ≤ start + chunk → chunk_count chunk stop end ≡ zero
  none_left within = let test = le-ltb stop end (omega arith) in rw test refl

  needs_last : end ≤ start + chunk → chunks_between chunk file at end ≡ chunk_id file number ∷ chunks_between chunk file stop end
  needs_last within =
      ap (λ n. map (chunk_id file) (range_with_len number n)) (count_last within)
      ∙ ap (λ n. chunk_id file number ∷ map (chunk_id file) (range_with_len (stop / chunk) n)) (sym (none_left within))

  stop_is : start + chunk < end → stop ≡ start + chunk
  stop_is within = omega arith

  number_after : start + chunk < end → stop / chunk ≡ number + 1
  number_after within = ap (λ n. n / chunk) (stop_is within) ∙ next_number

  later : start + chunk < end → suc number ≤ (end - 1) / chunk
  later within = le-div (suc number) (end - 1) chunk positive (let product = suc-mul number chunk in omega arith)

  count_more : start + chunk < end → chunk_count chunk at end ≡ suc (chunk_count chunk stop end)
  count_more within =
      let test : nat_lt stop end ≡ true = lt-ltb stop end (let s = stop_is within in omega arith) in
      rw (test_more, test) (let n = number_after within in let l = later within in omega arith)

  needs_more : start + chunk < end → chunks_between chunk file at end ≡ chunk_id file number ∷ chunks_between chunk file stop end
  needs_more within =
      ap (λ n. map (chunk_id file) (range_with_len number n)) (count_more within)
      ∙ ap (λ n. chunk_id file number ∷ map (chunk_id file) (range_with_len n (chunk_count chunk stop end))) (sym (number_after within))

  -- the chunk that holds the byte at `at` comes first, and then those behind it
  pub needs_next : chunks_between chunk file at end ≡ chunk_id file number ∷ chunks_between chunk file stop end
  needs_next = elim (le_or end (start + chunk)) [
    | inl within ↦ needs_last within
    | inr within ↦ needs_more within
  ]
