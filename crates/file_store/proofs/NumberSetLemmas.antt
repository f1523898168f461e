-- Lemmas on a set of numbers in words of bits.
use Rattle.std.proofs.Common.{◌≡◌, ◌≢◌, ℕ, ◌+◌, ◌*◌, ◌/◌, ◌%◌, ◌^◌, ◌<◌, ◌≤◌, ◌==◌, Bool, true, false, cond, List, length, get_or, set, position, None, Some, bit_and, bit_or, w64, sym, ap, ◌∙◌, inl, inr, arith}
use Rattle.std.specs.Int.{bit_at, bit_not, trailing_zeros}
use Rattle.std.specs.List.{position_or_len}
use Rattle.std.proofs.lemmas.Bool.{cases_eq, cases_lt, lt-ltb, le-ltb}
use Rattle.std.proofs.lemmas.List.{length-set, get_or-set_same, get_or-set_other, same_lists}
use Rattle.std.proofs.lemmas.List.FromFn.{length-map-range_with_len, get_or-map-range_with_len}
use Rattle.std.proofs.lemmas.List.Sums.{position_or_len_is}
use Rattle.std.proofs.lemmas.Nat.Bits.{bit_at_set_same, bit_at_set_other, bit_at_clear_same, bit_at_clear_other, bit_at-trailing_zeros, bit_at-zero}
use Rattle.file_store.specs.NumberSets.{has_number, members}

pub length-members : (words : List ℕ) → length (members words) ≡ 1024
length-members words = length-map-range_with_len (has_number words) 0 1024

pub member_at : (words : List ℕ) (n : ℕ) (d : Bool) → n < 1024 → get_or (members words) n d ≡ has_number words n
member_at words n d h = get_or-map-range_with_len (has_number words) 0 1024 n n d h (omega arith)

-- two sets with the same numbers are equal
same_members : (words : List ℕ) (bs : List Bool) → length bs ≡ 1024 → ((n : ℕ) (d : Bool) → n < 1024 → has_number words n ≡ get_or bs n d) → members words ≡ bs
same_members words bs e h =
    same_lists _ _ (length-members words ∙ sym e) (λ k d l. let below : k < 1024 = omega (arith, length-members words) in member_at words k d below ∙ h k d below)

-- a change of one bit of one word is a change at one number
changed : (words : List ℕ) (n w : ℕ) (b : Bool) → length words ≡ 16 → n < 1024 → (bit_at w (n % 64) == 1) ≡ b → ((i : ℕ) → i < 64 → i ≢ n % 64 → bit_at w i ≡ bit_at (get_or words (n / 64) 0) i) → members (set words (n / 64) w) ≡ set (members words) n b
changed words n w b len h here apart =
    same_members _ _ (length-set (members words) n b ∙ length-members words) (λ k d below.
    elim (cases_eq (k / 64) (n / 64)) [
      | inl word ↦
          let read : get_or (set words (n / 64) w) (k / 64) 0 ≡ w = ap (λ (i : ℕ). get_or (set words (n / 64) w) i 0) word ∙ get_or-set_same words (n / 64) w 0 (omega arith) in
          elim (cases_eq (k % 64) (n % 64)) [
            | inl bit ↦
                let same : k ≡ n = omega arith in
                let within : n < length (members words) = omega (arith, length-members words) in
                ap (λ (v : ℕ). bit_at v (k % 64) == 1) read ∙ ap (λ (i : ℕ). bit_at w i == 1) bit ∙ here
                ∙ sym (ap (λ (i : ℕ). get_or (set (members words) n b) i d) same ∙ get_or-set_same (members words) n b d within)
            | inr other ↦
                let differs : k ≢ n = λ e. other (ap (λ (i : ℕ). i % 64) e) in
                ap (λ (v : ℕ). bit_at v (k % 64) == 1) read
                ∙ ap (λ (v : ℕ). v == 1) (apart (k % 64) (omega arith) other)
                ∙ ap (λ (i : ℕ). bit_at (get_or words i 0) (k % 64) == 1) (sym word)
                ∙ sym (member_at words k d below)
                ∙ sym (get_or-set_other (members words) n k b d differs)
          ]
      | inr other ↦
          let differs : k ≢ n = λ e. other (ap (λ (i : ℕ). i / 64) e) in
          ap (λ (v : ℕ). bit_at v (k % 64) == 1) (get_or-set_other words (n / 64) (k / 64) w 0 other)
          ∙ sym (member_at words k d below)
          ∙ sym (get_or-set_other (members words) n k b d differs)
    ])

pub members-insert : (words : List ℕ) (n : ℕ) → length words ≡ 16 → n < 1024 → members (set words (n / 64) (bit_or (get_or words (n / 64) 0) (1 * 2 ^ (n % 64) % 2 ^ 64))) ≡ set (members words) n true
members-insert words n len h =
    let bit : n % 64 < 64 = omega arith in
    changed words n _ true len h (ap (λ (b : ℕ). b == 1) (bit_at_set_same w64 (get_or words (n / 64) 0) (n % 64) bit)) (λ i l other. bit_at_set_other w64 (get_or words (n / 64) 0) (n % 64) bit i other)

pub members-remove : (words : List ℕ) (n : ℕ) → length words ≡ 16 → n < 1024 → members (set words (n / 64) (bit_and (get_or words (n / 64) 0) (bit_not w64 (1 * 2 ^ (n % 64) % 2 ^ 64)))) ≡ set (members words) n false
members-remove words n len h =
    let bit : n % 64 < 64 = omega arith in
    changed words n _ false len h (ap (λ (b : ℕ). b == 1) (bit_at_clear_same w64 (get_or words (n / 64) 0) (n % 64) bit)) (λ i l other. bit_at_clear_other w64 (get_or words (n / 64) 0) (n % 64) bit i l other)

position-found : (bs : List Bool) (n : ℕ) → position_or_len (λ (b : Bool). b) bs ≡ n → n < length bs → Some n ≡ position (λ (b : Bool). b) bs
position-found bs n e l =
    let first = position_or_len (λ (b : Bool). b) bs in
    sym (ap (λ (b : Bool). cond b (Some first) None) (lt-ltb first (length bs) (omega (arith, e))) ∙ ap (λ (m : ℕ). Some m) e)

position-none : (bs : List Bool) → position_or_len (λ (b : Bool). b) bs ≡ length bs → None ≡ position (λ (b : Bool). b) bs
position-none bs e =
    let first = position_or_len (λ (b : Bool). b) bs in
    sym (ap (λ (b : Bool). cond b (Some first) None) (le-ltb first (length bs) (omega (arith, e))))

-- no number below a word is in the set where all words before are 0
none_below : (words : List ℕ) (n i : ℕ) → ((k : ℕ) → k < i → get_or words k 0 ≡ 0) → n / 64 < i → has_number words n ≡ false
none_below words n i zeros h =
    ap (λ (w : ℕ). bit_at w (n % 64) == 1) (zeros (n / 64) h) ∙ ap (λ (b : ℕ). b == 1) (bit_at-zero (n % 64))

position_is : (words : List ℕ) (n : ℕ) → n ≤ 1024 → ((k : ℕ) → k < n → has_number words k ≡ false) → (n < 1024 → has_number words n ≡ true) → position_or_len (λ (b : Bool). b) (members words) ≡ n
position_is words n within below here =
    position_or_len_is (λ (b : Bool). b) (members words) n false (omega (arith, length-members words)) (λ k l. member_at words k false (omega arith) ∙ below k l) (λ l. let inside : n < 1024 = omega (arith, length-members words) in member_at words n false inside ∙ here inside)

-- the lowest bit of the first word that is not 0
pub first-found : (words : List ℕ) (i : ℕ) → i < 16 → 0 < get_or words i 0 → get_or words i 0 < 2 ^ 64 → ((k : ℕ) → k < i → get_or words k 0 ≡ 0) → Some (64 * i + trailing_zeros w64 (get_or words i 0)) ≡ position (λ (b : Bool). b) (members words)
first-found words i within some fits zeros =
    let w : ℕ = get_or words i 0 in
    let bits = bit_at-trailing_zeros w64 w some fits in
    let zero : trailing_zeros w64 w < 64 = bits.0 in
    let n : ℕ = 64 * i + trailing_zeros w64 w in
    let word : n / 64 ≡ i = omega arith in
    let bit : n % 64 ≡ trailing_zeros w64 w = omega arith in
    let found : position_or_len (λ (b : Bool). b) (members words) ≡ n =
    position_is words n (omega arith) (λ k l.
    elim (cases_lt (k / 64) i) [
      | inl low ↦ none_below words k i zeros low
      | inr high ↦
          let same : k / 64 ≡ i = omega arith in
          let lower : k % 64 < trailing_zeros w64 w = omega arith in
          ap (λ (v : ℕ). bit_at (get_or words v 0) (k % 64) == 1) same ∙ ap (λ (b : ℕ). b == 1) (bits.2 (k % 64) lower)
    ]) (λ l. ap (λ (v : ℕ). bit_at (get_or words v 0) (n % 64) == 1) word ∙ ap (λ (b : ℕ). bit_at w b == 1) bit ∙ ap (λ (b : ℕ). b == 1) bits.1) in
    position-found (members words) n found (omega (arith, length-members words))

pub first-none : (words : List ℕ) → ((k : ℕ) → k < 16 → get_or words k 0 ≡ 0) → None ≡ position (λ (b : Bool). b) (members words)
first-none words zeros =
    let found : position_or_len (λ (b : Bool). b) (members words) ≡ 1024 =
    position_is words 1024 (omega arith) (λ k l. none_below words k 16 zeros (omega arith)) (λ l. absurd (omega arith)) in
    position-none (members words) (found ∙ sym (length-members words))
