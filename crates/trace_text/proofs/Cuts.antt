-- The text before the first byte of a kind, and the text behind it.
use Rattle.std.proofs.Common.{◌≡◌, ℕ, ◌+◌, ◌-◌, ◌<◌, ◌≤◌, ◌==◌, Bool, true, false, cond, List, [], ◌∷◌, length, take, drop, position, Option, None, Some, nat_lt, refl, sym, ◌∙◌, ap, arith, length-drop}
use Rattle.std.specs.List.{slice_split, onto_first, position_or_len}
use Rattle.std.proofs.Math.Seq.{take-length}
use Rattle.std.proofs.lemmas.Bool.Decides.{nat_tests}
use Rattle.std.proofs.lemmas.List.Splits.{slice_split_first, slice_split_none}
use Rattle.std.proofs.lemmas.List.Sums.{fails_before_first}
use Rattle.trace_text.specs.Fields.{fields_in, fields_of, one_of}

-- a test that says where the first such byte is
found_at : (b : Bool) (place at : ℕ) → cond b (Some place) None ≡ Some at → (b ≡ true) × (place ≡ at)
found_at true place at e = (refl, (cc))
found_at false place at e = (cc)

pub found_nowhere : (b : Bool) (place : ℕ) → cond b (Some place) None ≡ None → b ≡ false
found_nowhere true place e = (cc)
found_nowhere false place e = refl

below : (a b : ℕ) → nat_lt a b ≡ true → a < b
below a b h = grind (arith, nat_tests)

pub not_below : (a b : ℕ) → nat_lt a b ≡ false → b ≤ a
not_below a b h = grind (arith, nat_tests)

-- the whole rest of a list
rest_is : (at : ℕ) (text : List ℕ) → take (length text - at) (drop at text) ≡ drop at text
rest_is at text = ap (λ (n : ℕ). take n (drop at text)) (sym (length-drop at text)) ∙ take-length (drop at text)

pub cut_at : (p : ℕ → Bool) (text : List ℕ) (at : ℕ) → position p text ≡ Some at
    → slice_split p text ≡ take at text ∷ slice_split p (take (length text - (at + 1)) (drop (at + 1) text))
cut_at p text at e =
    let found = found_at (nat_lt (position_or_len p text) (length text)) (position_or_len p text) at e in
    slice_split_first p text 0 (below (position_or_len p text) (length text) found.0)
    ∙ ap (λ (n : ℕ). take n text ∷ slice_split p (drop (n + 1) text)) found.1
    ∙ ap (λ (rest : List ℕ). take at text ∷ slice_split p rest) (sym (rest_is (at + 1) text))

pub cut_nowhere : (p : ℕ → Bool) (text : List ℕ) → position p text ≡ None → slice_split p text ≡ text ∷ []
cut_nowhere p text e =
    let past = not_below (position_or_len p text) (length text) (found_nowhere (nat_lt (position_or_len p text) (length text)) (position_or_len p text) e) in
    slice_split_none p text (λ k d lt. fails_before_first p text k d (omega arith))

-- a text has a first piece
pub first_piece : (p : ℕ → Bool) (text : List ℕ) → (first : List ℕ) × (pieces : List (List ℕ)) × (slice_split p text ≡ first ∷ pieces)
first_piece p [] = ([], [], refl)
first_piece p (byte ∷ text) =
    let rest = first_piece p text in
    elim (p byte) as (λ b. (first : List ℕ) × (pieces : List (List ℕ)) × (cond b ([] ∷ slice_split p text) (onto_first byte (slice_split p text)) ≡ first ∷ pieces)) [
      | true ↦ ([], slice_split p text, refl)
      | false ↦ (byte ∷ rest.0, rest.1, ap (onto_first byte) rest.2)
    ]

-- a field with another behind it is not alone
pub not_alone : (p : ℕ → Bool) (field text : List ℕ) → one_of (field ∷ slice_split p text) ≡ None
not_alone p field text = let rest = first_piece p text in ap (λ (fields : List (List ℕ)). one_of (field ∷ fields)) rest.2

pub not_one : (text : Option (List ℕ)) (line field rest : List ℕ) → text ≡ Some line → fields_of line ≡ field ∷ fields_of rest → None ≡ one_of (fields_in text)
not_one text line field rest there cut = sym (ap (λ (t : Option (List ℕ)). one_of (fields_in t)) there ∙ ap one_of cut ∙ not_alone (λ byte. byte == 32) field rest)
