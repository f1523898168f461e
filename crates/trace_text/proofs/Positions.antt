-- The first place of a list at which a test passes, with one element more.
use Rattle.std.proofs.Common.{◌≡◌, ℕ, ◌+◌, ◌<◌, ◌≤◌, inl, inr, Bool, true, false, cond, List, [], ◌∷◌, ◌++◌, length, get_or, position, Option, None, Some, nat_lt, refl, sym, ◌∙◌, ap, arith, length-append}
use Rattle.std.specs.List.{position_or_len}
use Rattle.std.proofs.lemmas.Bool.{cases_lt}
use Rattle.std.proofs.lemmas.Bool.Decides.{nat_tests}
use Rattle.std.proofs.lemmas.List.{get_or_append_left}
use Rattle.std.proofs.lemmas.List.Quantifiers.{position-Some}
use Rattle.std.proofs.lemmas.List.Sums.{fails_before_first, position_or_len_is}
use Rattle.trace_text.proofs.Cuts.{found_nowhere, not_below}

is_below : (a b : ℕ) → a < b → nat_lt a b ≡ true
is_below a b h = grind (arith, nat_tests)

first_at : {X : Type 0} (p : X → Bool) (xs : List X) (i : ℕ) (d : X) → i < length xs → p (get_or xs i d) ≡ true → ((k : ℕ) → k < i → p (get_or xs k d) ≡ false) → position p xs ≡ Some i
first_at p xs i d within passes before =
    let at : position_or_len p xs ≡ i = position_or_len_is p xs i d (omega arith) before (λ low. passes) in
    ap (λ (n : ℕ). cond (nat_lt n (length xs)) (Some n) None) at ∙ ap (λ (b : Bool). cond b (Some i) None) (is_below i (length xs) within)

one_longer : {X : Type 0} (xs : List X) (x : X) → length (xs ++ x ∷ []) ≡ length xs + 1
one_longer xs x = length-append xs (x ∷ [])

-- what was found stays the first
pub found_before : {X : Type 0} (p : X → Bool) (xs : List X) (x : X) (i : ℕ) → position p xs ≡ Some i → position p (xs ++ x ∷ []) ≡ Some i
found_before p xs x i e =
    let found = position-Some p xs i x e in
    first_at p (xs ++ x ∷ []) i x (omega (arith, one_longer xs x, found.0))
    (ap p (get_or_append_left xs (x ∷ []) x i found.0) ∙ found.1)
    (λ k low. ap p (get_or_append_left xs (x ∷ []) x k (omega arith)) ∙ found.2 k low)

pub fails_at : {X : Type 0} (p : X → Bool) (xs : List X) (k : ℕ) (d : X) → position p xs ≡ None → k < length xs → p (get_or xs k d) ≡ false
fails_at p xs k d e low =
    let past : length xs ≤ position_or_len p xs = not_below (position_or_len p xs) (length xs) (found_nowhere (nat_lt (position_or_len p xs) (length xs)) (position_or_len p xs) e) in
    fails_before_first p xs k d (omega arith)

-- what was not found before is the new one
pub found_last : {X : Type 0} (p : X → Bool) (xs : List X) (x : X) (i : ℕ) → position p xs ≡ None → position p (xs ++ x ∷ []) ≡ Some i → i ≡ length xs
found_last p xs x i none e =
    let found = position-Some p (xs ++ x ∷ []) i x e in
    elim (cases_lt i (length xs)) [
      | inl low ↦ (
          let clash : false ≡ true = sym (ap p (get_or_append_left xs (x ∷ []) x i low) ∙ fails_at p xs i x none low) ∙ found.1 in
          cc clash
          )
      | inr high ↦ omega (arith, one_longer xs x, found.0)
    ]

-- what is not found was not found before
pub nowhere_before : {X : Type 0} (p : X → Bool) (xs : List X) (x : X) → position p (xs ++ x ∷ []) ≡ None → position p xs ≡ None
nowhere_before p xs x e = by_cases (position p xs) refl
  where
    by_cases : (found : Option ℕ) → position p xs ≡ found → position p xs ≡ None
    by_cases None h = h
    by_cases (Some i) h = (let clash : None ≡ Some i = sym e ∙ found_before p xs x i h in cc clash)
