-- Functions changed at one number, and sums over them.
use Rattle.std.proofs.Common.{◌≡◌, ◌≢◌, inl, inr, ℕ, zero, suc, ◌+◌, ◌<◌, ◌≤◌, ◌==◌, Bool, true, false, ◌&&◌, refl, arith, ap, sym}
use Rattle.std.specs.Prelude.{IsTrue}
use Rattle.std.proofs.lemmas.Bool.{cases_eq, cases_lt, ne_eqb, eq-eqb}
use Rattle.proxy_laws.specs.Maps.{upd, bit, sum_below, count_below}

module _ {X : Type 0} (f : ℕ → X) (p : ℕ) (x : X) where
  pub upd_here : upd f p x p ≡ x
  upd_here = rw (eq-eqb p p refl) refl

  pub upd_else : (q : ℕ) → q ≢ p → upd f p x q ≡ f q
  upd_else q ne = rw (ne_eqb q p ne) refl

  -- what holds of the new value at p, and of the old ones elsewhere, holds
  pub upd_case : (P : ℕ → X → Type 0) → (q : ℕ) → (q ≡ p → P q x) → (q ≢ p → P q (f q)) → P q (upd f p x q)
  upd_case P q here other = elim (cases_eq q p) [
    | inl same ↦ rw (eq-eqb q p same) (here same)
    | inr ne ↦ rw (ne_eqb q p ne) (other ne)
  ]

  module _ (g : X → ℕ) where
    pub sum_past : (n : ℕ) → n ≤ p → sum_below n (λ k. g (upd f p x k)) ≡ sum_below n (λ k. g (f k))
    sum_past zero past = refl
    sum_past (suc n) past = let e = sum_past n (omega arith) in let u = ap g (upd_else n (omega arith)) in omega arith

    -- a sum changes by what it has at p
    pub sum_upd : (n : ℕ) → p < n → sum_below n (λ k. g (upd f p x k)) + g (f p) ≡ sum_below n (λ k. g (f k)) + g x
    sum_upd zero near = absurd (omega arith)
    sum_upd (suc n) near = elim (cases_eq p n) [
      | inl same ↦ let e = sum_past n (omega arith) in let u : g (upd f p x n) ≡ g x = rw (← same) (ap g upd_here) in let v : g (f p) ≡ g (f n) = rw same refl in omega arith
      | inr other ↦ let e = sum_upd n (omega arith) in let u = ap g (upd_else n (λ e'. other (sym e'))) in omega arith
    ]

-- a count rises by one at most where a test changes at one number
pub count_set_le : (f : ℕ → Bool) (p : ℕ) (b : Bool) (n : ℕ) → count_below n (upd f p b) ≤ count_below n f + 1
count_set_le f p b n = elim (cases_lt p n) [
  | inl near ↦ let sum = sum_upd f p b (λ x. bit x) n near in let most : bit b ≤ 1 = (elim b as (λ c. bit c ≤ 1) [ true ↦ omega arith | false ↦ omega arith ]) in omega arith
  | inr far ↦ let same = sum_past f p b (λ x. bit x) n far in omega arith
]

-- a term is at most the sum
pub term_le : (n : ℕ) (g : ℕ → ℕ) (k : ℕ) → k < n → g k ≤ sum_below n g
term_le zero g k near = absurd (omega arith)
term_le (suc n) g k near = elim (cases_eq k n) [
  | inl same ↦ rw same (omega arith)
  | inr other ↦ let e = term_le n g k (omega arith) in omega arith
]

-- a sum of terms that are at most those of another
pub sum_le : (n : ℕ) (f g : ℕ → ℕ) → ((k : ℕ) → k < n → f k ≤ g k) → sum_below n f ≤ sum_below n g
sum_le zero f g le = omega arith
sum_le (suc n) f g le = let a = sum_le n f g (λ k near. le k (omega arith)) in let b = le n (omega arith) in omega arith

-- two sums of equal terms
pub sum_same : (n : ℕ) (f g : ℕ → ℕ) → ((k : ℕ) → k < n → f k ≡ g k) → sum_below n f ≡ sum_below n g
sum_same zero f g e = refl
sum_same (suc n) f g e = let a = sum_same n f g (λ k near. e k (omega arith)) in let b = e n (omega arith) in omega arith

pub sum_add : (n : ℕ) (f g : ℕ → ℕ) → sum_below n (λ k. f k + g k) ≡ sum_below n f + sum_below n g
sum_add zero f g = refl
sum_add (suc n) f g = let a = sum_add n f g in omega arith

pub sum_zero : (n : ℕ) (f : ℕ → ℕ) → ((k : ℕ) → k < n → f k ≡ 0) → sum_below n f ≡ 0
sum_zero zero f e = refl
sum_zero (suc n) f e = let a = sum_zero n f (λ k near. e k (omega arith)) in let b = e n (omega arith) in omega arith

pub sum_ones : (n : ℕ) (f : ℕ → ℕ) → ((k : ℕ) → k < n → f k ≡ 1) → sum_below n f ≡ n
sum_ones zero f e = refl
sum_ones (suc n) f e = let a = sum_ones n f (λ k near. e k (omega arith)) in let b = e n (omega arith) in omega arith

-- a test that some pass is passed by one of them
pub count_some : (n : ℕ) (t : ℕ → Bool) → 0 < count_below n t → (k : ℕ) × (k < n) × (t k ≡ true)
count_some zero t some = absurd (omega arith)
count_some (suc n) t some = by_last (t n) refl (λ before. count_some n t before) where
  by_last : (b : Bool) → t n ≡ b → (0 < count_below n t → (k : ℕ) × (k < n) × (t k ≡ true)) → (k : ℕ) × (k < suc n) × (t k ≡ true)
  by_last true is earlier = (n, omega arith, is)
  by_last false is earlier = let none : bit (t n) ≡ 0 = rw is refl in let found = earlier (omega arith) in (found.0, (let near = found.1 in omega arith), found.2)

-- a test adds one at most
pub bit_le : (b : Bool) → bit b ≤ 1
bit_le true = omega arith
bit_le false = omega arith

pub bit_and_false : (b : Bool) → bit (b && false) ≡ 0
bit_and_false true = refl
bit_and_false false = refl

pub bit_here : (p : ℕ) → bit (p == p) ≡ 1
bit_here p = rw (eq-eqb p p refl) refl

pub bit_elsewhere : (p q : ℕ) → q ≢ p → bit (p == q) ≡ 0
bit_elsewhere p q ne = rw (ne_eqb p q (λ same. ne (sym same))) refl

-- a test that adds something passes
pub passes : (b : Bool) → 0 < bit b → IsTrue b
passes true some = refl
passes false some = absurd (omega arith)

-- a test that adds nothing fails
pub fails : (b : Bool) → bit b ≡ 0 → b ≡ false
fails true none = absurd (omega arith)
fails false none = refl
