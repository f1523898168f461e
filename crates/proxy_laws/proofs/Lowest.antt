-- A mailbox with a notice has one lowest place.
use Rattle.std.proofs.Common.{◌≡◌, ◌⊎◌, inl, inr, ℕ, zero, suc, ◌<◌, Bool, true, false, refl, arith}
use Rattle.std.proofs.lemmas.Bool.{cases_lt}
use Rattle.proxy_laws.specs.Mailbox.{IsLowest}
use Rattle.proxy_laws.specs.Promises.{MailHasLowest}

-- no place below n is in the mailbox, or one of them is the lowest
below : (mail : ℕ → Bool) (n : ℕ) → ((q : ℕ) → q < n → mail q ≡ false) ⊎ ((q : ℕ) × (q < n) × IsLowest mail q)
below mail zero = inl (λ q near. absurd (omega arith))
below mail (suc n) = elim (below mail n) [
  | inl none ↦ by_last (mail n) refl none
  | inr found ↦ inr (found.0, (let near = found.1 in omega arith), found.2)
] where
  by_last : (b : Bool) → mail n ≡ b → ((q : ℕ) → q < n → mail q ≡ false) → ((q : ℕ) → q < suc n → mail q ≡ false) ⊎ ((q : ℕ) × (q < suc n) × IsLowest mail q)
  by_last true is none = inr (n, omega arith, record { mailed = is; least = none })
  by_last false is none = inl (λ q near. elim (cases_lt q n) [
    | inl before ↦ none q before
    | inr last ↦ let same : q ≡ n = omega arith in rw same is
  ])

not_below : (mail : ℕ → Bool) (p q : ℕ) → IsLowest mail p → IsLowest mail q → q < p → ⊥
not_below mail p q first other near = let none = first.least q near in let some = other.mailed in cc

pub mail_has_lowest : MailHasLowest
mail_has_lowest = record {
  there = λ mail p some. elim (below mail (suc p)) [
    | inl none ↦ let no_notice = none p (omega arith) in absurd (cc)
    | inr found ↦ (found.0, (let near = found.1 in omega arith), found.2)
  ];
  one = λ mail p q first other. elim (cases_lt q p) [
    | inl less ↦ absurd (not_below mail p q first other less)
    | inr most ↦ elim (cases_lt p q) [
      | inl less ↦ absurd (not_below mail q p other first less)
      | inr least ↦ omega arith
    ]
  ];
}
