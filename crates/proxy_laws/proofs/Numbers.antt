-- How many marks a place has, by their senders; and the words of turns and notes.
use Rattle.std.proofs.Common.{◌≡◌, inl, inr, ℕ, zero, suc, ◌+◌, ◌<◌, ◌==◌, cond, Option, Some, None, List, [], ◌∷◌, length, count_by, refl, arith, sym}
use Rattle.std.proofs.lemmas.Bool.{cases_eq, eq-eqb}
use Rattle.std.proofs.lemmas.List.Sums.{sum_by-append}
use Rattle.proxy_laws.specs.declared.actors.Actor.{Actor}
use Rattle.proxy_laws.specs.declared.actors.Note.{Note}
use Rattle.proxy_laws.specs.declared.actors.Note.TheVariants as note
use Rattle.proxy_laws.specs.declared.records.Mark.{Mark}
use Rattle.proxy_laws.specs.Lists.{is_by}
use Rattle.proxy_laws.specs.Maps.{bit, sum_below}
use Rattle.proxy_laws.specs.Phases.{turn_word, note_word}
use Rattle.proxy_laws.specs.Worlds.{WorldState, IsWellFormed, put}
use Rattle.proxy_laws.proofs.Maps.{sum_add, sum_same, sum_zero, bit_here, bit_elsewhere}

-- one of the numbers below n is k
pub sum_point : (n k : ℕ) → k < n → sum_below n (λ s. bit (k == s)) ≡ 1
sum_point zero k near = absurd (omega arith)
sum_point (suc n) k near = elim (cases_eq k n) [
  | inl same ↦ let none = sum_zero n (λ s. bit (k == s)) (λ s at. bit_elsewhere k s (λ e. omega arith)) in let one : bit (k == n) ≡ 1 = rw (eq-eqb k n same) refl in omega arith
  | inr ne ↦ let rest = sum_point n k (omega arith) in let none : bit (k == n) ≡ 0 = bit_elsewhere k n (λ e. ne (sym e)) in omega arith
]

marks_summed : (n : ℕ) (marks : List Mark) → ((s : ℕ) → 0 < count_by (is_by s) marks → s < n) → sum_below n (λ s. count_by (is_by s) marks) ≡ length marks
marks_summed n [] there = sum_zero n (λ s. 0) (λ s at. refl)
marks_summed n (m ∷ ms) there =
    let more = λ (s : ℕ). cons s in
    let near = there m.sender (let c = cons m.sender in let one = bit_here m.sender in omega arith) in
    let rest = marks_summed n ms (λ s some. there s (let c = cons s in omega arith)) in
    let one = sum_point n m.sender near in
    let parts = sum_add n (λ s. bit (m.sender == s)) (λ s. count_by (is_by s) ms) in
    let split = sum_same n (λ s. count_by (is_by s) (m ∷ ms)) (λ s. bit (m.sender == s) + count_by (is_by s) ms) (λ s at. cons s) in
    omega arith where
      cons : (s : ℕ) → count_by (is_by s) (m ∷ ms) ≡ bit (m.sender == s) + count_by (is_by s) ms
      cons s = omega (arith, sum_by-append (λ x. cond (is_by s x) 1 0) (m ∷ []) ms)

-- the marks of a place are those of its senders
pub marks_are_summed : (w : WorldState) (p : ℕ) → IsWellFormed w → p < w.places → sum_below w.senders (λ s. count_by (is_by s) (w.sent p)) ≡ put w p
marks_are_summed w p formed at = marks_summed w.senders (w.sent p) (λ s some. formed.marks p s at some)

-- the word tells the note
pub note_of_word : (a b : Note) → note_word a ≡ note_word b → a ≡ b
note_of_word note.None note.None e = refl
note_of_word note.None note.Pending e = absurd (omega arith)
note_of_word note.None note.Received e = absurd (omega arith)
note_of_word note.Pending note.None e = absurd (omega arith)
note_of_word note.Pending note.Pending e = refl
note_of_word note.Pending note.Received e = absurd (omega arith)
note_of_word note.Received note.None e = absurd (omega arith)
note_of_word note.Received note.Pending e = absurd (omega arith)
note_of_word note.Received note.Received e = refl

-- a turn whose word is 0 is free
pub free_of_word : (turn : Option Actor) → turn_word turn ≡ 0 → turn ≡ None
free_of_word None e = refl
free_of_word (Some a) e = absurd (omega arith)
