-- What the life of a place says of its uses and of who looks at it.
use Rattle.std.proofs.Common.{◌≡◌, inl, inr, ℕ, ◌<◌, ◌≤◌, ◌==◌, refl, arith}
use Rattle.std.specs.Prelude.{IsTrue}
use Rattle.std.proofs.lemmas.Bool.{cases_eq, ne_eqb}
use Rattle.proxy_laws.specs.declared.actors.Look.{Look}
use Rattle.proxy_laws.specs.declared.actors.Look.TheVariants as look
use Rattle.proxy_laws.specs.declared.actors.Note.TheVariants as note
use Rattle.proxy_laws.specs.Maps.{bit}
use Rattle.proxy_laws.specs.Phases.{names, looks_at, saw_none_at}
use Rattle.proxy_laws.specs.Sound.{Sound}
use Rattle.proxy_laws.specs.Worlds.{WorldState}
use Rattle.proxy_laws.proofs.Maps.{term_le}

-- who saw none at p looks at p
pub saw_looks : (p : ℕ) (l : Look) → IsTrue (saw_none_at p l) → IsTrue (looks_at p l)
saw_looks p look.Nowhere saw = absurd (cc)
saw_looks p (look.At q) saw = absurd (cc)
saw_looks p (look.Saw q note.None) saw = saw
saw_looks p (look.Saw q note.Pending) saw = absurd (cc)
saw_looks p (look.Saw q note.Received) saw = absurd (cc)

-- a place with a use is live
pub used_lives : (w : WorldState) (s p : ℕ) → Sound w → s < w.senders → p < w.places → 0 < w.uses s p → 3 ≤ w.life p
used_lives w s p o near place some = let least = term_le w.senders (λ r. w.uses r p) s near in let sum = o.lives.used p place in omega arith

-- a place that a sender is at is live
pub named_lives : (w : WorldState) (s p : ℕ) → Sound w → s < w.senders → p < w.places → IsTrue (names p (w.phase s)) → 3 ≤ w.life p
named_lives w s p o near place is = let one : bit (names p (w.phase s)) ≡ 1 = rw is refl in let e = o.engaged s p near place in used_lives w s p o near place (omega arith)

two_from_bit : (n : ℕ) → 1 ≤ bit (n == 2) → n ≡ 2
two_from_bit n some = elim (cases_eq n 2) [
  | inl same ↦ same
  | inr ne ↦ let none : bit (n == 2) ≡ 0 = rw (ne_eqb n 2 ne) refl in absurd (omega arith)
]

-- a place that a sender looks at has no use
pub looked_unused : (w : WorldState) (s p : ℕ) → Sound w → s < w.senders → p < w.places → IsTrue (looks_at p (w.look s)) → w.life p ≡ 2
looked_unused w s p o near place is =
    let one : bit (looks_at p (w.look s)) ≡ 1 = rw is refl in
    let least = term_le w.senders (λ r. bit (looks_at p (w.look r))) s near in
    let count = o.lives.looked p place in two_from_bit (w.life p) (omega arith)
