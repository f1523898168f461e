use Rattle.std.proofs.Common.{◌≡◌, ℕ, Some, List, [], ◌∷◌, ap, sym, ◌∙◌}
use Rattle.std.specs.Prelude.{slice_get}
use Rattle.post_core.specs.Steps.{all_meant}
use Rattle.post_core.specs.Views.{owner_of}
use Rattle.post_core.proofs.first_job.take_first.Goals as goal

-- what the first slot of a list holds
abbrev first_slot : {R : Type 0} → R → List (ℕ × R) → R
first_slot d [] = d
first_slot d (x ∷ xs) = x.1

head_of : {X : Type 0} (xs : List X) (x : X) → slice_get xs 0 ≡ Some x → (rest : List X) × (xs ≡ x ∷ rest)
head_of [] x is = absurd (cc)
head_of (y ∷ xs) x is = (xs, ap (λ z. z ∷ xs) (same y x is)) where
  same : {X : Type 0} (a b : X) → Some a ≡ Some b → a ≡ b
  same a b e = cc

pub returns-in-Some-clause-suits : goal.returns-in-Some-clause-suits
returns-in-Some-clause-suits g c =
    let t = c.take_turn.ensures.taken in
    let held = head_of c.slot_mut.result.now.items c.in-Some.item (sym c.pop-first.ensures.taken ∙ c.in-Some.is) in
    let ring_is : t.0 ≡ c.slot_mut.result.now = ap (first_slot t.0) (sym (ap (λ me. me.1) t.1) ∙ c.slot_mut.ensures.value) in
    c.start_job-nth.ensures.suits (record { mark = c.in-Some.item.mark; meaning = g.J.Meant.meaning c.in-Some.item.job }) (all_meant g.J.Meant.meaning held.0)
    (ap (λ me. (owner_of me.0).ring) t.1 ∙ (ap (λ r. all_meant g.J.Meant.meaning r.items) ring_is ∙ ap (all_meant g.J.Meant.meaning) held.1))
