-- The replay of a whole store, from those of its cells.
use Rattle.std.proofs.Common.{◌≡◌, ◌≢◌, ℕ, ◌==◌, cond, List, [], ◌∷◌, map, refl, sym, ap, ◌∙◌, subst, eq-eqb, ne_eqb}
use Rattle.std.specs.List.{filter}
use mathlib.Core.Logic.{dite}
use native.Mathlib.Decide.{ℕ_discrete}
use Rattle.turn_cell.specs.declared.view.Known.{Known}
use Rattle.turn_cell.specs.Maps.{with_value_at}
use Rattle.turn_cell.specs.Histories.{entries_at_cell, Replays, state_after}
use Rattle.turn_cell.proofs.Maps.{value_here, value_else}
use Rattle.cell_runs.specs.Runs.{store_after, AllReplay}

module _ {O A : Type 0} where
  pub on_here : (k : Known O A) (ks : List (Known O A)) (c : ℕ) → k.cell ≡ c → entries_at_cell c (k ∷ ks) ≡ k.entry ∷ entries_at_cell c ks
  on_here k ks c is = ap (λ b. map (λ (z : Known O A). z.entry) (cond b (k ∷ filter (λ (z : Known O A). z.cell == c) ks) (filter (λ (z : Known O A). z.cell == c) ks))) (eq-eqb k.cell c is)

  pub on_other : (k : Known O A) (ks : List (Known O A)) (c : ℕ) → k.cell ≢ c → entries_at_cell c (k ∷ ks) ≡ entries_at_cell c ks
  on_other k ks c ne = ap (λ b. map (λ (z : Known O A). z.entry) (cond b (k ∷ filter (λ (z : Known O A). z.cell == c) ks) (filter (λ (z : Known O A). z.cell == c) ks))) (ne_eqb k.cell c ne)

module _ {S O A : Type 0} (after : S → O → S) (reply : S → O → A) where
  -- the other steps, of a cell: from the state after the first
  rest_answers : (store : ℕ → S) (k : Known O A) (ks : List (Known O A)) → ((c : ℕ) → Replays after reply (store c) (entries_at_cell c (k ∷ ks))) → (c : ℕ) → Replays after reply (with_value_at store k.cell (after (store k.cell) k.entry.op) c) (entries_at_cell c ks)
  rest_answers store k ks all c = dite (ℕ_discrete c k.cell)
      (λ e. let a = subst (Replays after reply (store c)) (on_here k ks c (sym e)) (all c) in
      subst (λ s. Replays after reply s (entries_at_cell c ks)) (ap (λ d. after (store d) k.entry.op) e ∙ (sym (value_here store k.cell (after (store k.cell) k.entry.op)) ∙ ap (with_value_at store k.cell (after (store k.cell) k.entry.op)) (sym e))) a.1)
      (λ ne. let a = subst (Replays after reply (store c)) (on_other k ks c (λ e. ne (sym e))) (all c) in
      subst (λ s. Replays after reply s (entries_at_cell c ks)) (sym (value_else store k.cell (after (store k.cell) k.entry.op) c ne)) a)

  pub all_answer : (store : ℕ → S) (ks : List (Known O A)) → ((c : ℕ) → Replays after reply (store c) (entries_at_cell c ks)) → AllReplay after reply store ks
  all_answer store [] all = tt
  all_answer store (k ∷ ks) all = (
    (subst (Replays after reply (store k.cell)) (on_here k ks k.cell refl) (all k.cell)).0,
    all_answer (with_value_at store k.cell (after (store k.cell) k.entry.op)) ks (rest_answers store k ks all),
  )

  pub store_is : (store : ℕ → S) (ks : List (Known O A)) (c : ℕ) → store_after after store ks c ≡ state_after after (store c) (entries_at_cell c ks)
  store_is store [] c = refl
  store_is store (k ∷ ks) c = let s : S = after (store k.cell) k.entry.op in store_is (with_value_at store k.cell s) ks c ∙ dite (ℕ_discrete c k.cell)
      (λ e. ap (λ z. state_after after z (entries_at_cell c ks)) (ap (with_value_at store k.cell s) e ∙ (value_here store k.cell s ∙ ap (λ d. after (store d) k.entry.op) (sym e))) ∙ ap (state_after after (store c)) (sym (on_here k ks c (sym e))))
      (λ ne. ap (λ z. state_after after z (entries_at_cell c ks)) (value_else store k.cell s c ne) ∙ ap (state_after after (store c)) (sym (on_other k ks c (λ e. ne (sym e)))))
