-- Passes by number, as lists with a default and as lists without.
use Rattle.std.proofs.Common.{◌≡◌, ℕ, zero, suc, ◌<◌, List, [], ◌∷◌, length, get_or, set, refl, sym, ◌∙◌, subst, arith, length-set, get_or-set_other, get_or-set_same}
use mathlib.Core.Option.{some, some-injective}
use mathlib.Core.Logic.{dite}
use native.Mathlib.Decide.{ℕ_discrete}
use lib.ListN.{get_elem?}
use Rattle.turn_cell.specs.declared.turn_table.TurnPass.{TurnPass}
use Rattle.turn_cell.specs.declared.turn_table.TurnTable.{TurnTable}
use Rattle.turn_cell.specs.Passes.{ArePassesOf}
use Rattle.cell_tests.specs.declared.counter.Counter.{Counter}
use Rattle.cell_tests.specs.Runners.{AreAllRunnersOf, IsRunnerOf}

module _ {X : Type 0} where
  member_at : (xs : List X) (k : ℕ) (d : X) → k < length xs → get_elem? xs k ≡ some (get_or xs k d)
  member_at [] k d near = absurd (omega arith)
  member_at (x ∷ xs) zero d near = refl
  member_at (x ∷ xs) (suc k) d near = member_at xs k d (omega arith)

  value_at : (xs : List X) (k : ℕ) (d x : X) → get_elem? xs k ≡ some x → get_or xs k d ≡ x
  value_at [] k d x at = absurd (cc)
  value_at (y ∷ xs) zero d x at = some-injective y x at
  value_at (y ∷ xs) (suc k) d x at = value_at xs k d x at

  inside : (xs : List X) (k : ℕ) (x : X) → get_elem? xs k ≡ some x → k < length xs
  inside [] k x at = absurd (cc)
  inside (y ∷ xs) zero x at = omega arith
  inside (y ∷ xs) (suc k) x at = let r = inside xs k x at in omega arith

module _ {K : Type 0} (table : TurnTable Counter ℕ ℕ K) where
  pub runners_of_passes : (ps : List (TurnPass Counter ℕ ℕ)) → ArePassesOf table ps → AreAllRunnersOf table ps
  runners_of_passes ps passes = (passes.count, λ k d near. passes.each k (get_or ps k d) (member_at ps k d near))

  pub passes_of_runners : (ps : List (TurnPass Counter ℕ ℕ)) → AreAllRunnersOf table ps → ArePassesOf table ps
  passes_of_runners ps runners = record {
    count = runners.0;
    each = λ k p at. subst (IsRunnerOf table k) (value_at ps k p p at) (runners.1 k p (inside ps k p at));
  }

  -- one pass is another of its runner
  pub runners_set : (ps : List (TurnPass Counter ℕ ℕ)) (i : ℕ) (p : TurnPass Counter ℕ ℕ) → i < length ps → AreAllRunnersOf table ps → IsRunnerOf table i p → AreAllRunnersOf table (set ps i p)
  runners_set ps i p near runners is = (
    length-set ps i p ∙ runners.0,
    λ k d below. dite (ℕ_discrete k i)
        (λ same. subst (λ j. IsRunnerOf table j (get_or (set ps i p) j d)) (sym same) (subst (IsRunnerOf table i) (sym (get_or-set_same ps i p d near)) is))
        (λ other. subst (IsRunnerOf table k) (sym (get_or-set_other ps i k p d other)) (runners.1 k d (subst (λ n. k < n) (length-set ps i p) below))),
  )
