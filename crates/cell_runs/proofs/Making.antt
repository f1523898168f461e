-- A script grows by one call.
use Rattle.std.proofs.Common.{◌≡◌, ℕ, zero, suc, ◌+◌, ◌<◌, List, [], ◌∷◌, ◌++◌, length, refl, sym, ap, subst, ◌∙◌, append_assoc, arith}
use Rattle.std.proofs.lemmas.List.{append-nil}
use mathlib.Core.Option.{some, some-injective}
use lib.ListN.{get_elem?}
use Rattle.turn_cell.specs.declared.view.Known.{Known}
use Rattle.cell_runs.specs.Runs.{AreCallsMade, AreStepsOf, StampsRise}
use Rattle.cell_runs.specs.Scripts.{RiseAfter}

module _ {C R O A : Type 0} (Walk : List R → C → List (Known O A) → R → Type 0) where
  made_on : (t n m : ℕ) (before : List R) (cs : List C) (rs : List R) (ks own : List (Known O A)) (c : C) (r : R) → AreCallsMade Walk t n before cs rs ks → m ≡ n + length cs → AreStepsOf t m own → Walk (before ++ rs) c own r
      → AreCallsMade Walk t n before (cs ++ c ∷ []) (rs ++ r ∷ []) (ks ++ own)
  made_on t n m before [] [] ks own c r made is of_call walk = (
    own,
    [],
    ap (λ (l : List (Known O A)). l ++ own) made ∙ sym (append-nil own),
    subst (λ (k : ℕ). AreStepsOf t k own) (let e : m ≡ n = omega arith in e) of_call,
    subst (λ (l : List R). Walk l c own r) (append-nil before) walk,
    refl,
  )
  made_on t n m before [] (x ∷ rs) ks own c r made is of_call walk = absurd made
  made_on t n m before (d ∷ cs) [] ks own c r made is of_call walk = absurd made
  made_on t n m before (d ∷ cs) (x ∷ rs) ks own c r (first, more, parts, of_first, walked, made) is of_call walk = (
    first,
    more ++ own,
    ap (λ (l : List (Known O A)). l ++ own) parts ∙ append_assoc first more own,
    of_first,
    walked,
    made_on t (n + 1) m (before ++ x ∷ []) cs rs more own c r made (omega arith) of_call (subst (λ (l : List R). Walk l c own r) (sym (append_assoc before (x ∷ []) rs)) walk),
  )

  -- the next call, of the number behind
  pub made_next : (t n : ℕ) (cs : List C) (rs more : List R) (ks grown own : List (Known O A)) (c : C) (r : R) → AreCallsMade Walk t 1 [] cs rs ks → n ≡ length cs
      → more ≡ rs ++ r ∷ [] → grown ≡ ks ++ own → AreStepsOf t (n + 1) own → Walk rs c own r → AreCallsMade Walk t 1 [] (cs ++ c ∷ []) more grown
  made_next t n cs rs more ks grown own c r made count longer grows of_call walk =
      subst (λ (z : List R × List (Known O A)). AreCallsMade Walk t 1 [] (cs ++ c ∷ []) z.0 z.1) (λ i. (sym longer i, sym grows i))
      (made_on t 1 (n + 1) [] cs rs ks own c r made (omega arith) of_call walk)

module _ {O A : Type 0} where
  -- entries with rising stamps, and more above them
  pub rise_on : (seen xs ys : List (Known O A)) → RiseAfter seen xs → RiseAfter (seen ++ xs) ys → RiseAfter seen (xs ++ ys)
  rise_on seen [] ys a b = subst (λ (l : List (Known O A)). RiseAfter l ys) (append-nil seen) b
  rise_on seen (x ∷ xs) ys (first, more) b =
      (first, rise_on (seen ++ x ∷ []) xs ys more (subst (λ (l : List (Known O A)). RiseAfter l ys) (sym (append_assoc seen (x ∷ []) xs)) b))

  still : (xs ys : List (Known O A)) (k : ℕ) (x : Known O A) → get_elem? xs k ≡ some x → get_elem? (xs ++ ys) k ≡ some x
  still [] ys k x at = absurd (cc)
  still (z ∷ xs) ys zero x at = at
  still (z ∷ xs) ys (suc k) x at = still xs ys k x at

  last_at : (xs : List (Known O A)) (y : Known O A) → get_elem? (xs ++ y ∷ []) (length xs) ≡ some y
  last_at [] y = refl
  last_at (z ∷ xs) y = last_at xs y

  above : (seen ks : List (Known O A)) → RiseAfter seen ks → (k : ℕ) (x : Known O A) → get_elem? seen k ≡ some x → (j : ℕ) (l : Known O A) → get_elem? ks j ≡ some l → x.entry.stamp < l.entry.stamp
  above seen [] rise k x at j l at_l = absurd (cc)
  above seen (y ∷ ys) (first, more) k x at zero l at_l = subst (λ (z : Known O A). x.entry.stamp < z.entry.stamp) (some-injective y l at_l) (first k x at)
  above seen (y ∷ ys) (first, more) k x at (suc j) l at_l = above (seen ++ y ∷ []) ys more k x (still seen (y ∷ []) k x at) j l at_l

  pub rising : (seen ks : List (Known O A)) → RiseAfter seen ks → StampsRise ks
  rising seen [] rise i j k l at_k at_l less = absurd (cc)
  rising seen (y ∷ ys) rise zero zero k l at_k at_l less = absurd (omega arith)
  rising seen (y ∷ ys) (first, more) zero (suc j) k l at_k at_l less = above (seen ++ y ∷ []) ys more (length seen) k (last_at seen y ∙ at_k) j l at_l
  rising seen (y ∷ ys) rise (suc i) zero k l at_k at_l less = absurd (omega arith)
  rising seen (y ∷ ys) (first, more) (suc i) (suc j) k l at_k at_l less = rising (seen ++ y ∷ []) ys more i j k l at_k at_l (omega arith)
