-- The entries of all cells as one list.
use Rattle.std.proofs.Common.{◌≡◌, ℕ, zero, suc, ◌+◌, ◌<◌, ◌==◌, cond, List, [], ◌∷◌, ◌++◌, length, map, get_or, refl, sym, ap, ◌∙◌, subst, ⊎_elim, arith, append_assoc}
use Rattle.std.specs.List.{count_by}
use Rattle.std.specs.List.Sorted.{IsPermutation, IsNonDecreasingBy}
use Rattle.std.proofs.lemmas.List.Sorted.{Contains-permutation, IsPermutation-sym, sum_by-IsPermutation}
use Rattle.std.proofs.lemmas.List.Sums.{sum_by-append}
use mathlib.Core.Option.{some, some-injective}
use mathlib.Core.List.{map-append}
use lib.ListN.{get_elem?}
use Rattle.turn_cell.specs.declared.entry.Entry.{Entry}
use Rattle.turn_cell.specs.declared.entry.CellRecord.{CellRecord}
use Rattle.turn_cell.specs.declared.view.Known.{Known}
use Rattle.turn_cell.specs.Maps.{sum_below}
use Rattle.turn_cell.specs.Histories.{HasMember, count_with_stamp}
use Rattle.turn_cell.proofs.Frames.{at_below}
use Rattle.turn_cell.proofs.Gathering.{has_right}
use Rattle.cell_runs.specs.Runs.{IsHistory, known_at, log_of, flattened}
use Rattle.cell_runs.proofs.Sorted.{has_none, has_cases, has_other}
use Rattle.cell_runs.proofs.Scripted.{has_either}
use Rattle.cell_runs.proofs.Whole.{mapped_has, has_mapped, count_cons}

sum_front : (k : ℕ) (f : ℕ → ℕ) → sum_below (suc k) f ≡ f 0 + sum_below k (λ c. f (suc c))
sum_front zero f = omega arith
sum_front (suc k) f = let a = sum_front k f in omega arith

module _ {X : Type 0} where
  or_there : (xs : List X) (i : ℕ) (x d : X) → get_elem? xs i ≡ some x → get_or xs i d ≡ x
  or_there [] i x d e = absurd (cc)
  or_there (y ∷ ys) zero x d e = some-injective y x e
  or_there (y ∷ ys) (suc i) x d e = or_there ys i x d e

  there_or : (xs : List X) (i : ℕ) (d : X) → i < length xs → get_elem? xs i ≡ some (get_or xs i d)
  there_or [] i d l = absurd (omega arith)
  there_or (y ∷ ys) zero d l = refl
  there_or (y ∷ ys) (suc i) d l = there_or ys i d (omega arith)

  has_permuted : (xs ys : List X) (x : X) → IsPermutation xs ys → HasMember xs x → HasMember ys x
  has_permuted xs ys x p h = let c = Contains-permutation xs ys x p (h.0, at_below xs h.0 x h.1, or_there xs h.0 x x h.1) in (c.0, there_or ys c.0 x c.1 ∙ ap some c.2)

  has_left : (l m : List X) (x : X) → HasMember l x → HasMember (l ++ m) x
  has_left [] m x h = absurd (has_none x h)
  has_left (y ∷ ys) m x h = ⊎_elim (λ (e : y ≡ x). (0, ap some e)) (λ (o : HasMember ys x). has_other y (ys ++ m) x (has_left ys m x o)) (has_cases y ys x h)

module _ {O A : Type 0} where
  pub added : (init old new : List (Known O A)) (ys : List (Entry O A)) (c : ℕ) (e : Entry O A) → new ≡ old ++ known_at c e ∷ [] → old ≡ init ++ map (known_at c) ys → new ≡ init ++ map (known_at c) (ys ++ e ∷ [])
  added init old new ys c e is before = is ∙ ((λ i. before i ++ known_at c e ∷ []) ∙ (append_assoc init (map (known_at c) ys) (known_at c e ∷ []) ∙ ap (λ (l : List (Known O A)). init ++ l) (sym (map-append (known_at c) ys (e ∷ [])))))

  tag_counts : (x c : ℕ) (es : List (Entry O A)) → count_by (λ (k : Known O A). k.entry.stamp == x) (map (known_at c) es) ≡ count_with_stamp x es
  tag_counts x c [] = refl
  tag_counts x c (e ∷ es) = let a = count_cons (λ (k : Known O A). k.entry.stamp == x) (known_at c e) (map (known_at c) es) in let b = count_cons (λ (z : Entry O A). z.stamp == x) e es in let r = tag_counts x c es in omega arith

module _ {S O A : Type 0} where
  pub flat_more : (old new : List (Known O A)) (all : List (Known O A)) (c : ℕ) (r : CellRecord S O A) (rest rest' : List (CellRecord S O A)) → new ≡ old ++ map (known_at c) r.entries.items → rest ≡ r ∷ rest' → old ++ flattened c rest ≡ all → new ++ flattened (c + 1) rest' ≡ all
  flat_more old new all c r rest rest' is next whole = ap (λ (l : List (Known O A)). l ++ flattened (c + 1) rest') is ∙ (append_assoc old (map (known_at c) r.entries.items) (flattened (c + 1) rest') ∙ (ap (λ (l : List (CellRecord S O A)). old ++ flattened c l) (sym next) ∙ whole))

  flat_from : (c : ℕ) (rs : List (CellRecord S O A)) (k : Known O A) → HasMember (flattened c rs) k → (i : ℕ) × (i < length rs) × (k.cell ≡ c + i) × HasMember (log_of rs i) k.entry
  flat_from c [] k h = absurd (has_none k h)
  flat_from c (r ∷ rs) k h = ⊎_elim
      (λ (a : HasMember (map (known_at c) r.entries.items) k). let m = mapped_has (known_at c) r.entries.items k a in (0, omega arith, (let e : c ≡ k.cell = ap (λ (z : Known O A). z.cell) m.2 in omega arith), subst (λ (e : Entry O A). HasMember r.entries.items e) (ap (λ (z : Known O A). z.entry) m.2) m.1))
      (λ (b : HasMember (flattened (c + 1) rs) k). let m = flat_from (c + 1) rs k b in let l = m.1 in let e = m.2 in (suc m.0, omega arith, omega arith, m.3))
      (has_either (map (known_at c) r.entries.items) (flattened (c + 1) rs) k h)

  flat_back : (c i d : ℕ) (rs : List (CellRecord S O A)) (e : Entry O A) → i < length rs → d ≡ c + i → HasMember (log_of rs i) e → HasMember (flattened c rs) (known_at d e)
  flat_back c i d [] e l is h = absurd (omega arith)
  flat_back c zero d (r ∷ rs) e l is h = let same : c ≡ d = omega arith in has_left (map (known_at c) r.entries.items) (flattened (c + 1) rs) (known_at d e) (subst (λ (q : ℕ). HasMember (map (known_at c) r.entries.items) (known_at q e)) same (has_mapped (known_at c) r.entries.items e h))
  flat_back c (suc i) d (r ∷ rs) e l is h = has_right (map (known_at c) r.entries.items) (flattened (c + 1) rs) (known_at d e) (flat_back (c + 1) i d rs e (omega arith) (omega arith) h)

  flat_counts : (x c : ℕ) (rs : List (CellRecord S O A)) → count_by (λ (k : Known O A). k.entry.stamp == x) (flattened c rs) ≡ sum_below (length rs) (λ i. count_with_stamp x (log_of rs i))
  flat_counts x c [] = refl
  flat_counts x c (r ∷ rs) = let a = sum_by-append (λ (k : Known O A). cond (k.entry.stamp == x) 1 0) (map (known_at c) r.entries.items) (flattened (c + 1) rs) in let b = tag_counts x c r.entries.items in let d = flat_counts x (c + 1) rs in
      let f = sum_front (length rs) (λ i. count_with_stamp x (log_of (r ∷ rs) i)) in omega arith

  pub flat_history : (rs : List (CellRecord S O A)) (ks ks' : List (Known O A)) → ks ≡ flattened 0 rs → IsPermutation ks ks' → IsNonDecreasingBy (λ (k : Known O A). k.entry.stamp) ks' → IsHistory (log_of rs) (length rs) ks'
  flat_history rs ks ks' is perm up = record {
    sorted = λ i j k l at_k at_l less. let u = up i j k (omega arith) (at_below ks' j l at_l) in let a : (get_or ks' i k).entry.stamp ≡ k.entry.stamp = ap (λ (z : Known O A). z.entry.stamp) (or_there ks' i k k at_k) in
        let b : (get_or ks' j k).entry.stamp ≡ l.entry.stamp = ap (λ (z : Known O A). z.entry.stamp) (or_there ks' j l k at_l) in omega arith;
    from = λ i k at. let h = subst (λ (z : List (Known O A)). HasMember z k) is (has_permuted ks' ks k (IsPermutation-sym ks ks' perm) (i, at)) in let f = flat_from 0 rs k h in let e = f.2 in let l = f.1 in let same : f.0 ≡ k.cell = omega arith in
        (omega arith, subst (λ (q : ℕ). HasMember (log_of rs q) k.entry) same f.3);
    counts = λ x. sum_by-IsPermutation (λ (k : Known O A). cond (k.entry.stamp == x) 1 0) ks ks' perm ∙ (ap (count_by (λ (k : Known O A). k.entry.stamp == x)) is ∙ flat_counts x 0 rs);
    back = λ c e near h. has_permuted ks ks' (known_at c e) perm (subst (λ (z : List (Known O A)). HasMember z (known_at c e)) (sym is) (flat_back 0 c c rs e near (omega arith) h));
  }

pub nil_of : {X : Type 0} (xs : List X) → length xs ≡ 0 → xs ≡ []
nil_of [] e = refl
nil_of (x ∷ xs) e = absurd (omega arith)
