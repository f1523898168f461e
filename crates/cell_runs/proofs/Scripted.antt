-- What a script's own entries are, call by call.
use Rattle.std.proofs.Common.{◌≡◌, ℕ, zero, suc, ◌+◌, ◌<◌, ◌≤◌, ◌⊎◌, ◌==◌, Bool, true, false, cond, List, [], ◌∷◌, ◌++◌, length, refl, sym, ap, ◌∙◌, subst, append_assoc, take, ⊎_elim, inl, inr, arith, eq-eqb, ne_eqb}
use Rattle.std.specs.List.{filter}
use Rattle.std.proofs.lemmas.List.Elements.{filter-append}
use Rattle.std.proofs.lemmas.List.{append-nil}
use mathlib.Core.Option.{some, some-injective}
use lib.ListN.{get_elem?}
use Rattle.turn_cell.specs.declared.view.Known.{Known}
use Rattle.turn_cell.specs.Histories.{HasMember}
use Rattle.turn_cell.proofs.Seats.{at_append}
use Rattle.cell_runs.specs.Runs.{steps_of_call, AreCallsMade}
use Rattle.cell_runs.proofs.Sorted.{has_none}

module _ {X : Type 0} where
  pub all_filtered : (p : X → Bool) (xs : List X) → ((x : X) → HasMember xs x → p x ≡ true) → filter p xs ≡ xs
  all_filtered p [] all = refl
  all_filtered p (x ∷ xs) all = ap (λ b. cond b (x ∷ filter p xs) (filter p xs)) (all x (0, refl)) ∙ ap (λ ys. x ∷ ys) (all_filtered p xs (λ y h. all y (suc h.0, h.1)))

  pub none_filtered : (p : X → Bool) (xs : List X) → ((x : X) → HasMember xs x → p x ≡ false) → filter p xs ≡ []
  none_filtered p [] all = refl
  none_filtered p (x ∷ xs) all = ap (λ b. cond b (x ∷ filter p xs) (filter p xs)) (all x (0, refl)) ∙ none_filtered p xs (λ y h. all y (suc h.0, h.1))

  pub has_either : (l m : List X) (x : X) → HasMember (l ++ m) x → HasMember l x ⊎ HasMember m x
  has_either l m x h = ⊎_elim (λ (a : get_elem? l h.0 ≡ some x). inl (h.0, a)) (λ (b : (j : ℕ) × (get_elem? m j ≡ some x)). inr b) (at_append l m h.0 x h.1)

module _ {C R O A : Type 0} (Walk : List R → C → List (Known O A) → R → Type 0) where
  -- each entry is of one of the calls
  pub of_script : (t n : ℕ) (before : List R) (cs : List C) (rs : List R) (ks : List (Known O A)) → AreCallsMade Walk t n before cs rs ks → (k : Known O A) → HasMember ks k
      → (k.entry.runner ≡ t) × (k.entry.caller.thread ≡ t) × (n ≤ k.entry.caller.call) × (k.entry.caller.call < n + length cs)
  of_script t n before [] [] ks m k h = absurd (has_none k (subst (λ (l : List (Known O A)). HasMember l k) m h))
  of_script t n before [] (r ∷ rs) ks m k h = absurd m
  of_script t n before (c ∷ cs) [] ks m k h = absurd m
  of_script t n before (c ∷ cs) (r ∷ rs) ks m k h = ⊎_elim
      (λ (own : HasMember m.0 k). let o = m.3 own.0 k own.1 in let e = o.2 in (o.0, o.1, omega arith, omega arith))
      (λ (later : HasMember m.1 k). let o = of_script t (n + 1) (before ++ r ∷ []) cs rs m.1 m.5 k later in let a = o.2 in let b = o.3 in (o.0, o.1, omega arith, omega arith))
      (has_either m.0 m.1 k (subst (λ (l : List (Known O A)). HasMember l k) m.2 h))

  -- the steps of call n + i are a walk to its reply
  pub walk_of : (t n i : ℕ) (before : List R) (cs : List C) (rs : List R) (ks : List (Known O A)) (c : C) (r : R) → AreCallsMade Walk t n before cs rs ks → get_elem? cs i ≡ some c → get_elem? rs i ≡ some r → Walk (before ++ take i rs) c (steps_of_call (n + i) ks) r
  walk_of t n i before [] [] ks c r m at_c at_r = absurd (cc)
  walk_of t n i before [] (y ∷ rs) ks c r m at_c at_r = absurd m
  walk_of t n i before (x ∷ cs) [] ks c r m at_c at_r = absurd m
  walk_of t n zero before (x ∷ cs) (y ∷ rs) ks c r m at_c at_r =
      let is : Known O A → Bool = λ k. k.entry.caller.call == n + 0 in
      let own : filter is m.0 ≡ m.0 = all_filtered is m.0 (λ k h. let o = m.3 h.0 k h.1 in let e = o.2 in eq-eqb k.entry.caller.call (n + 0) (omega arith)) in
      let rest : filter is m.1 ≡ [] = none_filtered is m.1 (λ k h. let o = of_script t (n + 1) (before ++ y ∷ []) cs rs m.1 m.5 k h in let a = o.2 in ne_eqb k.entry.caller.call (n + 0) (λ e. omega arith)) in
      let whole : steps_of_call (n + 0) ks ≡ m.0 = ap (filter is) m.2 ∙ (filter-append is m.0 m.1 ∙ ((λ j. own j ++ rest j) ∙ append-nil m.0)) in
      subst (λ (z : List R × C × List (Known O A) × R). Walk z.0 z.1 z.2 z.3) (λ j. (sym (append-nil before) j, some-injective x c at_c j, sym whole j, some-injective y r at_r j)) m.4
  walk_of t n (suc i) before (x ∷ cs) (y ∷ rs) ks c r m at_c at_r =
      let is : Known O A → Bool = λ k. k.entry.caller.call == n + suc i in
      let own : filter is m.0 ≡ [] = none_filtered is m.0 (λ k h. let o = m.3 h.0 k h.1 in let e = o.2 in ne_eqb k.entry.caller.call (n + suc i) (λ e. omega arith)) in
      let whole : steps_of_call (n + suc i) ks ≡ filter is m.1 = ap (filter is) m.2 ∙ (filter-append is m.0 m.1 ∙ (λ j. own j ++ filter is m.1)) in
      let numbers : n + 1 + i ≡ n + suc i = omega arith in
      subst (λ (z : List R × List (Known O A)). Walk z.0 c z.1 r) (λ j. (append_assoc before (y ∷ []) (take i rs) j, sym whole j)) (subst (λ (q : ℕ). Walk ((before ++ y ∷ []) ++ take i rs) c (steps_of_call q m.1) r) numbers (walk_of t (n + 1) i (before ++ y ∷ []) cs rs m.1 c r m.5 at_c at_r))

  -- first those of number n, then later ones in order
  placed : (n : ℕ) (own rest : List (Known O A)) (i j : ℕ) (k l : Known O A) → get_elem? (own ++ rest) i ≡ some k → get_elem? (own ++ rest) j ≡ some l → i ≤ j
      → ((z : Known O A) → HasMember own z → z.entry.caller.call ≡ n) → ((z : Known O A) → HasMember rest z → n ≤ z.entry.caller.call)
      → ((i j : ℕ) (k l : Known O A) → get_elem? rest i ≡ some k → get_elem? rest j ≡ some l → i ≤ j → k.entry.caller.call ≤ l.entry.caller.call) → k.entry.caller.call ≤ l.entry.caller.call
  placed n [] rest i j k l at_k at_l le first later order = order i j k l at_k at_l le
  placed n (x ∷ own) rest zero j k l at_k at_l le first later order = let a = first k (0, at_k) in
      ⊎_elim (λ (h : HasMember (x ∷ own) l). let b = first l h in omega arith) (λ (h : HasMember rest l). let b = later l h in omega arith) (has_either (x ∷ own) rest l (j, at_l))
  placed n (x ∷ own) rest (suc i) zero k l at_k at_l le first later order = absurd (omega arith)
  placed n (x ∷ own) rest (suc i) (suc j) k l at_k at_l le first later order = placed n own rest i j k l at_k at_l (omega arith) (λ z h. first z (suc h.0, h.1)) later order

  -- along the entries the calls' numbers do not fall
  pub in_order : (t n : ℕ) (before : List R) (cs : List C) (rs : List R) (ks : List (Known O A)) → AreCallsMade Walk t n before cs rs ks → (i j : ℕ) (k l : Known O A) → get_elem? ks i ≡ some k → get_elem? ks j ≡ some l → i ≤ j → k.entry.caller.call ≤ l.entry.caller.call
  in_order t n before [] [] ks m i j k l at_k at_l le = absurd (has_none k (i, ap (λ (z : List (Known O A)). get_elem? z i) (sym m) ∙ at_k))
  in_order t n before [] (r ∷ rs) ks m i j k l at_k at_l le = absurd m
  in_order t n before (c ∷ cs) [] ks m i j k l at_k at_l le = absurd m
  in_order t n before (c ∷ cs) (r ∷ rs) ks m i j k l at_k at_l le = placed n m.0 m.1 i j k l (ap (λ (z : List (Known O A)). get_elem? z i) (sym m.2) ∙ at_k) (ap (λ (z : List (Known O A)). get_elem? z j) (sym m.2) ∙ at_l) le
      (λ z h. (m.3 h.0 z h.1).2) (λ z h. let o = (of_script t (n + 1) (before ++ r ∷ []) cs rs m.1 m.5 z h).2 in omega arith) (in_order t (n + 1) (before ++ r ∷ []) cs rs m.1 m.5)

  pub as_many : (t n : ℕ) (before : List R) (cs : List C) (rs : List R) (ks : List (Known O A)) → AreCallsMade Walk t n before cs rs ks → length rs ≡ length cs
  as_many t n before [] [] ks m = refl
  as_many t n before [] (r ∷ rs) ks m = absurd m
  as_many t n before (c ∷ cs) [] ks m = absurd m
  as_many t n before (c ∷ cs) (r ∷ rs) ks m = ap suc (as_many t (n + 1) (before ++ r ∷ []) cs rs m.1 m.5)
