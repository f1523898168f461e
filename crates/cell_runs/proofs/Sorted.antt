-- Lists in rising order: they are fixed by their members.
use Rattle.std.proofs.Common.{◌≡◌, ℕ, zero, suc, ◌+◌, ◌<◌, ◌≤◌, ◌⊎◌, Bool, true, false, cond, List, [], ◌∷◌, map, refl, sym, ap, ◌∙◌, subst, ⊎_elim, inl, inr, arith}
use Rattle.std.specs.List.{filter, range_with_len}
use mathlib.Core.Option.{some, some-injective}
use lib.ListN.{get_elem?}
use Rattle.turn_cell.specs.Histories.{HasMember}

module _ {X : Type 0} where
  none_there : (i : ℕ) (x : X) → get_elem? [] i ≡ some x → ⊥
  none_there i x e = cc

  pub has_none : (x : X) → HasMember [] x → ⊥
  has_none x h = none_there h.0 x h.1

  at_cases : (y : X) (ys : List X) (x : X) (i : ℕ) → get_elem? (y ∷ ys) i ≡ some x → (y ≡ x) ⊎ HasMember ys x
  at_cases y ys x zero e = inl (some-injective y x e)
  at_cases y ys x (suc i) e = inr (i, e)

  -- a member is the first, or one of the others
  pub has_cases : (y : X) (ys : List X) (x : X) → HasMember (y ∷ ys) x → (y ≡ x) ⊎ HasMember ys x
  has_cases y ys x h = at_cases y ys x h.0 h.1

  pub has_other : (y : X) (ys : List X) (x : X) → HasMember ys x → HasMember (y ∷ ys) x
  has_other y ys x h = (suc h.0, h.1)

  module _ (p : X → Bool) where
    false_true : (b : Bool) → b ≡ false → b ≡ true → ⊥
    false_true b e f = cc

    pub has_filtered : (xs : List X) (x : X) → HasMember (filter p xs) x → HasMember xs x × (p x ≡ true)
    has_filtered [] x h = absurd (has_none x h)
    has_filtered (y ∷ ys) x h = elim (p y) as (λ b. p y ≡ b → HasMember (cond b (y ∷ filter p ys) (filter p ys)) x → HasMember (y ∷ ys) x × (p x ≡ true)) [
      | true ↦ λ is h. ⊎_elim (λ (e : y ≡ x). ((0, ap some e), subst (λ z. p z ≡ true) e is)) (λ (o : HasMember (filter p ys) x). let r = has_filtered ys x o in (has_other y ys x r.0, r.1)) (has_cases y (filter p ys) x h)
      | false ↦ λ is h. let r = has_filtered ys x h in (has_other y ys x r.0, r.1)
    ] refl h

    pub filtered_has : (xs : List X) (x : X) → HasMember xs x → p x ≡ true → HasMember (filter p xs) x
    filtered_has [] x h is = absurd (has_none x h)
    filtered_has (y ∷ ys) x h is = elim (p y) as (λ b. p y ≡ b → HasMember (cond b (y ∷ filter p ys) (filter p ys)) x) [
      | true ↦ λ at. ⊎_elim (λ (e : y ≡ x). (0, ap some e)) (λ (o : HasMember ys x). has_other y (filter p ys) x (filtered_has ys x o is)) (has_cases y ys x h)
      | false ↦ λ at. ⊎_elim (λ (e : y ≡ x). absurd (let a = subst (λ z. p z ≡ true) (sym e) is in false_true (p y) at a)) (λ (o : HasMember ys x). filtered_has ys x o is) (has_cases y ys x h)
    ] refl

  module _ (key : X → ℕ) where
    -- the keys rise, from b on
    abbrev pub From : ℕ → List X → Type 0
    From b [] = Unit {0}
    From b (x ∷ xs) = (b ≤ key x) × From (key x + 1) xs

    pub from_lower : (a b : ℕ) (xs : List X) → a ≤ b → From b xs → From a xs
    from_lower a b [] le f = tt
    from_lower a b (x ∷ xs) le f = let l = f.0 in (omega arith, f.1)

    pub from_has : (b : ℕ) (xs : List X) (x : X) → From b xs → HasMember xs x → b ≤ key x
    from_has b [] x f h = absurd (has_none x h)
    from_has b (y ∷ ys) x f h = ⊎_elim (λ (e : y ≡ x). subst (λ z. b ≤ key z) e f.0) (λ (o : HasMember ys x). let r = from_has (key y + 1) ys x f.1 o in let l = f.0 in omega arith) (has_cases y ys x h)

    pub from_filter : (p : X → Bool) (b : ℕ) (xs : List X) → From b xs → From b (filter p xs)
    from_filter p b [] f = tt
    from_filter p b (x ∷ xs) f = elim (p x) as (λ t. From b (cond t (x ∷ filter p xs) (filter p xs))) [
      | true ↦ (f.0, from_filter p (key x + 1) xs f.1)
      | false ↦ let l = f.0 in from_lower b (key x + 1) (filter p xs) (omega arith) (from_filter p (key x + 1) xs f.1)
    ]

    -- from the order of any two
    pub from_pairs : (b : ℕ) (xs : List X) → ((x : X) → HasMember xs x → b ≤ key x) → ((i j : ℕ) (x y : X) → get_elem? xs i ≡ some x → get_elem? xs j ≡ some y → i < j → key x < key y) → From b xs
    from_pairs b [] low rise = tt
    from_pairs b (x ∷ xs) low rise = (low x (0, refl), from_pairs (key x + 1) xs (λ y h. let r = rise 0 (suc h.0) x y refl h.1 (omega arith) in omega arith) (λ i j y z ey ez l. rise (suc i) (suc j) y z ey ez (omega arith)))

    pub pairs_from : (b : ℕ) (xs : List X) → From b xs → (i j : ℕ) (x y : X) → get_elem? xs i ≡ some x → get_elem? xs j ≡ some y → i < j → key x < key y
    pairs_from b [] f i j x y ex ey l = absurd (none_there i x ex)
    pairs_from b (z ∷ zs) f zero zero x y ex ey l = absurd (omega arith)
    pairs_from b (z ∷ zs) f zero (suc j) x y ex ey l = let r = from_has (key z + 1) zs y f.1 (j, ey) in let e : key z ≡ key x = ap key (some-injective z x ex) in omega arith
    pairs_from b (z ∷ zs) f (suc i) zero x y ex ey l = absurd (omega arith)
    pairs_from b (z ∷ zs) f (suc i) (suc j) x y ex ey l = pairs_from (key z + 1) zs f.1 i j x y ex ey (omega arith)

    -- two rising lists with the same members are one
    pub same_list : (a b : ℕ) (xs ys : List X) → From a xs → From b ys → ((x : X) → HasMember xs x → HasMember ys x) → ((x : X) → HasMember ys x → HasMember xs x) → xs ≡ ys
    same_list a b [] [] f g to back = refl
    same_list a b [] (y ∷ ys) f g to back = absurd (has_none y (back y (0, refl)))
    same_list a b (x ∷ xs) [] f g to back = absurd (has_none x (to x (0, refl)))
    same_list a b (x ∷ xs) (y ∷ ys) f g to back = let head : x ≡ y = ⊎_elim (λ (e : y ≡ x). sym e) (λ (o : HasMember ys x). ⊎_elim (λ (e : x ≡ y). e)
        (λ (q : HasMember xs y). let s = from_has (key x + 1) xs y f.1 q in let t = from_has (key y + 1) ys x g.1 o in absurd (omega arith)) (has_cases x xs y (back y (0, refl)))) (has_cases y ys x (to x (0, refl))) in
        let tail = same_list (key x + 1) (key y + 1) xs ys f.1 g.1
        (λ z h. ⊎_elim (λ (e : y ≡ z). absurd (let s = from_has (key x + 1) xs z f.1 h in let u : key x ≡ key z = ap key (head ∙ e) in omega arith)) (λ (o : HasMember ys z). o) (has_cases y ys z (to z (has_other x xs z h))))
        (λ z h. ⊎_elim (λ (e : x ≡ z). absurd (let s = from_has (key y + 1) ys z g.1 h in let u : key y ≡ key z = ap key (sym head ∙ e) in omega arith)) (λ (o : HasMember xs z). o) (has_cases x xs z (back z (has_other y ys z h)))) in
        λ i. head i ∷ tail i

    -- keys from b on, none left out below b + n and none above: they are b, b + 1 and so on
    pub dense : (b n : ℕ) (xs : List X) → From b xs → ((x : X) → HasMember xs x → key x < b + n) → ((k : ℕ) → b ≤ k → k < b + n → (x : X) × HasMember xs x × (key x ≡ k)) → map key xs ≡ range_with_len b n
    dense b zero [] f high all = refl
    dense b (suc n) [] f high all = let w = all b (omega arith) (omega arith) in absurd (has_none w.0 w.1)
    dense b zero (x ∷ xs) f high all = let h = high x (0, refl) in let l = f.0 in absurd (omega arith)
    dense b (suc n) (x ∷ xs) f high all = let w = all b (omega arith) (omega arith) in let l = f.0 in let wk = w.2 in
        let first : key x ≡ b = ⊎_elim (λ (e : x ≡ w.0). ap key e ∙ w.2) (λ (o : HasMember xs w.0). absurd (let r = from_has (key x + 1) xs w.0 f.1 o in omega arith)) (has_cases x xs w.0 w.1) in
        let tail = dense (b + 1) n xs (subst (λ (k : ℕ). From (k + 1) xs) first f.1) (λ z h. let r = high z (has_other x xs z h) in omega arith)
        (λ k lo hi. let v = all k (omega arith) (omega arith) in (v.0, ⊎_elim (λ (e : x ≡ v.0). absurd (let u : key x ≡ key v.0 = ap key e in let vk = v.2 in omega arith)) (λ (o : HasMember xs v.0). o) (has_cases x xs v.0 v.1), v.2)) in
        λ i. first i ∷ tail i
