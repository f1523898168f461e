-- What a table names after a change, and that its ids stay those of its group.
use Rattle.std.proofs.Common.{◌≡◌, ◌≢◌, ℕ, ◌%◌, Bool, true, false, cond, ◌||◌, List, [], ◌∷◌, None, Some, is_some, nat_cmp, refl, sym, ap, subst, ◌∙◌, inl, inr, arith}
use Rattle.std.specs.declared.cmp.Ordering.{Ordering}
use Rattle.std.specs.declared.cmp.Ordering.TheVariants.{Less, Equal, Greater}
use Rattle.std.specs.Cmp.{nat_cmp_total}
use Rattle.std.specs.Ordering.{is_eq, match_ordering, ordering_reverse}
use Rattle.std.specs.List.{AllByRecursion, list_any}
use Rattle.std.specs.List.Sorted.{IsStrictlySortedBy}
use Rattle.std.specs.Map.{keys_of, values_of, lookup, remove_entry, set_value}
use Rattle.std.specs.BTreeMap.{insert_entry, is_at}
use Rattle.std.proofs.lemmas.Bool.{false≢true, cases_eq, or_cases, or_left, or_right}
use Rattle.std.proofs.lemmas.Bool.Decides.{nat_tests}
use Rattle.std.proofs.lemmas.Map.{keys-set_value}
use Rattle.std.proofs.lemmas.Map.Keys.{sorted_head, sorted_tail}
use Rattle.std.proofs.lemmas.Map.Lookups.{exact_unsigned}
use Rattle.std.proofs.lemmas.Map.Views.{tells_apart}
use Rattle.file_store.specs.Tables.{Table, row_at, rows, IsFresh, with_next_row, with_row, without_row}
use Rattle.file_store.specs.Sound.{AreIdsOf}
use Rattle.file_store.proofs.TableLemmas.{next_names_nothing}

passes : (k : ℕ) → is_at (nat_cmp k) k ≡ true
passes k = grind (arith, nat_tests)

fails : (k q : ℕ) → q ≢ k → is_at (nat_cmp q) k ≡ false
fails k q apart = grind (arith, nat_tests)

ties : (a b : ℕ) → nat_cmp a b ≡ Equal → a ≡ b
ties a b e = tells_apart exact_unsigned a b (ap is_eq e)

greater_less : (a b : ℕ) → nat_cmp a b ≡ Greater → nat_cmp b a ≡ Less
greater_less a b h = nat_cmp_total.antisymm b a ∙ ap ordering_reverse h

-- ids above a low one
abbrev Above : ℕ → List ℕ → Type 0
Above low ids = AllByRecursion (λ id. nat_cmp low id ≡ Less) ids

module _ {X : Type 0} where
  -- a changed entry
  set_first : (id : ℕ) (x : X) (e : ℕ × X) (es new : List (ℕ × X)) (b : Bool) → is_at (nat_cmp id) e.0 ≡ b → lookup (is_at (nat_cmp id)) new ≡ Some x → lookup (is_at (nat_cmp id)) (cond b ((e.0, x) ∷ es) (e ∷ new)) ≡ Some x
  set_first id x e es new true t h = rw t refl
  set_first id x e es new false t h = rw (t, h) refl

  found_below : (id : ℕ) (w : X) (e : ℕ × X) (es : List (ℕ × X)) (b : Bool) → is_at (nat_cmp id) e.0 ≡ b → lookup (is_at (nat_cmp id)) (e ∷ es) ≡ Some w → b ≡ false → lookup (is_at (nat_cmp id)) es ≡ Some w
  found_below id w e es b t there f = sym (ap (λ (c : Bool). cond c (Some e.1) (lookup (is_at (nat_cmp id)) es)) (t ∙ f)) ∙ there

  set_here : (id : ℕ) (x w : X) (es : List (ℕ × X)) → lookup (is_at (nat_cmp id)) es ≡ Some w → lookup (is_at (nat_cmp id)) (set_value (is_at (nat_cmp id)) es x) ≡ Some x
  set_here id x w [] there = absurd (false≢true (ap is_some there))
  set_here id x w (e ∷ es) there = by_test (is_at (nat_cmp id) e.0) refl (set_here id x w es) where
    by_test : (b : Bool) → is_at (nat_cmp id) e.0 ≡ b → (lookup (is_at (nat_cmp id)) es ≡ Some w → lookup (is_at (nat_cmp id)) (set_value (is_at (nat_cmp id)) es x) ≡ Some x) → lookup (is_at (nat_cmp id)) (cond b ((e.0, x) ∷ es) (e ∷ set_value (is_at (nat_cmp id)) es x)) ≡ Some x
    by_test true t rest = rw t refl
    by_test false t rest = rw t (rest (found_below id w e es false t there refl))

  set_other_first : (id q : ℕ) (x : X) (e : ℕ × X) (es new : List (ℕ × X)) (b : Bool) → is_at (nat_cmp id) e.0 ≡ b → q ≢ id → lookup (is_at (nat_cmp q)) new ≡ lookup (is_at (nat_cmp q)) es → lookup (is_at (nat_cmp q)) (cond b ((e.0, x) ∷ es) (e ∷ new)) ≡ lookup (is_at (nat_cmp q)) (e ∷ es)
  set_other_first id q x e es new true t apart h =
      let off : is_at (nat_cmp q) e.0 ≡ false = fails e.0 q (λ s. apart (s ∙ sym (tells_apart exact_unsigned id e.0 t))) in
      rw off refl
  set_other_first id q x e es new false t apart h = rw h refl

  set_other : (id q : ℕ) (x : X) (es : List (ℕ × X)) → q ≢ id → lookup (is_at (nat_cmp q)) (set_value (is_at (nat_cmp id)) es x) ≡ lookup (is_at (nat_cmp q)) es
  set_other id q x [] apart = refl
  set_other id q x (e ∷ es) apart = set_other_first id q x e es (set_value (is_at (nat_cmp id)) es x) (is_at (nat_cmp id) e.0) refl apart (set_other id q x es apart)

  -- an entry that was taken away
  above_none : (id : ℕ) (es : List (ℕ × X)) → Above id (keys_of es) → lookup (is_at (nat_cmp id)) es ≡ None
  above_none id [] h = refl
  above_none id (e ∷ es) h =
      let first : is_at (nat_cmp id) e.0 ≡ false = ap is_eq h.0 in
      rw first (above_none id es h.1)

  gone_first : (id : ℕ) (e : ℕ × X) (es new : List (ℕ × X)) (b : Bool) → is_at (nat_cmp id) e.0 ≡ b → Above e.0 (keys_of es) → lookup (is_at (nat_cmp id)) new ≡ None → lookup (is_at (nat_cmp id)) (cond b es (e ∷ new)) ≡ None
  gone_first id e es new true t above h = ap (λ (n : ℕ). lookup (is_at (nat_cmp n)) es) (tells_apart exact_unsigned id e.0 t) ∙ above_none e.0 es above
  gone_first id e es new false t above h = rw t h

  gone_here : (id : ℕ) (es : List (ℕ × X)) → IsStrictlySortedBy nat_cmp (keys_of es) → lookup (is_at (nat_cmp id)) (remove_entry (is_at (nat_cmp id)) es) ≡ None
  gone_here id [] sorted = refl
  gone_here id (e ∷ es) sorted =
      gone_first id e es (remove_entry (is_at (nat_cmp id)) es) (is_at (nat_cmp id) e.0) refl (sorted_head nat_cmp e.0 (keys_of es) sorted) (gone_here id es (sorted_tail nat_cmp e.0 (keys_of es) sorted))

  gone_other_first : (id q : ℕ) (e : ℕ × X) (es new : List (ℕ × X)) (b : Bool) → is_at (nat_cmp id) e.0 ≡ b → q ≢ id → lookup (is_at (nat_cmp q)) new ≡ lookup (is_at (nat_cmp q)) es → lookup (is_at (nat_cmp q)) (cond b es (e ∷ new)) ≡ lookup (is_at (nat_cmp q)) (e ∷ es)
  gone_other_first id q e es new true t apart h =
      let off : is_at (nat_cmp q) e.0 ≡ false = fails e.0 q (λ s. apart (s ∙ sym (tells_apart exact_unsigned id e.0 t))) in
      rw off refl
  gone_other_first id q e es new false t apart h = rw h refl

  gone_other : (id q : ℕ) (es : List (ℕ × X)) → q ≢ id → lookup (is_at (nat_cmp q)) (remove_entry (is_at (nat_cmp id)) es) ≡ lookup (is_at (nat_cmp q)) es
  gone_other id q [] apart = refl
  gone_other id q (e ∷ es) apart = gone_other_first id q e es (remove_entry (is_at (nat_cmp id)) es) (is_at (nat_cmp id) e.0) refl apart (gone_other id q es apart)

  -- an entry that was added
  new_first : (k : ℕ) (x : X) (e : ℕ × X) (es new : List (ℕ × X)) (o : Ordering) → nat_cmp k e.0 ≡ o → lookup (is_at (nat_cmp k)) new ≡ Some x → lookup (is_at (nat_cmp k)) (match_ordering o ((k, x) ∷ e ∷ es) ((e.0, x) ∷ es) (e ∷ new)) ≡ Some x
  new_first k x e es new Less t h = rw (passes k) refl
  new_first k x e es new Equal t h = rw t refl
  new_first k x e es new Greater t h = rw (t, h) refl

  new_here : (k : ℕ) (x : X) (es : List (ℕ × X)) → lookup (is_at (nat_cmp k)) (insert_entry nat_cmp es k x) ≡ Some x
  new_here k x [] = rw (passes k) refl
  new_here k x (e ∷ es) = new_first k x e es (insert_entry nat_cmp es k x) (nat_cmp k e.0) refl (new_here k x es)

  new_other_first : (k q : ℕ) (x : X) (e : ℕ × X) (es new : List (ℕ × X)) (o : Ordering) → nat_cmp k e.0 ≡ o → q ≢ k → lookup (is_at (nat_cmp q)) new ≡ lookup (is_at (nat_cmp q)) es → lookup (is_at (nat_cmp q)) (match_ordering o ((k, x) ∷ e ∷ es) ((e.0, x) ∷ es) (e ∷ new)) ≡ lookup (is_at (nat_cmp q)) (e ∷ es)
  new_other_first k q x e es new Less t apart h = rw (fails k q apart) refl
  new_other_first k q x e es new Equal t apart h =
      let off : is_at (nat_cmp q) e.0 ≡ false = fails e.0 q (λ s. apart (s ∙ sym (ties k e.0 t))) in
      rw off refl
  new_other_first k q x e es new Greater t apart h = rw h refl

  new_other : (k q : ℕ) (x : X) (es : List (ℕ × X)) → q ≢ k → lookup (is_at (nat_cmp q)) (insert_entry nat_cmp es k x) ≡ lookup (is_at (nat_cmp q)) es
  new_other k q x [] apart = rw (fails k q apart) refl
  new_other k q x (e ∷ es) apart = new_other_first k q x e es (insert_entry nat_cmp es k x) (nat_cmp k e.0) refl apart (new_other k q x es apart)

  -- the ids stay in their order
  sorted_cons : (e : ℕ × X) (es : List (ℕ × X)) → Above e.0 (keys_of es) → IsStrictlySortedBy nat_cmp (keys_of es) → IsStrictlySortedBy nat_cmp (keys_of (e ∷ es))
  unfolding IsStrictlySortedBy
  sorted_cons e es first rest = (first, rest)

  sorted_one : (k : ℕ) (x : X) → IsStrictlySortedBy nat_cmp (keys_of ((k, x) ∷ []))
  unfolding IsStrictlySortedBy
  sorted_one k x = (tt, tt)

  above_trans : (low k : ℕ) (es : List (ℕ × X)) → nat_cmp low k ≡ Less → Above k (keys_of es) → Above low (keys_of es)
  above_trans low k [] h above = above
  above_trans low k (e ∷ es) h above = (nat_cmp_total.trans low k e.0 h above.0, above_trans low k es h above.1)

  above_first : (low k : ℕ) (x : X) (e : ℕ × X) (es new : List (ℕ × X)) (o : Ordering) → nat_cmp low k ≡ Less → Above low (keys_of (e ∷ es)) → Above low (keys_of new) → Above low (keys_of (match_ordering o ((k, x) ∷ e ∷ es) ((e.0, x) ∷ es) (e ∷ new)))
  above_first low k x e es new Less h above inner = (h, above)
  above_first low k x e es new Equal h above inner = above
  above_first low k x e es new Greater h above inner = (above.0, inner)

  above_new : (low k : ℕ) (x : X) (es : List (ℕ × X)) → nat_cmp low k ≡ Less → Above low (keys_of es) → Above low (keys_of (insert_entry nat_cmp es k x))
  above_new low k x [] h above = (h, above)
  above_new low k x (e ∷ es) h above = above_first low k x e es (insert_entry nat_cmp es k x) (nat_cmp k e.0) h above (above_new low k x es h above.1)

  sorted_first : (k : ℕ) (x : X) (e : ℕ × X) (es new : List (ℕ × X)) (o : Ordering) → nat_cmp k e.0 ≡ o → IsStrictlySortedBy nat_cmp (keys_of (e ∷ es)) → (nat_cmp e.0 k ≡ Less → Above e.0 (keys_of new)) → IsStrictlySortedBy nat_cmp (keys_of new) → IsStrictlySortedBy nat_cmp (keys_of (match_ordering o ((k, x) ∷ e ∷ es) ((e.0, x) ∷ es) (e ∷ new)))
  sorted_first k x e es new Less h sorted low inner = sorted_cons (k, x) (e ∷ es) (h, above_trans k e.0 es h (sorted_head nat_cmp e.0 (keys_of es) sorted)) sorted
  sorted_first k x e es new Equal h sorted low inner = sorted
  sorted_first k x e es new Greater h sorted low inner = sorted_cons e new (low (greater_less k e.0 h)) inner

  new_sorted : (k : ℕ) (x : X) (es : List (ℕ × X)) → IsStrictlySortedBy nat_cmp (keys_of es) → IsStrictlySortedBy nat_cmp (keys_of (insert_entry nat_cmp es k x))
  new_sorted k x [] sorted = sorted_one k x
  new_sorted k x (e ∷ es) sorted =
      sorted_first k x e es (insert_entry nat_cmp es k x) (nat_cmp k e.0) refl sorted (λ h. above_new e.0 k x es h (sorted_head nat_cmp e.0 (keys_of es) sorted)) (new_sorted k x es (sorted_tail nat_cmp e.0 (keys_of es) sorted))

  above_gone_first : (low : ℕ) (e : ℕ × X) (es new : List (ℕ × X)) (b : Bool) → Above low (keys_of (e ∷ es)) → Above low (keys_of new) → Above low (keys_of (cond b es (e ∷ new)))
  above_gone_first low e es new true above inner = above.1
  above_gone_first low e es new false above inner = (above.0, inner)

  above_gone : (low id : ℕ) (es : List (ℕ × X)) → Above low (keys_of es) → Above low (keys_of (remove_entry (is_at (nat_cmp id)) es))
  above_gone low id [] above = above
  above_gone low id (e ∷ es) above = above_gone_first low e es (remove_entry (is_at (nat_cmp id)) es) (is_at (nat_cmp id) e.0) above (above_gone low id es above.1)

  sorted_gone_first : (e : ℕ × X) (es new : List (ℕ × X)) (b : Bool) → IsStrictlySortedBy nat_cmp (keys_of es) → Above e.0 (keys_of new) → IsStrictlySortedBy nat_cmp (keys_of new) → IsStrictlySortedBy nat_cmp (keys_of (cond b es (e ∷ new)))
  sorted_gone_first e es new true sorted low inner = sorted
  sorted_gone_first e es new false sorted low inner = sorted_cons e new low inner

  gone_sorted : (id : ℕ) (es : List (ℕ × X)) → IsStrictlySortedBy nat_cmp (keys_of es) → IsStrictlySortedBy nat_cmp (keys_of (remove_entry (is_at (nat_cmp id)) es))
  gone_sorted id [] sorted = sorted
  gone_sorted id (e ∷ es) sorted =
      sorted_gone_first e es (remove_entry (is_at (nat_cmp id)) es) (is_at (nat_cmp id) e.0) (sorted_tail nat_cmp e.0 (keys_of es) sorted) (above_gone e.0 id es (sorted_head nat_cmp e.0 (keys_of es) sorted)) (gone_sorted id es (sorted_tail nat_cmp e.0 (keys_of es) sorted))

  -- whether some value passes a test
  any_found : (f : X → Bool) (id : ℕ) (x : X) (es : List (ℕ × X)) → lookup (is_at (nat_cmp id)) es ≡ Some x → f x ≡ true → list_any f (values_of es) ≡ true
  any_found f id x [] there t = absurd (false≢true (ap is_some there))
  any_found f id x (e ∷ es) there t = by_test (is_at (nat_cmp id) e.0) refl (λ h. any_found f id x es h t) where
    by_test : (b : Bool) → is_at (nat_cmp id) e.0 ≡ b → (lookup (is_at (nat_cmp id)) es ≡ Some x → list_any f (values_of es) ≡ true) → (f e.1 || list_any f (values_of es)) ≡ true
    by_test true h rest =
        let same : Some e.1 ≡ Some x = sym (ap (λ (c : Bool). cond c (Some e.1) (lookup (is_at (nat_cmp id)) es)) h) ∙ there in
        let one : e.1 ≡ x = cc in
        or_left (f e.1) (list_any f (values_of es)) (ap f one ∙ t)
    by_test false h rest = or_right (f e.1) (list_any f (values_of es)) (rest (found_below id x e es false h there refl))

  any_set : (f : X → Bool) (id : ℕ) (x w : X) (es : List (ℕ × X)) → lookup (is_at (nat_cmp id)) es ≡ Some w → f x ≡ f w → list_any f (values_of (set_value (is_at (nat_cmp id)) es x)) ≡ list_any f (values_of es)
  any_set f id x w [] there t = refl
  any_set f id x w (e ∷ es) there t = by_test (is_at (nat_cmp id) e.0) refl (λ h. any_set f id x w es h t) where
    by_test : (b : Bool) → is_at (nat_cmp id) e.0 ≡ b → (lookup (is_at (nat_cmp id)) es ≡ Some w → list_any f (values_of (set_value (is_at (nat_cmp id)) es x)) ≡ list_any f (values_of es)) → list_any f (values_of (cond b ((e.0, x) ∷ es) (e ∷ set_value (is_at (nat_cmp id)) es x))) ≡ (f e.1 || list_any f (values_of es))
    by_test true h rest =
        let same : Some e.1 ≡ Some w = sym (ap (λ (c : Bool). cond c (Some e.1) (lookup (is_at (nat_cmp id)) es)) h) ∙ there in
        let one : e.1 ≡ w = cc in
        ap (λ (b : Bool). b || list_any f (values_of es)) (t ∙ ap f (sym one))
    by_test false h rest = ap (λ (b : Bool). f e.1 || b) (rest (found_below id w e es false h there refl))

  any_gone : (f : X → Bool) (id : ℕ) (w : X) (es : List (ℕ × X)) → lookup (is_at (nat_cmp id)) es ≡ Some w → f w ≡ false → list_any f (values_of (remove_entry (is_at (nat_cmp id)) es)) ≡ list_any f (values_of es)
  any_gone f id w [] there t = refl
  any_gone f id w (e ∷ es) there t = by_test (is_at (nat_cmp id) e.0) refl (λ h. any_gone f id w es h t) where
    by_test : (b : Bool) → is_at (nat_cmp id) e.0 ≡ b → (lookup (is_at (nat_cmp id)) es ≡ Some w → list_any f (values_of (remove_entry (is_at (nat_cmp id)) es)) ≡ list_any f (values_of es)) → list_any f (values_of (cond b es (e ∷ remove_entry (is_at (nat_cmp id)) es))) ≡ (f e.1 || list_any f (values_of es))
    by_test true h rest =
        let same : Some e.1 ≡ Some w = sym (ap (λ (c : Bool). cond c (Some e.1) (lookup (is_at (nat_cmp id)) es)) h) ∙ there in
        let one : e.1 ≡ w = cc in
        sym (ap (λ (b : Bool). b || list_any f (values_of es)) (ap f one ∙ t))
    by_test false h rest = ap (λ (b : Bool). f e.1 || b) (rest (found_below id w e es false h there refl))

  any_new_first : (f : X → Bool) (k : ℕ) (x : X) (e : ℕ × X) (es new : List (ℕ × X)) (o : Ordering) → nat_cmp k e.0 ≡ o → k ≢ e.0 → (f e.1 || list_any f (values_of es)) ≡ true → (list_any f (values_of es) ≡ true → list_any f (values_of new) ≡ true) → list_any f (values_of (match_ordering o ((k, x) ∷ e ∷ es) ((e.0, x) ∷ es) (e ∷ new))) ≡ true
  any_new_first f k x e es new Less t apart h rest = or_right (f x) (f e.1 || list_any f (values_of es)) h
  any_new_first f k x e es new Equal t apart h rest = absurd (apart (ties k e.0 t))
  any_new_first f k x e es new Greater t apart h rest = elim (or_cases (f e.1) (list_any f (values_of es)) h) [
    | inl first ↦ or_left (f e.1) (list_any f (values_of new)) first
    | inr later ↦ or_right (f e.1) (list_any f (values_of new)) (rest later)
  ]

  not_first : (k : ℕ) (e : ℕ × X) (es : List (ℕ × X)) → lookup (is_at (nat_cmp k)) (e ∷ es) ≡ None → (k ≢ e.0) × (lookup (is_at (nat_cmp k)) es ≡ None)
  not_first k e es none = by_test (is_at (nat_cmp k) e.0) refl where
    by_test : (b : Bool) → is_at (nat_cmp k) e.0 ≡ b → (k ≢ e.0) × (lookup (is_at (nat_cmp k)) es ≡ None)
    by_test true t = absurd (false≢true (ap is_some (sym none ∙ ap (λ (c : Bool). cond c (Some e.1) (lookup (is_at (nat_cmp k)) es)) t)))
    by_test false t = (λ s. false≢true (sym t ∙ ap (λ (n : ℕ). is_at (nat_cmp k) n) (sym s) ∙ passes k), sym (ap (λ (c : Bool). cond c (Some e.1) (lookup (is_at (nat_cmp k)) es)) t) ∙ none)

  any_new : (f : X → Bool) (k : ℕ) (x : X) (es : List (ℕ × X)) → lookup (is_at (nat_cmp k)) es ≡ None → list_any f (values_of es) ≡ true → list_any f (values_of (insert_entry nat_cmp es k x)) ≡ true
  any_new f k x [] none h = absurd (false≢true h)
  any_new f k x (e ∷ es) none h =
      let apart = not_first k e es none in
      any_new_first f k x e es (insert_entry nat_cmp es k x) (nat_cmp k e.0) refl apart.0 h (any_new f k x es apart.1)

  -- the three changes of a table
  pub changed_here : (table : Table X) (id : ℕ) (x w : X) → row_at table id ≡ Some w → row_at (with_row table id x) id ≡ Some x
  changed_here table id x w there = set_here id x w table.entries there

  pub changed_other : (table : Table X) (id q : ℕ) (x : X) → q ≢ id → row_at (with_row table id x) q ≡ row_at table q
  changed_other table id q x apart = set_other id q x table.entries apart

  pub removed_here : (table : Table X) (id number : ℕ) → AreIdsOf number table → row_at (without_row table id) id ≡ None
  removed_here table id number ids = gone_here id table.entries ids.once

  pub removed_other : (table : Table X) (id q : ℕ) → q ≢ id → row_at (without_row table id) q ≡ row_at table q
  removed_other table id q apart = gone_other id q table.entries apart

  pub added_here : (table : Table X) (x : X) → row_at (with_next_row table x) table.next ≡ Some x
  added_here table x = new_here table.next x table.entries

  pub added_other : (table : Table X) (q : ℕ) (x : X) → q ≢ table.next → row_at (with_next_row table x) q ≡ row_at table q
  added_other table q x apart = new_other table.next q x table.entries apart

  pub fresh_of : (table : Table X) (number : ℕ) → AreIdsOf number table → IsFresh table
  fresh_of table number ids id there = (ids.given id there).0

  pub next_is_none : (table : Table X) (number : ℕ) → AreIdsOf number table → row_at table table.next ≡ None
  next_is_none table number ids = next_names_nothing table (fresh_of table number ids)

  pub some_found : (f : X → Bool) (table : Table X) (id : ℕ) (x : X) → row_at table id ≡ Some x → f x ≡ true → list_any f (rows table) ≡ true
  some_found f table id x there t = any_found f id x table.entries there t

  pub some_changed : (f : X → Bool) (table : Table X) (id : ℕ) (x w : X) → row_at table id ≡ Some w → f x ≡ f w → list_any f (rows (with_row table id x)) ≡ list_any f (rows table)
  some_changed f table id x w there t = any_set f id x w table.entries there t

  pub some_removed : (f : X → Bool) (table : Table X) (id : ℕ) (w : X) → row_at table id ≡ Some w → f w ≡ false → list_any f (rows (without_row table id)) ≡ list_any f (rows table)
  some_removed f table id w there t = any_gone f id w table.entries there t

  pub some_added : (f : X → Bool) (table : Table X) (x : X) (number : ℕ) → AreIdsOf number table → list_any f (rows table) ≡ true → list_any f (rows (with_next_row table x)) ≡ true
  some_added f table x number ids h = any_new f table.next x table.entries (next_is_none table number ids) h

  pub changed_ids : (table : Table X) (id number : ℕ) (x w : X) → row_at table id ≡ Some w → AreIdsOf number table → AreIdsOf number (with_row table id x)
  changed_ids table id number x w there ids = record {
    given = λ q some. elim (cases_eq q id) [
      | inl same ↦ ids.given q (ap (λ (n : ℕ). is_some (row_at table n)) same ∙ ap is_some there)
      | inr apart ↦ ids.given q (ap is_some (sym (changed_other table id q x apart)) ∙ some)
    ];
    next = ids.next;
    once = subst (λ (ks : List ℕ). IsStrictlySortedBy nat_cmp ks) (sym (keys-set_value (is_at (nat_cmp id)) table.entries x)) ids.once;
  }

  pub removed_ids : (table : Table X) (id number : ℕ) → AreIdsOf number table → AreIdsOf number (without_row table id)
  removed_ids table id number ids = record {
    given = λ q some. elim (cases_eq q id) [
      | inl same ↦ absurd (false≢true (sym (ap is_some (ap (λ (n : ℕ). row_at (without_row table id) n) same ∙ removed_here table id number ids)) ∙ some))
      | inr apart ↦ ids.given q (ap is_some (sym (removed_other table id q apart)) ∙ some)
    ];
    next = ids.next;
    once = gone_sorted id table.entries ids.once;
  }

  pub added_ids : (table : Table X) (number : ℕ) (x : X) → AreIdsOf number table → AreIdsOf number (with_next_row table x)
  added_ids table number x ids = record {
    given = λ q some. elim (cases_eq q table.next) [
      | inl same ↦ (omega arith, ap (λ (n : ℕ). n % 4) same ∙ ids.next)
      | inr apart ↦
          let was = ids.given q (ap is_some (sym (added_other table q x apart)) ∙ some) in
          (omega (arith, was.0), was.1)
    ];
    next = omega (arith, ids.next);
    once = new_sorted table.next x table.entries ids.once;
  }
