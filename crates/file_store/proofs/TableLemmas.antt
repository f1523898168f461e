-- Lemmas on tables.
use Rattle.std.proofs.Common.{◌≡◌, ℕ, ◌+◌, ◌<◌, Bool, true, false, cond, List, [], ◌∷◌, Option, None, Some, is_some, IsSome, nat_cmp, refl, sym, ap, ◌∙◌, inl, inr, arith}
use Rattle.std.specs.declared.cmp.Ordering.TheVariants.{Less, Equal, Greater}
use Rattle.std.specs.declared.cmp.Ordering.{Ordering}
use Rattle.std.specs.Ordering.{is_eq, match_ordering}
use Rattle.std.specs.Map.{lookup, remove_entry, set_value}
use Rattle.std.specs.BTreeMap.{insert_entry, is_at}
use Rattle.std.proofs.lemmas.Bool.{false≢true, cases_eq}
use Rattle.std.proofs.lemmas.Bool.Decides.{nat_tests}
use Rattle.std.specs.List.{list_any}
use Rattle.std.proofs.lemmas.Map.{keys-set_value}
use Rattle.std.proofs.lemmas.Map.Made.{is_some-lookup}
use Rattle.file_store.specs.Tables.{Table, row_at, IsFresh, with_next_row, with_row, without_row}

same_key : (k : ℕ) → is_at (nat_cmp k) k ≡ true
same_key k = grind (arith, nat_tests)

module _ {X : Type 0} where
  -- what was put under an id that named nothing is taken away again
  removed_first : (e : ℕ × X) (es : List (ℕ × X)) (k : ℕ) (x : X) → lookup (is_at (nat_cmp k)) (e ∷ es) ≡ None → (lookup (is_at (nat_cmp k)) es ≡ None → remove_entry (is_at (nat_cmp k)) (insert_entry nat_cmp es k x) ≡ es) → (o : Ordering) → nat_cmp k e.0 ≡ o → remove_entry (is_at (nat_cmp k)) (match_ordering o ((k, x) ∷ e ∷ es) ((e.0, x) ∷ es) (e ∷ insert_entry nat_cmp es k x)) ≡ e ∷ es
  removed_first e es k x none rest Less o = ap (λ (b : Bool). cond b (e ∷ es) ((k, x) ∷ remove_entry (is_at (nat_cmp k)) (e ∷ es))) (same_key k)
  removed_first e es k x none rest Equal o = absurd (false≢true (ap is_some (sym none) ∙ ap (λ (p : Ordering). is_some (cond (is_eq p) (Some e.1) (lookup (is_at (nat_cmp k)) es))) o))
  removed_first e es k x none rest Greater o =
      let below : lookup (is_at (nat_cmp k)) es ≡ None = sym (ap (λ (p : Ordering). cond (is_eq p) (Some e.1) (lookup (is_at (nat_cmp k)) es)) o) ∙ none in
      ap (λ (p : Ordering). cond (is_eq p) (insert_entry nat_cmp es k x) (e ∷ remove_entry (is_at (nat_cmp k)) (insert_entry nat_cmp es k x))) o
      ∙ ap (λ (fs : List (ℕ × X)). e ∷ fs) (rest below)

  removed_added : (es : List (ℕ × X)) (k : ℕ) (x : X) → lookup (is_at (nat_cmp k)) es ≡ None → remove_entry (is_at (nat_cmp k)) (insert_entry nat_cmp es k x) ≡ es
  removed_added [] k x none = ap (λ (b : Bool). cond b [] ((k, x) ∷ [])) (same_key k)
  removed_added (e ∷ es) k x none = removed_first e es k x none (removed_added es k x) (nat_cmp k e.0) refl

  -- the next id names nothing
  pub next_names_nothing : (table : Table X) → IsFresh table → row_at table table.next ≡ None
  next_names_nothing table fresh = by_cases (row_at table table.next) refl where
    by_cases : (found : Option X) → row_at table table.next ≡ found → found ≡ None
    by_cases None e = refl
    by_cases (Some x) e = absurd (omega (arith, fresh table.next (ap is_some e)))

  pub undone : (table : Table X) (id : ℕ) (before : Table X) (x : X) → IsFresh before → id ≡ before.next → table ≡ with_next_row before x → remove_entry (is_at (nat_cmp id)) table.entries ≡ before.entries
  undone table id before x fresh e added_to =
      ap (λ (k : ℕ). remove_entry (is_at (nat_cmp k)) table.entries) e
      ∙ ap (λ (t : Table X). remove_entry (is_at (nat_cmp before.next)) t.entries) added_to
      ∙ removed_added before.entries before.next x (next_names_nothing before fresh)

  -- a change of what an id names keeps which ids name something
  pub fresh_other : (table : Table X) (id : ℕ) (x : X) → IsFresh table → IsFresh (with_row table id x)
  fresh_other table id x fresh q some =
      fresh q (is_some-lookup (is_at (nat_cmp q)) table.entries
      ∙ ap (λ (ks : List ℕ). list_any (is_at (nat_cmp q)) ks) (sym (keys-set_value (is_at (nat_cmp id)) table.entries x))
      ∙ sym (is_some-lookup (is_at (nat_cmp q)) (set_value (is_at (nat_cmp id)) table.entries x))
      ∙ some)

  still_first : (test : ℕ → Bool) (q : ℕ) (e : ℕ × X) (es : List (ℕ × X)) → (IsSome (lookup (is_at (nat_cmp q)) (remove_entry test es)) → IsSome (lookup (is_at (nat_cmp q)) es)) → (a b : Bool) → test e.0 ≡ a → is_at (nat_cmp q) e.0 ≡ b → is_some (lookup (is_at (nat_cmp q)) (remove_entry test (e ∷ es))) ≡ true → is_some (cond b (Some e.1) (lookup (is_at (nat_cmp q)) es)) ≡ true
  still_first test q e es rest a true ea eb h = refl
  still_first test q e es rest true false ea eb h = sym (ap (λ (c : Bool). is_some (lookup (is_at (nat_cmp q)) (cond c es (e ∷ remove_entry test es)))) ea) ∙ h
  still_first test q e es rest false false ea eb h =
      rest (sym (ap (λ (c : Bool). is_some (cond c (Some e.1) (lookup (is_at (nat_cmp q)) (remove_entry test es)))) eb) ∙ sym (ap (λ (c : Bool). is_some (lookup (is_at (nat_cmp q)) (cond c es (e ∷ remove_entry test es)))) ea) ∙ h)

  still_there : (test : ℕ → Bool) (q : ℕ) (es : List (ℕ × X)) → IsSome (lookup (is_at (nat_cmp q)) (remove_entry test es)) → IsSome (lookup (is_at (nat_cmp q)) es)
  still_there test q [] some = some
  still_there test q (e ∷ es) some = still_first test q e es (still_there test q es) (test e.0) (is_at (nat_cmp q) e.0) refl refl some

  pub fresh_without : (table : Table X) (id : ℕ) → IsFresh table → IsFresh (without_row table id)
  fresh_without table id fresh q some = fresh q (still_there (is_at (nat_cmp id)) q table.entries some)

  -- one more entry
  pub fresh_added : (table : Table X) (new : List (ℕ × X)) (x : X) → ((q : ℕ) → lookup (is_at (nat_cmp q)) new ≡ cond (is_at (nat_cmp table.next) q) (Some x) (row_at table q)) → IsFresh table → (id : ℕ) → IsSome (lookup (is_at (nat_cmp id)) new) → id < table.next + 4
  fresh_added table new x found fresh id some =
      elim (cases_eq table.next id) [
        | inl same ↦ omega arith
        | inr other ↦
            let apart : is_at (nat_cmp table.next) id ≡ false = grind (arith, nat_tests) in
            omega (arith, fresh id (sym (ap is_some (found id ∙ ap (λ (b : Bool). cond b (Some x) (row_at table id)) apart)) ∙ some))
      ]
