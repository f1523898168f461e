-- The entries of a directory after one was entered or taken out.
use Rattle.std.proofs.Common.{◌≡◌, ◌≢◌, ℕ, Bool, true, false, cond, ◌⊎◌, inl, inr, List, [], ◌∷◌, Option, None, Some, refl, sym, ap, subst, ◌∙◌}
use Rattle.std.specs.declared.cmp.Ordering.{Ordering}
use Rattle.std.specs.declared.cmp.Ordering.TheVariants.{Less, Equal, Greater}
use Rattle.std.specs.Ordering.{is_eq, match_ordering, ordering_reverse}
use Rattle.std.specs.Cmp.Lexicographic.{nat_list_cmp_total}
use Rattle.std.specs.List.{AllByRecursion}
use Rattle.std.specs.List.Sorted.{IsStrictlySortedBy}
use Rattle.std.specs.Map.{keys_of, lookup, remove_entry}
use Rattle.std.specs.BTreeMap.{insert_entry, is_at}
use Rattle.std.proofs.lemmas.Cmp.{tied_itself}
use Rattle.std.proofs.lemmas.Map.Keys.{sorted_head, sorted_tail}
use Rattle.std.proofs.lemmas.Map.Lookups.{exact_bytes}
use Rattle.name_store.specs.declared.operation.Node.{Node}
use Rattle.name_store.specs.NameTrees.{byte_order}

abbrev pub Entries : Type 0
Entries = List (List ℕ × Node)

-- what stands under a name
abbrev pub at : List ℕ → Entries → Option Node
at name entries = lookup (is_at (byte_order name)) entries

tied : (name : List ℕ) → byte_order name name ≡ Equal
tied name = tied_itself nat_list_cmp_total name

same_tied : (first second : List ℕ) (o : Ordering) → byte_order first second ≡ o → is_eq o ≡ true → first ≡ second
same_tied first second Less h e = cc
same_tied first second Equal h e = exact_bytes first second h
same_tied first second Greater h e = cc

-- two names are one, or apart
pub same_name : (first second : List ℕ) → (first ≡ second) ⊎ (is_at (byte_order first) second ≡ false)
same_name first second = by_test (is_at (byte_order first) second) refl
  where
    by_test : (b : Bool) → is_at (byte_order first) second ≡ b → (first ≡ second) ⊎ (is_at (byte_order first) second ≡ false)
    by_test true h = inl (same_tied first second (byte_order first second) refl h)
    by_test false h = inr h

-- names that are apart are not one
pub apart_names : (first second : List ℕ) → is_at (byte_order first) second ≡ false → first ≢ second
apart_names first second h e =
    let one : is_at (byte_order first) second ≡ true = ap (λ (n : List ℕ). is_at (byte_order first) n) (sym e) ∙ ap is_eq (tied first) in
    cc

pub test_apart : (first second : List ℕ) → first ≢ second → is_at (byte_order first) second ≡ false
test_apart first second ne = elim (same_name first second) [ inl e ↦ absurd (ne e) | inr h ↦ h ]

entered_step : (name : List ℕ) (node : Node) (entry : List ℕ × Node) (entries rest : Entries) (o : Ordering) → byte_order name entry.0 ≡ o → at name rest ≡ Some node → at name (match_ordering o ((name, node) ∷ entry ∷ entries) ((entry.0, node) ∷ entries) (entry ∷ rest)) ≡ Some node
entered_step name node entry entries rest Less h found = rw (tied name) refl
entered_step name node entry entries rest Equal h found = rw h refl
entered_step name node entry entries rest Greater h found = rw h found

-- the new entry is found
pub entered_here : (entries : Entries) (name : List ℕ) (node : Node) → at name (insert_entry byte_order entries name node) ≡ Some node
entered_here [] name node = rw (tied name) refl
entered_here (entry ∷ entries) name node = entered_step name node entry entries _ (byte_order name entry.0) refl (entered_here entries name node)

other_step : (name other : List ℕ) (node : Node) (entry : List ℕ × Node) (entries rest : Entries) (o : Ordering) → is_at (byte_order other) name ≡ false → byte_order name entry.0 ≡ o → at other rest ≡ at other entries → at other (match_ordering o ((name, node) ∷ entry ∷ entries) ((entry.0, node) ∷ entries) (entry ∷ rest)) ≡ at other (entry ∷ entries)
other_step name other node entry entries rest Less apart h found = rw apart refl
other_step name other node entry entries rest Equal apart h found =
    let passes : is_at (byte_order other) entry.0 ≡ false = subst (λ (k : List ℕ). is_at (byte_order other) k ≡ false) (exact_bytes name entry.0 h) apart in
    rw passes refl
other_step name other node entry entries rest Greater apart h found = rw found refl

-- an entry of another name is found as before
entered_other_test : (entries : Entries) (name other : List ℕ) (node : Node) → is_at (byte_order other) name ≡ false → at other (insert_entry byte_order entries name node) ≡ at other entries
entered_other_test [] name other node apart = rw apart refl
entered_other_test (entry ∷ entries) name other node apart =
    other_step name other node entry entries _ (byte_order name entry.0) apart refl (entered_other_test entries name other node apart)

pub entered_other : (entries : Entries) (name other : List ℕ) (node : Node) → other ≢ name → at other (insert_entry byte_order entries name node) ≡ at other entries
entered_other entries name other node ne = entered_other_test entries name other node (test_apart other name ne)

-- a name that is below all others is not among them
pub absent_below : (name : List ℕ) (entries : Entries) → AllByRecursion (λ other. byte_order name other ≡ Less) (keys_of entries) → at name entries ≡ None
absent_below name [] h = refl
absent_below name (entry ∷ entries) h =
    let first : is_at (byte_order name) entry.0 ≡ false = ap is_eq h.0 in
    rw first (absent_below name entries h.1)

removed_step : (name : List ℕ) (entry : List ℕ × Node) (entries rest : Entries) (b : Bool) → is_at (byte_order name) entry.0 ≡ b → AllByRecursion (λ other. byte_order entry.0 other ≡ Less) (keys_of entries) → at name rest ≡ None → at name (cond b entries (entry ∷ rest)) ≡ None
removed_step name entry entries rest true h above none =
    let same : name ≡ entry.0 = same_tied name entry.0 (byte_order name entry.0) refl h in
    ap (λ (n : List ℕ). at n entries) same ∙ absent_below entry.0 entries above
removed_step name entry entries rest false h above none = rw h none

-- an entry that was taken out is not found
pub removed_here : (entries : Entries) (name : List ℕ) → IsStrictlySortedBy byte_order (keys_of entries) → at name (remove_entry (is_at (byte_order name)) entries) ≡ None
removed_here [] name sorted = refl
removed_here (entry ∷ entries) name sorted =
    removed_step name entry entries _ (is_at (byte_order name) entry.0) refl (sorted_head byte_order entry.0 (keys_of entries) sorted)
    (removed_here entries name (sorted_tail byte_order entry.0 (keys_of entries) sorted))

removed_other_step : (name other : List ℕ) (entry : List ℕ × Node) (entries rest : Entries) (b : Bool) → is_at (byte_order name) entry.0 ≡ b → other ≢ name → at other rest ≡ at other entries → at other (cond b entries (entry ∷ rest)) ≡ at other (entry ∷ entries)
removed_other_step name other entry entries rest true h ne found =
    let same : name ≡ entry.0 = same_tied name entry.0 (byte_order name entry.0) refl h in
    let passes : is_at (byte_order other) entry.0 ≡ false = test_apart other entry.0 (λ e. ne (e ∙ sym same)) in
    rw passes refl
removed_other_step name other entry entries rest false h ne found = rw found refl

-- an entry of another name is found as before
pub removed_other : (entries : Entries) (name other : List ℕ) → other ≢ name → at other (remove_entry (is_at (byte_order name)) entries) ≡ at other entries
removed_other [] name other ne = refl
removed_other (entry ∷ entries) name other ne =
    removed_other_step name other entry entries _ (is_at (byte_order name) entry.0) refl ne (removed_other entries name other ne)

-- names below which others stand
abbrev Below : List ℕ → Entries → Type 0
Below low entries = AllByRecursion (λ other. byte_order low other ≡ Less) (keys_of entries)

sorted_cons : (entry : List ℕ × Node) (entries : Entries) → Below entry.0 entries → IsStrictlySortedBy byte_order (keys_of entries) → IsStrictlySortedBy byte_order (keys_of (entry ∷ entries))
unfolding IsStrictlySortedBy
sorted_cons entry entries first rest = (first, rest)

below_trans : (low name : List ℕ) (entries : Entries) → byte_order low name ≡ Less → Below name entries → Below low entries
below_trans low name [] h below = below
below_trans low name (entry ∷ entries) h below = (nat_list_cmp_total.trans low name entry.0 h below.0, below_trans low name entries h below.1)

below_step : (low name : List ℕ) (node : Node) (entry : List ℕ × Node) (entries rest : Entries) (o : Ordering) → byte_order low name ≡ Less → Below low (entry ∷ entries) → Below low rest → Below low (match_ordering o ((name, node) ∷ entry ∷ entries) ((entry.0, node) ∷ entries) (entry ∷ rest))
below_step low name node entry entries rest Less h below inner = (h, below)
below_step low name node entry entries rest Equal h below inner = below
below_step low name node entry entries rest Greater h below inner = (below.0, inner)

below_entered : (low name : List ℕ) (node : Node) (entries : Entries) → byte_order low name ≡ Less → Below low entries → Below low (insert_entry byte_order entries name node)
below_entered low name node [] h below = (h, below)
below_entered low name node (entry ∷ entries) h below =
    below_step low name node entry entries _ (byte_order name entry.0) h below (below_entered low name node entries h below.1)

greater_less : (first second : List ℕ) → byte_order first second ≡ Greater → byte_order second first ≡ Less
greater_less first second h = nat_list_cmp_total.antisymm second first ∙ ap ordering_reverse h

sorted_step : (name : List ℕ) (node : Node) (entry : List ℕ × Node) (entries rest : Entries) (o : Ordering) → byte_order name entry.0 ≡ o → IsStrictlySortedBy byte_order (keys_of (entry ∷ entries)) → (byte_order entry.0 name ≡ Less → Below entry.0 rest) → IsStrictlySortedBy byte_order (keys_of rest) → IsStrictlySortedBy byte_order (keys_of (match_ordering o ((name, node) ∷ entry ∷ entries) ((entry.0, node) ∷ entries) (entry ∷ rest)))
sorted_step name node entry entries rest Less h sorted low inner =
    sorted_cons (name, node) (entry ∷ entries) (h, below_trans name entry.0 entries h (sorted_head byte_order entry.0 (keys_of entries) sorted)) sorted
sorted_step name node entry entries rest Equal h sorted low inner = sorted
sorted_step name node entry entries rest Greater h sorted low inner = sorted_cons entry rest (low (greater_less name entry.0 h)) inner

sorted_one : (name : List ℕ) → IsStrictlySortedBy byte_order (name ∷ [])
unfolding IsStrictlySortedBy
sorted_one name = (tt, tt)

-- entries stay in order where one is entered
pub entered_sorted : (entries : Entries) (name : List ℕ) (node : Node) → IsStrictlySortedBy byte_order (keys_of entries) → IsStrictlySortedBy byte_order (keys_of (insert_entry byte_order entries name node))
entered_sorted [] name node sorted = sorted_one name
entered_sorted (entry ∷ entries) name node sorted =
    sorted_step name node entry entries _ (byte_order name entry.0) refl sorted
    (λ h. below_entered entry.0 name node entries h (sorted_head byte_order entry.0 (keys_of entries) sorted))
    (entered_sorted entries name node (sorted_tail byte_order entry.0 (keys_of entries) sorted))

below_removed_step : (low : List ℕ) (entry : List ℕ × Node) (entries rest : Entries) (b : Bool) → Below low (entry ∷ entries) → Below low rest → Below low (cond b entries (entry ∷ rest))
below_removed_step low entry entries rest true below inner = below.1
below_removed_step low entry entries rest false below inner = (below.0, inner)

below_removed : (low name : List ℕ) (entries : Entries) → Below low entries → Below low (remove_entry (is_at (byte_order name)) entries)
below_removed low name [] below = below
below_removed low name (entry ∷ entries) below =
    below_removed_step low entry entries _ (is_at (byte_order name) entry.0) below (below_removed low name entries below.1)

removed_sorted_step : (entry : List ℕ × Node) (entries rest : Entries) (b : Bool) → IsStrictlySortedBy byte_order (keys_of entries) → Below entry.0 rest → IsStrictlySortedBy byte_order (keys_of rest) → IsStrictlySortedBy byte_order (keys_of (cond b entries (entry ∷ rest)))
removed_sorted_step entry entries rest true sorted low inner = sorted
removed_sorted_step entry entries rest false sorted low inner = sorted_cons entry rest low inner

-- and where one is taken out
pub removed_sorted : (entries : Entries) (name : List ℕ) → IsStrictlySortedBy byte_order (keys_of entries) → IsStrictlySortedBy byte_order (keys_of (remove_entry (is_at (byte_order name)) entries))
removed_sorted [] name sorted = sorted
removed_sorted (entry ∷ entries) name sorted =
    removed_sorted_step entry entries _ (is_at (byte_order name) entry.0) (sorted_tail byte_order entry.0 (keys_of entries) sorted)
    (below_removed entry.0 name entries (sorted_head byte_order entry.0 (keys_of entries) sorted))
    (removed_sorted entries name (sorted_tail byte_order entry.0 (keys_of entries) sorted))

-- the first entry stands under its name
pub at_first : (entry : List ℕ × Node) (entries : Entries) → at entry.0 (entry ∷ entries) ≡ Some entry.1
at_first entry entries = rw (tied entry.0) refl

-- what stands in the entries after the first stands in all of them, and under another name than the first
pub at_later : (entry : List ℕ × Node) (entries : Entries) (name : List ℕ) (node : Node) → IsStrictlySortedBy byte_order (keys_of (entry ∷ entries)) → at name entries ≡ Some node → (name ≢ entry.0) × (at name (entry ∷ entries) ≡ Some node)
at_later entry entries name node sorted h =
    let none : at entry.0 entries ≡ None = absent_below entry.0 entries (sorted_head byte_order entry.0 (keys_of entries) sorted) in
    let ne : name ≢ entry.0 = λ e. (let clash : Some node ≡ None = sym h ∙ ap (λ (n : List ℕ). at n entries) e ∙ none in cc) in
    let passes : is_at (byte_order name) entry.0 ≡ false = test_apart name entry.0 ne in
    (ne, ap (λ (b : Bool). cond b (Some entry.1) (at name entries)) passes ∙ h)

-- what stands in all of them under another name than the first stands in those after it
pub at_other : (entry : List ℕ × Node) (entries : Entries) (name : List ℕ) (node : Node) → name ≢ entry.0 → at name (entry ∷ entries) ≡ Some node → at name entries ≡ Some node
at_other entry entries name node ne h =
    let passes : is_at (byte_order name) entry.0 ≡ false = test_apart name entry.0 ne in
    sym (ap (λ (b : Bool). cond b (Some entry.1) (at name entries)) passes) ∙ h
