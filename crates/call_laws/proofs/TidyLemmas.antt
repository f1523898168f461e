-- Stores stay tidy where a number, or the descriptions of a group, change.
use Rattle.std.specs.List.{list_any}
use Rattle.std.specs.Prelude.{slice_get, unwrap_or}
use Rattle.std.proofs.Common.{◌≡◌, ◌≢◌, inl, inr, ℕ, ◌%◌, ◌==◌, ◌&&◌, ◌||◌, zero, suc, Bool, true, false, List, [], ◌∷◌, Some, is_some, slice_get, slice_set, unwrap_or, refl, sym, ap, subst, ◌∙◌}
use Rattle.std.proofs.lemmas.Bool.{false≢true}
use Rattle.std.proofs.lemmas.Bool.Decides.{Decides-eqb}
use Rattle.wf_core.specs.Limits.{group_count}
use Rattle.name_store.specs.NameTrees.{Tree}
use Rattle.name_store.proofs.Changes.{same_id}
use Rattle.file_store.specs.declared.descriptor_operation.Slot.{Slot}
use Rattle.file_store.specs.declared.descriptor_operation.Slot.TheVariants as slot
use Rattle.file_store.specs.DescriptorMap.{with_slot, Map, is_description_open, is_number_of, slot_at}
use Rattle.file_store.specs.declared.file.Description.{Description}
use Rattle.file_store.specs.declared.file_operation.FileOp.{FileOp}
use Rattle.file_store.specs.declared.file_operation.FileOp.TheVariants as op
use Rattle.file_store.specs.Tables.{Table, row_at, with_row}
use Rattle.file_store.specs.FileGroups.{Group, FilesOutcome, description_at, fstep, opening}
use Rattle.file_store.proofs.TableChanges.{changed_here, changed_other}
use Rattle.file_store.proofs.StepCases.{Ways, step_way}
use Rattle.path_walk.specs.Store.{Backend, Store, backend_at, group_at, with_group, with_names}
use Rattle.call_laws.specs.RunLaws.{IsTidy}
use Rattle.call_laws.proofs.StoreLemmas.{no_backend}
use Rattle.call_laws.proofs.GroupLemmas.{groups_named}

-- What is read after a change is the new value or what was there.

set_either : {X : Type 0} (xs : List X) (i j : ℕ) (new default : X) (P : X → Type 0) → (j ≡ i → P new) → P (unwrap_or (slice_get xs j) default) → P (unwrap_or (slice_get (slice_set xs i new) j) default)
set_either [] i j new default P first h = h
set_either (x ∷ xs) zero zero new default P first h = first refl
set_either (x ∷ xs) zero (suc j) new default P first h = h
set_either (x ∷ xs) (suc i) zero new default P first h = h
set_either (x ∷ xs) (suc i) (suc j) new default P first h = set_either xs i j new default P (λ e. first (ap suc e)) h

pub group_either : (store : Store) (backend number : ℕ) (new : Group) (other g : ℕ) (P : Group → Type 0) → (other ≡ backend → g ≡ number → P new) → P (group_at store other g) → P (group_at (with_group store backend number new) other g)
group_either store backend number new other g P first h =
    set_either store.backends backend other (record (backend_at store backend) { groups = slice_set (backend_at store backend).groups number new }) no_backend (λ (b : Backend). P (unwrap_or (slice_get b.groups g) (opening g)))
    (λ e. set_either (backend_at store backend).groups number g new (opening g) P (first e) (subst (λ (b : ℕ). P (group_at store b g)) e h)) h

abbrev pub is_there : Store → ℕ → ℕ → Bool
is_there store backend description = is_some (description_at (group_at store backend (description % group_count)) description)

pub tidy_same : (old new : Store) → new.descriptors ≡ old.descriptors → ((backend description : ℕ) → is_there new backend description ≡ is_there old backend description) → IsTidy old → IsTidy new
tidy_same old new same there tidy = record {
  none_reserved = λ n e. tidy.none_reserved n (ap (λ (m : Map). slot_at m n) (sym same) ∙ e);
  there = record { named = λ n b d e. there b d ∙ tidy.there.named n b d (ap (λ (m : Map). slot_at m n) (sym same) ∙ e) };
  numbered = λ b d h. let (n, is) = tidy.numbered b d (sym (there b d) ∙ h) in (n, ap (λ (m : Map). slot_at m n) same ∙ is);
}

-- names have no part in it
pub tidy_names : (store : Store) (backend : ℕ) (tree : Tree) → IsTidy store → IsTidy (with_names store backend tree)
tidy_names store backend tree tidy = tidy_same store (with_names store backend tree) refl (λ b d. ap (λ (g : Group). is_some (description_at g d)) (groups_named store backend tree b (d % group_count))) tidy

pub there_same : (store : Store) (backend number : ℕ) (new : Group) → ((d : ℕ) → is_some (description_at new d) ≡ is_some (description_at (group_at store backend number) d)) → (b d : ℕ) → is_there (with_group store backend number new) b d ≡ is_there store b d
there_same store backend number new each b d =
    group_either store backend number new b (d % group_count) (λ (g : Group). is_some (description_at g d) ≡ is_there store b d)
    (λ e f. each d ∙ sym (ap (λ (n : ℕ). is_some (description_at (group_at store n number) d)) e) ∙ sym (ap (λ (n : ℕ). is_some (description_at (group_at store b n) d)) f)) refl

-- a group that keeps its descriptions, whatever becomes of their offsets
pub tidy_group : (store : Store) (backend number : ℕ) (new : Group) → ((d : ℕ) → is_some (description_at new d) ≡ is_some (description_at (group_at store backend number) d)) → IsTidy store → IsTidy (with_group store backend number new)
tidy_group store backend number new each tidy = tidy_same store (with_group store backend number new) refl (there_same store backend number new each) tidy

-- the operation neither makes nor ends a description
abbrev pub IsUse : FileOp → Type 0
IsUse (op.Make mode) = ⊥
IsUse (op.Attach file mode truncate) = ⊥
IsUse (op.Release id) = ⊥
IsUse operation = Unit {0}

moved_there : (table : Table Description) (id : ℕ) (x w : Description) → row_at table id ≡ Some w → (q : ℕ) → is_some (row_at (with_row table id x) q) ≡ is_some (row_at table q)
moved_there table id x w there q = elim (same_id q id) as (λ _. is_some (row_at (with_row table id x) q) ≡ is_some (row_at table q)) [
  | inl e ↦ ap (λ (n : ℕ). is_some (row_at (with_row table id x) n)) e ∙ ap is_some (changed_here table id x w there) ∙ sym (ap is_some there) ∙ sym (ap (λ (n : ℕ). is_some (row_at table n)) e)
  | inr ne ↦ ap is_some (changed_other table id q x ne)
]

abbrev Keeps : Group → FileOp → FilesOutcome → Type 0
Keeps group o r = IsUse o → (q : ℕ) → is_some (description_at r.group q) ≡ is_some (description_at group q)

ways_keep : (group : Group) → Ways group (Keeps group)
ways_keep group = record {
  same = λ o a form is q. refl;
  size = λ o id file form there is q. refl;
  made = λ mode is. absurd is;
  attached = λ id mode truncate file there is. absurd is;
  unlinked = λ id file there used is q. refl;
  freed = λ id file there unused is q. refl;
  released = λ id d there used is. absurd is;
  ended = λ id d file o unlinked unused is. absurd is;
  read = λ id count d file o is q. moved_there group.descriptions id _ d o.there q;
  wrote = λ id bytes d file o some allowed is q. moved_there group.descriptions id _ d o.there q;
  wrote_at = λ id bytes offset at d file o e some allowed is q. refl;
  sought = λ id offset whence at d file o low is q. moved_there group.descriptions id _ d o.there q;
  cut = λ id size n d file o e allowed is q. refl;
}

pub use_keeps : (group : Group) (o : FileOp) → IsUse o → (q : ℕ) → is_some (description_at (fstep group o).group q) ≡ is_some (description_at group q)
use_keeps group o = step_way group (Keeps group) (ways_keep group) o

-- A number that changes.

abbrev pub store_with_slot : Store → ℕ → Slot → Store
store_with_slot store number new = record store { descriptors = with_slot store.descriptors number new }

pub slot_either : (map : Map) (number other : ℕ) (new : Slot) (P : Slot → Type 0) → (other ≡ number → P new) → P (slot_at map other) → P (slot_at (with_slot map number new) other)
slot_either map number other new P first h = set_either map.slots number other new slot.Free P first h

pub slot_other : (map : Map) (number other : ℕ) (new : Slot) → other ≢ number → slot_at (with_slot map number new) other ≡ slot_at map other
slot_other map number other new ne = slot_either map number other new (λ (s : Slot). s ≡ slot_at map other) (λ e. absurd (ne e)) refl

-- the new one names what is there, and what the old one named has a number still
pub tidy_slot : (store : Store) (number : ℕ) (new : Slot) → new ≢ slot.Reserved → ((b d : ℕ) → new ≡ slot.File b d → is_there store b d ≡ true) → ((b d : ℕ) → slot_at store.descriptors number ≡ slot.File b d → (n : ℕ) × (slot_at (with_slot store.descriptors number new) n ≡ slot.File b d)) → IsTidy store → IsTidy (store_with_slot store number new)
tidy_slot store number new unreserved names still tidy = record {
  none_reserved = λ n. slot_either store.descriptors number n new (λ (s : Slot). s ≢ slot.Reserved) (λ e. unreserved) (tidy.none_reserved n);
  there = record { named = λ n b d. slot_either store.descriptors number n new (λ (s : Slot). s ≡ slot.File b d → is_there store b d ≡ true) (λ e. names b d) (tidy.there.named n b d) };
  numbered = λ b d h. let (n, is) = tidy.numbered b d h in elim (same_id n number) as (λ _. (m : ℕ) × (slot_at (with_slot store.descriptors number new) m ≡ slot.File b d)) [
    | inl e ↦ still b d (ap (slot_at store.descriptors) (sym e) ∙ is)
    | inr ne ↦ (n, slot_other store.descriptors number n new ne ∙ is)
  ];
}

-- some number names a description that is open, and none one that is not
open_number : (backend description : ℕ) (slots : List Slot) → list_any (is_number_of backend description) slots ≡ true → (n : ℕ) × (unwrap_or (slice_get slots n) slot.Free ≡ slot.File backend description)
open_number backend description [] h = absurd (false≢true h)
open_number backend description (s ∷ slots) h = by_slot (is_number_of backend description s) refl (open_number backend description slots) where
  named : (s : Slot) → is_number_of backend description s ≡ true → s ≡ slot.File backend description
  named slot.Free e = absurd (false≢true e)
  named slot.Reserved e = absurd (false≢true e)
  named (slot.Dir b id) e = absurd (false≢true e)
  named (slot.File b d) e = by_test (b == backend) (d == description) refl refl e where
    by_test : (x y : Bool) → (b == backend) ≡ x → (d == description) ≡ y → (b == backend && d == description) ≡ true → slot.File b d ≡ slot.File backend description
    by_test true true p q e = ap (λ (n : ℕ). slot.File n d) ((Decides-eqb b backend).0 p) ∙ ap (λ (n : ℕ). slot.File backend n) ((Decides-eqb d description).0 q)
    by_test true false p q e = absurd (false≢true (sym (ap (λ (t : Bool). t && (d == description)) p ∙ q) ∙ e))
    by_test false y p q e = absurd (false≢true (sym (ap (λ (t : Bool). t && (d == description)) p) ∙ e))

  by_slot : (is : Bool) → is_number_of backend description s ≡ is → (list_any (is_number_of backend description) slots ≡ true → (n : ℕ) × (unwrap_or (slice_get slots n) slot.Free ≡ slot.File backend description)) → (n : ℕ) × (unwrap_or (slice_get (s ∷ slots) n) slot.Free ≡ slot.File backend description)
  by_slot true e rest = (zero, named s e)
  by_slot false e rest = let (n, is) = rest (sym (ap (λ (t : Bool). t || list_any (is_number_of backend description) slots) e) ∙ h) in (suc n, is)

pub number_of_open : (backend description : ℕ) (map : Map) → is_description_open backend description map ≡ true → (n : ℕ) × (slot_at map n ≡ slot.File backend description)
number_of_open backend description map h = open_number backend description map.slots h

itself : (backend description : ℕ) → is_number_of backend description (slot.File backend description) ≡ true
itself backend description =
    ap (λ (t : Bool). t && (description == description)) ((Decides-eqb backend backend).1 refl)
    ∙ (Decides-eqb description description).1 refl

closed_none : (backend description : ℕ) (slots : List Slot) → list_any (is_number_of backend description) slots ≡ false → (n : ℕ) → unwrap_or (slice_get slots n) slot.Free ≢ slot.File backend description
closed_none backend description [] h n e = cc
closed_none backend description (s ∷ slots) h zero e = false≢true (sym h ∙ ap (λ (t : Bool). t || list_any (is_number_of backend description) slots) (ap (is_number_of backend description) e ∙ itself backend description))
closed_none backend description (s ∷ slots) h (suc n) e = by_first (is_number_of backend description s) refl (λ closed. closed_none backend description slots closed n e) where
  by_first : (is : Bool) → is_number_of backend description s ≡ is → (list_any (is_number_of backend description) slots ≡ false → ⊥) → ⊥
  by_first true f rest = false≢true (sym h ∙ ap (λ (t : Bool). t || list_any (is_number_of backend description) slots) f)
  by_first false f rest = rest (sym (ap (λ (t : Bool). t || list_any (is_number_of backend description) slots) f) ∙ h)

pub none_of_closed : (backend description : ℕ) (map : Map) → is_description_open backend description map ≡ false → (n : ℕ) → slot_at map n ≢ slot.File backend description
none_of_closed backend description map h n e = closed_none backend description map.slots h n e
