-- The names of each directory stay in order.
use Rattle.std.proofs.Common.{◌≡◌, ℕ, inl, inr, List, [], ◌∷◌, ◌++◌, length, Option, None, Some, option_map, refl, sym, ap, subst, ◌∙◌}
use Rattle.std.specs.Map.{keys_of}
use Rattle.std.specs.List.Sorted.{IsStrictlySortedBy}
use Rattle.name_store.specs.declared.operation.Node.{Node}
use Rattle.name_store.specs.NameTrees.{Tree, Listing, byte_order, dir_at, empty_in, with_entry_at, without_entry_at, with_parent_at, without_directory, with_change_at, with_entry, without_entry, with_parent}
use Rattle.name_store.proofs.Entries.{entered_sorted, removed_sorted}
use Rattle.name_store.proofs.Changes.{Ordered, put_changes, same_id, freed_at, freed_others, more_at, more_none, more_others}

abbrev pub Sorted : Listing → Type 0
Sorted directory = IsStrictlySortedBy byte_order (keys_of directory.entries)

changed_sorted : (change : Listing → Listing) (old : Option Listing) (directory : Listing) → ((d : Listing) → old ≡ Some d → Sorted d) → ((d : Listing) → Sorted d → Sorted (change d)) → option_map change old ≡ Some directory → Sorted directory
changed_sorted change None directory all h e = cc
changed_sorted change (Some old) directory all h e =
    let same : change old ≡ directory = cc in
    subst Sorted same (h old (all old refl))

put_names : (tree : Tree) (id : ℕ) (change : Listing → Listing) → ((d : Listing) → Sorted d → Sorted (change d)) → ((other : ℕ) → Ordered tree other) → (other : ℕ) → Ordered (with_change_at tree id change (dir_at tree id)) other
put_names tree id change h all other directory e =
    let c = put_changes tree id change in
    elim (same_id other id) [
      | inl same ↦ changed_sorted change (dir_at tree id) directory (all id) h (sym c.here ∙ ap (dir_at (with_change_at tree id change (dir_at tree id))) (sym same) ∙ e)
      | inr ne ↦ all other directory (sym (c.others other ne) ∙ e)
    ]

pub entered_names : (tree : Tree) (id : ℕ) (name : List ℕ) (node : Node) → ((other : ℕ) → Ordered tree other) → (other : ℕ) → Ordered (with_entry_at tree id name node) other
entered_names tree id name node all = put_names tree id (λ d. with_entry d name node) (λ d h. entered_sorted d.entries name node h) all

pub unlinked_names : (tree : Tree) (id : ℕ) (name : List ℕ) → ((other : ℕ) → Ordered tree other) → (other : ℕ) → Ordered (without_entry_at tree id name) other
unlinked_names tree id name all = put_names tree id (λ d. without_entry d name) (λ d h. removed_sorted d.entries name h) all

pub parent_set_names : (tree : Tree) (id : Option ℕ) (parent : ℕ) → ((other : ℕ) → Ordered tree other) → (other : ℕ) → Ordered (with_parent_at tree id parent) other
parent_set_names tree None parent all = all
parent_set_names tree (Some id) parent all = put_names tree id (λ d. with_parent d parent) (λ d h. h) all

pub freed_names : (tree : Tree) (id : Option ℕ) → ((other : ℕ) → Ordered tree other) → (other : ℕ) → Ordered (without_directory tree id) other
freed_names tree None all other directory e = all other directory e
freed_names tree (Some id) all other directory e =
    elim (same_id other id) [
      | inl same ↦ (let none : dir_at (without_directory tree (Some id)) other ≡ None = freed_at tree id other same in cc)
      | inr ne ↦ all other directory (sym (freed_others tree (Some id) other (λ h. ne (cc))) ∙ e)
    ]

sorted_empty : (id : ℕ) → Sorted (empty_in id)
unfolding IsStrictlySortedBy
sorted_empty id = tt

pub grown_names : (tree : Tree) (id : ℕ) → ((other : ℕ) → Ordered tree other) → (other : ℕ) → Ordered (tree ++ Some (empty_in id) ∷ []) other
grown_names tree id all other directory e =
    elim (same_id other (length tree)) [
      | inl same ↦
          let here : Some (empty_in id) ≡ Some directory = sym (more_at tree (Some (empty_in id))) ∙ ap (dir_at (tree ++ Some (empty_in id) ∷ [])) (sym same) ∙ e in
          let one : empty_in id ≡ directory = cc in
          subst Sorted one (sorted_empty id)
      | inr ne ↦ all other directory (sym (more_others tree (Some (empty_in id)) other ne) ∙ e)
    ]

pub linked_names : (tree : Tree) → ((other : ℕ) → Ordered tree other) → (other : ℕ) → Ordered (tree ++ None ∷ []) other
linked_names tree all other directory e = all other directory (sym (more_none tree other) ∙ e)
