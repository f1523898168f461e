-- A sound tree stays sound where an entry is taken out.
use Rattle.std.proofs.Common.{◌≡◌, ℕ, ◌==◌, true, false, inl, inr, List, [], ◌∷◌, length, Option, None, Some, refl, sym, ap, ◌∙◌, arith}
use Rattle.std.proofs.lemmas.Bool.Decides.{nat_tests}
use Rattle.name_store.specs.declared.operation.Node.{Node}
use Rattle.name_store.specs.declared.operation.Node.TheVariants.{Dir}
use Rattle.name_store.specs.NameTrees.{Tree, Listing, dir_at, dir_of, without_directory, is_empty, without_entry_at}
use Rattle.name_store.specs.Sound.{node_in, node_at, parent_of, IsSound}
use Rattle.name_store.proofs.Entries.{Entries, at}
use Rattle.name_store.proofs.Changes.{Ordered, same_id, same_place, freed_at, freed_others, freed_size, unlinked_at, unlinked_apart, unlinked_parents, unlinked_size}
use Rattle.name_store.proofs.Transitions.{Takes, takes, some}
use Rattle.name_store.proofs.Orders.{freed_names, unlinked_names}

-- nothing stands where there are no entries
none_of : (entries : Entries) (name : List ℕ) → (length entries == 0) ≡ true → at name entries ≡ None
none_of [] name h = refl
none_of (entry ∷ entries) name h =
    let more : (length (entry ∷ entries) == 0) ≡ false = grind (arith, nat_tests) in
    let clash : true ≡ false = sym h ∙ more in
    cc

empty_in_all : (directory : Option Listing) (name : List ℕ) → is_empty directory ≡ true → node_in directory name ≡ None
empty_in_all None name h = refl
empty_in_all (Some directory) name h = none_of directory.entries name h

pub empty_nodes : (tree : Tree) (id : ℕ) → is_empty (dir_at tree id) ≡ true → (name : List ℕ) → node_at tree id name ≡ None
empty_nodes tree id h name = empty_in_all (dir_at tree id) name h

-- a directory in which nothing stands is freed with nothing lost
pub freed_nodes : (tree : Tree) (id : Option ℕ) (first : ℕ) (other : List ℕ) → (id ≡ Some first → node_at tree first other ≡ None) → node_at (without_directory tree id) first other ≡ node_at tree first other
freed_nodes tree None first other h = refl
freed_nodes tree (Some id) first other h =
    elim (same_id first id) [
      | inl e ↦
          ap (λ (d : Option Listing). node_in d other) (freed_at tree id first e)
          ∙ sym (h (ap (λ (i : ℕ). some i) (sym e)))
      | inr ne ↦ ap (λ (d : Option Listing). node_in d other) (freed_others tree (Some id) first (λ e. ne (cc)))
    ]

-- where nothing stands, nothing stands after something was taken out
pub unlinked_none : (tree : Tree) (id : ℕ) (name : List ℕ) (first : ℕ) (other : List ℕ) → Ordered tree id → node_at tree first other ≡ None → node_at (without_entry_at tree id name) first other ≡ None
unlinked_none tree id name first other sorted h =
    elim (same_place id name first other) [
      | inl e ↦
          ap (λ (i : ℕ). node_at (without_entry_at tree id name) i other) e.0
          ∙ ap (λ (n : List ℕ). node_at (without_entry_at tree id name) id n) e.1
          ∙ unlinked_at tree id name sorted
      | inr a ↦ unlinked_apart tree id name first other a ∙ h
    ]

pub unlinked_takes : (tree : Tree) (id : ℕ) (name : List ℕ) (node : Node) → IsSound tree → node_at tree id name ≡ Some node → dir_of node ≡ None → Takes tree (without_entry_at tree id name) id name node
unlinked_takes tree id name node sound stood no_dir = record {
  stood = stood;
  gone = unlinked_at tree id name (sound.names id);
  apart = λ first other a. unlinked_apart tree id name first other a;
  size = unlinked_size tree id name;
  empty = λ i e. cc;
  freed = λ i e. cc;
  others = λ i ne. unlinked_parents tree id name i;
  names = unlinked_names tree id name sound.names;
}

pub unlinked_sound : (tree : Tree) (id : ℕ) (name : List ℕ) (node : Node) → IsSound tree → node_at tree id name ≡ Some node → dir_of node ≡ None → IsSound (without_entry_at tree id name)
unlinked_sound tree id name node sound stood no_dir = takes tree (without_entry_at tree id name) id name node sound (unlinked_takes tree id name node sound stood no_dir)

module _ (tree : Tree) (id : ℕ) (name : List ℕ) (child : ℕ) (sound : IsSound tree) (stood : node_at tree id name ≡ Some (Dir child)) (empty : is_empty (dir_at tree child) ≡ true) where
  abbrev left : Tree
  left = without_entry_at tree id name

  abbrev new : Tree
  new = without_directory left (Some child)

  -- nothing stands in the directory that is freed
  nothing : (first : ℕ) (other : List ℕ) → Some child ≡ Some first → node_at left first other ≡ None
  nothing first other e =
      let same : child ≡ first = cc in
      unlinked_none tree id name first other (sound.names id) (ap (λ (i : ℕ). node_at tree i other) (sym same) ∙ empty_nodes tree child empty other)

  same_nodes : (first : ℕ) (other : List ℕ) → node_at new first other ≡ node_at left first other
  same_nodes first other = freed_nodes left (Some child) first other (nothing first other)

  pub removed_takes : Takes tree new id name (Dir child)
  removed_takes = record {
    stood = stood;
    gone = same_nodes id name ∙ unlinked_at tree id name (sound.names id);
    apart = λ first other a. same_nodes first other ∙ unlinked_apart tree id name first other a;
    size = freed_size left (Some child) ∙ unlinked_size tree id name;
    empty = λ i e other. (let same : child ≡ i = cc in ap (λ (x : ℕ). node_at tree x other) (sym same) ∙ empty_nodes tree child empty other);
    freed = λ i e. (let same : child ≡ i = cc in ap parent_of (freed_at left child i (sym same)));
    others = λ i ne. ap parent_of (freed_others left (Some child) i ne) ∙ unlinked_parents tree id name i;
    names = freed_names left (Some child) (unlinked_names tree id name sound.names);
  }

  pub removed_sound : IsSound new
  removed_sound = takes tree new id name (Dir child) sound removed_takes
