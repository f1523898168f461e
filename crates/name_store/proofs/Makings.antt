-- A sound tree stays sound where an entry is made.
use Rattle.std.proofs.Common.{◌≡◌, ℕ, ◌+◌, inl, inr, List, [], ◌∷◌, ◌++◌, length, Option, None, Some, refl, sym, ap, ◌∙◌, arith}
use Rattle.name_store.specs.declared.operation.Node.{Node}
use Rattle.name_store.specs.declared.operation.Node.TheVariants.{Dir, Link, File}
use Rattle.name_store.specs.NameTrees.{Tree, Listing, dir_at, entry_at, empty_in, with_entry_at, with_new_directory, with_new_link}
use Rattle.name_store.specs.Sound.{node_in, node_at, parent_of, parent_at, IsSound}
use Rattle.name_store.proofs.Changes.{past, same_id, entered_parents, entered_size, entered_at, entered_apart, more_at, more_none, more_others, more_size}
use Rattle.name_store.proofs.Transitions.{Grows, grows}
use Rattle.name_store.proofs.Orders.{entered_names, grown_names, linked_names}

module _ (tree : Tree) (id : ℕ) (name : List ℕ) (directory : Listing) (sound : IsSound tree) (there : dir_at tree id ≡ Some directory) (absent : entry_at directory name ≡ None) where
  is_there : parent_at tree id ≡ Some directory.parent
  is_there = ap parent_of there

  is_absent : node_at tree id name ≡ None
  is_absent = ap (λ (d : Option Listing). node_in d name) there ∙ absent

  no_next : parent_at tree (length tree) ≡ None
  no_next = ap parent_of (past tree (length tree) (omega arith))

  pub filed_grows : (file : ℕ) → Grows tree (with_entry_at tree id name (File file)) id name (File file) None
  filed_grows file = record {
    absent = is_absent;
    there = (directory.parent, is_there);
    at = entered_at tree id directory.parent name (File file) is_there;
    apart = λ first other a. entered_apart tree id name (File file) first other a;
    size = (let e = entered_size tree id name (File file) in omega arith);
    next = λ i e. cc;
    others = λ i ne. entered_parents tree id name (File file) i;
    last_is = entered_parents tree id name (File file) (length tree) ∙ no_next;
    made = λ i e. cc;
    dir = λ i e. cc;
    link = λ i text e. cc;
    names = entered_names tree id name (File file) sound.names;
  }

  pub filed_sound : (file : ℕ) → IsSound (with_entry_at tree id name (File file))
  filed_sound file = grows tree (with_entry_at tree id name (File file)) id name (File file) None sound (filed_grows file)

  -- the tree with one entry more
  abbrev with_one : Node → Tree
  with_one node = with_entry_at tree id name node

  more_size_is : (node : Node) (slot : Option Listing) → length (with_one node ++ slot ∷ []) ≡ length tree + 1
  more_size_is node slot = more_size (with_one node) slot ∙ ap (λ (n : ℕ). n + 1) (entered_size tree id name node)

  linked_size : (text : List ℕ) → length (with_new_link tree id name text) ≡ length tree + 1
  linked_size text = more_size_is (Link (length tree) text) None

  pub linked_grows : (text : List ℕ) → Grows tree (with_new_link tree id name text) id name (Link (length tree) text) None
  linked_grows text = record {
    absent = is_absent;
    there = (directory.parent, is_there);
    at = ap (λ (d : Option Listing). node_in d name) (more_none (with_one (Link (length tree) text)) id) ∙ entered_at tree id directory.parent name (Link (length tree) text) is_there;
    apart = λ first other a. ap (λ (d : Option Listing). node_in d other) (more_none (with_one (Link (length tree) text)) first) ∙ entered_apart tree id name (Link (length tree) text) first other a;
    size = (let e = linked_size text in omega arith);
    next = λ i e. (let same : length tree ≡ i = cc in sym same, linked_size text);
    others = λ i ne. ap parent_of (more_none (with_one (Link (length tree) text)) i) ∙ entered_parents tree id name (Link (length tree) text) i;
    last_is = ap parent_of (more_none (with_one (Link (length tree) text)) (length tree)) ∙ entered_parents tree id name (Link (length tree) text) (length tree) ∙ no_next;
    made = λ i e. cc;
    dir = λ i e. cc;
    link = λ i words e. refl;
    names = linked_names (with_one (Link (length tree) text)) (entered_names tree id name (Link (length tree) text) sound.names);
  }

  pub linked_sound : (text : List ℕ) → IsSound (with_new_link tree id name text)
  linked_sound text = grows tree (with_new_link tree id name text) id name (Link (length tree) text) None sound (linked_grows text)

  -- the tree before the new directory's slot
  abbrev before : Tree
  before = with_one (Dir (length tree))

  before_size : length before ≡ length tree
  before_size = entered_size tree id name (Dir (length tree))

  -- the new directory has no entries
  grown_node : (first : ℕ) (other : List ℕ) → node_at (with_new_directory tree id name) first other ≡ node_at before first other
  grown_node first other =
      elim (same_id first (length before)) [
        | inl e ↦
            ap (λ (i : ℕ). node_at (with_new_directory tree id name) i other) e
            ∙ ap (λ (d : Option Listing). node_in d other) (more_at before (Some (empty_in id)))
            ∙ sym (ap (λ (d : Option Listing). node_in d other) (past before (length before) (omega arith)))
            ∙ ap (λ (i : ℕ). node_at before i other) (sym e)
        | inr ne ↦ ap (λ (d : Option Listing). node_in d other) (more_others before (Some (empty_in id)) first ne)
      ]

  grown_size : length (with_new_directory tree id name) ≡ length tree + 1
  grown_size = more_size_is (Dir (length tree)) (Some (empty_in id))

  -- it is there
  pub grown_there : dir_at (with_new_directory tree id name) (length tree) ≡ Some (empty_in id)
  grown_there = ap (dir_at (with_new_directory tree id name)) (sym before_size) ∙ more_at before (Some (empty_in id))

  pub grown_grows : Grows tree (with_new_directory tree id name) id name (Dir (length tree)) (Some id)
  grown_grows = record {
    absent = is_absent;
    there = (directory.parent, is_there);
    at = grown_node id name ∙ entered_at tree id directory.parent name (Dir (length tree)) is_there;
    apart = λ first other a. grown_node first other ∙ entered_apart tree id name (Dir (length tree)) first other a;
    size = (let e = grown_size in omega arith);
    next = λ i e. (let same : length tree ≡ i = cc in sym same, grown_size);
    others = λ i ne. ap parent_of (more_others before (Some (empty_in id)) i (λ e. ne (e ∙ before_size))) ∙ entered_parents tree id name (Dir (length tree)) i;
    last_is = ap parent_of grown_there;
    made = λ i e. (refl, (let same : id ≡ i = cc in sym same));
    dir = λ i e. refl;
    link = λ i words e. cc;
    names = grown_names before id (entered_names tree id name (Dir (length tree)) sound.names);
  }

  pub grown_sound : IsSound (with_new_directory tree id name)
  grown_sound = grows tree (with_new_directory tree id name) id name (Dir (length tree)) (Some id) sound grown_grows
