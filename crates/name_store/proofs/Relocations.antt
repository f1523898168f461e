-- A sound tree stays sound where an entry is moved by the changes that the definition makes.
use Rattle.std.proofs.Common.{◌≡◌, ℕ, true, false, List, length, Option, None, Some, refl, ap, ◌∙◌}
use Rattle.name_store.specs.declared.operation.Node.{Node}
use Rattle.name_store.specs.declared.operation.Node.TheVariants.{Dir}
use Rattle.name_store.specs.NameTrees.{Tree, dir_at, dir_in, dir_of, with_entry_at, without_directory, is_empty, is_inside, after_move, with_parent_at, without_entry_at}
use Rattle.name_store.specs.Sound.{AreApart, node_at, parent_of, parent_at, IsSound}
use Rattle.name_store.proofs.Changes.{entered_apart, entered_at, entered_parents, entered_size, freed_at, freed_others, freed_size, parent_set_at, parent_set_nodes, parent_set_others, parent_set_size, unlinked_at, unlinked_apart, unlinked_parents, unlinked_size}
use Rattle.name_store.proofs.Climbs.{outside}
use Rattle.name_store.proofs.Edits.{root_up}
use Rattle.name_store.proofs.Transitions.{some, is_dir, none_some}
use Rattle.name_store.proofs.Moves.{Moves, moves, is_dir_in}
use Rattle.name_store.proofs.Orders.{entered_names, freed_names, parent_set_names, unlinked_names}
use Rattle.name_store.proofs.Takings.{empty_nodes, freed_nodes, unlinked_none}

module _ (tree : Tree) (from : ℕ) (name : List ℕ) (to : ℕ) (other : List ℕ) (node : Node) (over : Option Node) (parent : ℕ) (sound : IsSound tree) (stood : node_at tree from name ≡ Some node) (stood_over : node_at tree to other ≡ over) (there : parent_at tree to ≡ Some parent) (not_same : AreApart from name to other) (out : (id : ℕ) → dir_of node ≡ Some id → is_inside (length tree) tree id to ≡ false) (empty : (id : ℕ) → dir_in over ≡ Some id → is_empty (dir_at tree id) ≡ true) where
  abbrev put : Tree
  put = with_entry_at tree to other node

  abbrev left : Tree
  left = without_entry_at put from name

  abbrev raised : Tree
  raised = with_parent_at left (dir_of node) to

  abbrev new : Tree
  new = without_directory raised (dir_in over)

  child_here : (id : ℕ) → dir_of node ≡ Some id → node_at tree from name ≡ Some (Dir id)
  child_here id e = stood ∙ ap (λ (n : Node). some n) (is_dir node id e)

  over_here : (id : ℕ) → dir_in over ≡ Some id → node_at tree to other ≡ Some (Dir id)
  over_here id e = stood_over ∙ is_dir_in over id e

  nothing_over : (id : ℕ) → dir_in over ≡ Some id → (n : List ℕ) → node_at tree id n ≡ None
  nothing_over id e n = empty_nodes tree id (empty id e) n

  -- nothing stands in the directory that is freed: it is not the one that the entry moved to
  nothing_left : (id : ℕ) (n : List ℕ) → dir_in over ≡ Some id → node_at raised id n ≡ None
  nothing_left id n e =
      let elsewhere : AreApart to other id n = λ same f. none_some (node_at tree id other) (Dir id) (nothing_over id e other) (ap (λ (i : ℕ). node_at tree i other) same ∙ over_here id e) in
      parent_set_nodes left (dir_of node) to id n
      ∙ unlinked_none put from name id n (entered_names tree to other node sound.names from) (entered_apart tree to other node id n elsewhere ∙ nothing_over id e n)

  same_nodes : (id : ℕ) (n : List ℕ) → node_at new id n ≡ node_at left id n
  same_nodes id n = freed_nodes raised (dir_in over) id n (nothing_left id n) ∙ parent_set_nodes left (dir_of node) to id n

  left_parents : (id : ℕ) → parent_at left id ≡ parent_at tree id
  left_parents id = unlinked_parents put from name id ∙ entered_parents tree to other node id

  -- what is moved is not what is replaced
  not_both : (id : ℕ) → dir_of node ≡ Some id → dir_in over ≡ Some id → ⊥
  not_both id e f =
      let one = sound.once id to from other name (Dir id) (Dir id) (over_here id f) (child_here id e) refl refl in
      not_same one.0 one.1

  raised_child : (id : ℕ) → dir_of node ≡ Some id → parent_at raised id ≡ Some to
  raised_child id e =
      ap (λ (c : Option ℕ). parent_at (with_parent_at left c to) id) e
      ∙ parent_set_at left id from to (left_parents id ∙ (sound.child from id name (child_here id e)).1)

  pub moves_so : Moves tree new from name to other node over
  moves_so = record {
    stood = stood;
    stood_over = stood_over;
    not_same = not_same;
    there = (parent, there);
    at = same_nodes to other ∙ unlinked_apart put from name to other not_same ∙ entered_at tree to parent other node there;
    gone = same_nodes from name ∙ unlinked_at put from name (entered_names tree to other node sound.names from);
    apart = λ id n a b. same_nodes id n ∙ unlinked_apart put from name id n a ∙ entered_apart tree to other node id n b;
    size = freed_size raised (dir_in over) ∙ parent_set_size left (dir_of node) to ∙ unlinked_size put from name ∙ entered_size tree to other node;
    outside = λ id e k. outside tree id to (sound.child from id name (child_here id e)).0 (root_up tree sound.root) (sound.rooted to parent there) (out id e) k;
    empty = nothing_over;
    child = λ id e. ap parent_of (freed_others raised (dir_in over) id (not_both id e)) ∙ raised_child id e;
    freed = λ id e. ap (λ (r : Option ℕ). parent_at (without_directory raised r) id) e ∙ ap parent_of (freed_at raised id id refl);
    others = λ id no_child no_freed. ap parent_of (freed_others raised (dir_in over) id no_freed) ∙ parent_set_others left (dir_of node) to id no_child ∙ left_parents id;
    names = freed_names raised (dir_in over) (parent_set_names left (dir_of node) to (unlinked_names put from name (entered_names tree to other node sound.names)));
  }

  pub moved_sound : IsSound (after_move tree from name to other node over)
  moved_sound = moves tree new from name to other node over sound moves_so
