-- What operations do to entries, for the laws of specs/EntryLaws.antt.
use Rattle.std.proofs.Common.{◌≡◌, ◌↔◌, ℕ, ◌==◌, zero, suc, Bool, true, false, inl, inr, List, [], ◌∷◌, ◌++◌, length, take, drop, nat_eq, fold, Option, None, Some, refl, sym, ap, subst, ◌∙◌, arith}
use Rattle.std.proofs.lemmas.Bool.Decides.{nat_tests}
use Rattle.std.specs.Cmp.Lexicographic.{pointwise}
use Rattle.std.specs.List.{AllByRecursion}
use Rattle.std.specs.List.Sorted.{IsStrictlySortedBy}
use Rattle.std.specs.Map.{keys_of}
use Rattle.std.specs.declared.cmp.Ordering.TheVariants.{Less}
use Rattle.std.proofs.lemmas.Map.Keys.{sorted_tail}
use Rattle.wf_core.specs.Limits.{list_max}
use Rattle.name_store.specs.declared.operation.Node.{Node}
use Rattle.name_store.specs.declared.operation.Node.TheVariants.{Dir, Link, File, Mount}
use Rattle.name_store.specs.declared.operation.NameOp.{NameOp}
use Rattle.name_store.specs.declared.operation.NameOp.TheVariants.{Makedir, Addlink, Addfile, Remfile, Remdir, Move, List as ListOp}
use Rattle.name_store.specs.declared.operation.NameAnswer.TheVariants.{MadeDir, MadeLink, Done, Same, Names}
use Rattle.name_store.specs.NameTrees.{Tree, Listing, NamesOutcome, byte_order, dir_at, dir_in, dir_of, empty_in, entry_at, addfile_outcome_at, addlink_outcome_at, is_empty, is_same_entry, makedir_outcome_at, mount_fault, move_answer, move_fault, move_outcome_at, names_from, nstep, opening, over_fault, remdir_child_outcome, remdir_outcome_at, remfile_outcome_at, with_mount, with_new_directory, with_new_link, without_entry_at}
use Rattle.name_store.specs.Sound.{AreApart, IsSound, node_at, node_in, parent_at, parent_of}
use Rattle.name_store.specs.EntryLaws.{DirectoryMade, DirectoryRemoved, EntryMade, EntryMoved, IsMoved, LeafMade, LeafRemoved, OpeningMounts, Removes, SaysMoved, tree_after}
use Rattle.name_store.proofs.Changes.{past, same_id, same_place, unlinked_parents}
use Rattle.name_store.proofs.Counted.{both_true, same_bytes}
use Rattle.name_store.proofs.Entries.{entered_here, entered_other}
use Rattle.name_store.proofs.Makings.{filed_grows, grown_grows, grown_there, linked_grows}
use Rattle.name_store.proofs.Moves.{Moves, is_dir_in}
use Rattle.name_store.proofs.Outcomes.{in_allowed, in_apart, in_there}
use Rattle.name_store.proofs.Relocations.{moves_so}
use Rattle.name_store.proofs.Shapes.{NoMount, Shape, shape_of}
use Rattle.name_store.proofs.Soundness.{apart_entries, not_inside, replaced_empty, step_sound, stood}
use Rattle.name_store.proofs.Takings.{empty_nodes, removed_takes, unlinked_takes}
use Rattle.name_store.proofs.Transitions.{Grows, is_dir}

none_in : (directory : Option Listing) → parent_of directory ≡ None → directory ≡ None
none_in None h = refl
none_in (Some directory) h = cc

-- what has no parent is not there
not_there : (tree : Tree) (id : ℕ) → parent_at tree id ≡ None → dir_at tree id ≡ None
not_there tree id h = none_in (dir_at tree id) h

-- an entry is made

module _ (old new : Tree) (place : ℕ) (name : List ℕ) (node : Node) where
  grows_makes : (last : Option ℕ) → Grows old new place name node last → EntryMade old new place name node
  grows_makes last g = record { absent = g.absent; stands = g.at; others = g.apart }

  all_parents : Grows old new place name node None → (other : ℕ) → parent_at new other ≡ parent_at old other
  all_parents g other =
      elim (same_id other (length old)) [
        | inl e ↦
            ap (parent_at new) e ∙ g.last_is
            ∙ sym (ap parent_of (past old (length old) (omega arith)))
            ∙ ap (parent_at old) (sym e)
        | inr ne ↦ g.others other ne
      ]

  leaf_made : Grows old new place name node None → LeafMade old new place name node
  leaf_made g = record { entry = grows_makes None g; parents = all_parents g }

module _ (tree : Tree) (sound : IsSound tree) where
  makedir_at : (id : ℕ) (name : List ℕ) (made : ℕ) (directory : Listing) (node : Option Node) → dir_at tree id ≡ Some directory → entry_at directory name ≡ node → (makedir_outcome_at tree id name node).answer ≡ MadeDir made → DirectoryMade tree (makedir_outcome_at tree id name node).tree id name made
  makedir_at id name made directory (Some node) there h e = cc
  makedir_at id name made directory None there h e =
      let same : length tree ≡ made = cc in
      let g = grown_grows tree id name directory sound there h in
      subst (λ (m : ℕ). DirectoryMade tree (with_new_directory tree id name) id name m) same (record {
        entry = grows_makes tree (with_new_directory tree id name) id name (Dir (length tree)) (Some id) g;
        empty = grown_there tree id name directory sound there h;
        parents = g.others;
      })

  addlink_at : (id : ℕ) (name text : List ℕ) (made : ℕ) (directory : Listing) (node : Option Node) → dir_at tree id ≡ Some directory → entry_at directory name ≡ node → (addlink_outcome_at tree id name text node).answer ≡ MadeLink made → LeafMade tree (addlink_outcome_at tree id name text node).tree id name (Link made text)
  addlink_at id name text made directory (Some node) there h e = cc
  addlink_at id name text made directory None there h e =
      let same : length tree ≡ made = cc in
      subst (λ (m : ℕ). LeafMade tree (with_new_link tree id name text) id name (Link m text)) same
      (leaf_made tree (with_new_link tree id name text) id name (Link (length tree) text) (linked_grows tree id name directory sound there h text))

  addfile_at : (id : ℕ) (name : List ℕ) (file : ℕ) (directory : Listing) (node : Option Node) → dir_at tree id ≡ Some directory → entry_at directory name ≡ node → (addfile_outcome_at tree id name file node).answer ≡ Done → LeafMade tree (addfile_outcome_at tree id name file node).tree id name (File file)
  addfile_at id name file directory (Some node) there h e = cc
  addfile_at id name file directory None there h e = leaf_made tree _ id name (File file) (filed_grows tree id name directory sound there h file)

  -- an entry is removed

  leaf_removed : (id : ℕ) (name : List ℕ) (node : Node) → node_at tree id name ≡ Some node → dir_of node ≡ None → LeafRemoved tree (without_entry_at tree id name) id name node
  leaf_removed id name node is leaf =
      let t = unlinked_takes tree id name node sound is leaf in
      record { stood = is; entry = record { absent = t.gone; others = t.apart }; parents = λ other. unlinked_parents tree id name other }

  remfile_at : (id : ℕ) (name : List ℕ) (slash : Bool) (directory : Listing) (node : Option Node) → dir_at tree id ≡ Some directory → entry_at directory name ≡ node → Removes tree (remfile_outcome_at tree id name slash node).tree id name (remfile_outcome_at tree id name slash node).answer
  remfile_at id name slash directory None there h = tt
  remfile_at id name slash directory (Some (Dir child)) there h = tt
  remfile_at id name slash directory (Some (Mount backend)) there h = tt
  remfile_at id name true directory (Some (File file)) there h = tt
  remfile_at id name true directory (Some (Link link text)) there h = tt
  remfile_at id name false directory (Some (File file)) there h = leaf_removed id name (File file) (stood tree sound id name directory (File file) there h) refl
  remfile_at id name false directory (Some (Link link text)) there h = (link, text, leaf_removed id name (Link link text) (stood tree sound id name directory (Link link text) there h) refl)

  emptied : (id : ℕ) (name : List ℕ) (child : ℕ) (empty : Bool) → node_at tree id name ≡ Some (Dir child) → is_empty (dir_at tree child) ≡ empty → (remdir_child_outcome tree id name child empty).answer ≡ Done → DirectoryRemoved tree (remdir_child_outcome tree id name child empty).tree id name
  emptied id name child false is h e = cc
  emptied id name child true is h e =
      let t = removed_takes tree id name child sound is h in
      record {
        child = child;
        stood = is;
        empty = empty_nodes tree child h;
        gone = not_there _ child (t.freed child refl);
        entry = record { absent = t.gone; others = t.apart };
        parents = λ other ne. t.others other (λ same. ne (cc));
      }

  remdir_at : (id : ℕ) (name : List ℕ) (directory : Listing) (node : Option Node) → dir_at tree id ≡ Some directory → entry_at directory name ≡ node → (remdir_outcome_at tree id name node).answer ≡ Done → DirectoryRemoved tree (remdir_outcome_at tree id name node).tree id name
  remdir_at id name directory None there h e = cc
  remdir_at id name directory (Some (Mount backend)) there h e = cc
  remdir_at id name directory (Some (File file)) there h e = cc
  remdir_at id name directory (Some (Link link text)) there h e = cc
  remdir_at id name directory (Some (Dir child)) there h e = emptied id name child (is_empty (dir_at tree child)) (stood tree sound id name directory (Dir child) there h) refl e

pub makedir_makes : (tree : Tree) (id : ℕ) (name : List ℕ) (made : ℕ) → IsSound tree → (nstep tree (Makedir id name)).answer ≡ MadeDir made → DirectoryMade tree (nstep tree (Makedir id name)).tree id name made
makedir_makes tree id name made sound =
    in_there (λ o. o.answer ≡ MadeDir made → DirectoryMade tree o.tree id name made) tree (dir_at tree id) _ (λ e. cc)
    (λ there is. makedir_at tree sound id name made there (entry_at there name) is refl)

pub addlink_makes : (tree : Tree) (id : ℕ) (name text : List ℕ) (made : ℕ) → IsSound tree → (nstep tree (Addlink id name text)).answer ≡ MadeLink made → LeafMade tree (nstep tree (Addlink id name text)).tree id name (Link made text)
addlink_makes tree id name text made sound =
    in_there (λ o. o.answer ≡ MadeLink made → LeafMade tree o.tree id name (Link made text)) tree (dir_at tree id) _ (λ e. cc)
    (λ there is. addlink_at tree sound id name text made there (entry_at there name) is refl)

pub addfile_enters : (tree : Tree) (id : ℕ) (name : List ℕ) (file : ℕ) → IsSound tree → (nstep tree (Addfile id name file)).answer ≡ Done → LeafMade tree (nstep tree (Addfile id name file)).tree id name (File file)
addfile_enters tree id name file sound =
    in_there (λ o. o.answer ≡ Done → LeafMade tree o.tree id name (File file)) tree (dir_at tree id) _ (λ e. cc)
    (λ there is. addfile_at tree sound id name file there (entry_at there name) is refl)

pub remfile_removes : (tree : Tree) (id : ℕ) (name : List ℕ) (slash : Bool) → IsSound tree → Removes tree (nstep tree (Remfile id name slash)).tree id name (nstep tree (Remfile id name slash)).answer
remfile_removes tree id name slash sound =
    in_there (λ o. Removes tree o.tree id name o.answer) tree (dir_at tree id) _ tt
    (λ there is. remfile_at tree sound id name slash there (entry_at there name) is refl)

pub remdir_removes : (tree : Tree) (id : ℕ) (name : List ℕ) → IsSound tree → (nstep tree (Remdir id name)).answer ≡ Done → DirectoryRemoved tree (nstep tree (Remdir id name)).tree id name
remdir_removes tree id name sound =
    in_there (λ o. o.answer ≡ Done → DirectoryRemoved tree o.tree id name) tree (dir_at tree id) _ (λ e. cc)
    (λ there is. remdir_at tree sound id name there (entry_at there name) is refl)

-- an entry is moved

says_true : (over : Option Node) → IsMoved (move_answer over) over
says_true None = λ file e. cc
says_true (Some (Dir id)) = λ file e. cc
says_true (Some (Link id text)) = λ file e. cc
says_true (Some (File file)) = refl
says_true (Some (Mount backend)) = λ file e. cc

moved_entry : (old new : Tree) (from : ℕ) (name : List ℕ) (to : ℕ) (new_name : List ℕ) (node : Node) (over : Option Node) → Moves old new from name to new_name node over → EntryMoved old new from name to new_name
moved_entry old new from name to new_name node over m = record {
  node = node;
  stood = m.stood;
  stands = m.at;
  absent = m.gone;
  others = m.apart;
  parent = λ child e. m.child child (ap dir_of e);
  replaced = λ child e. (let same : dir_in over ≡ Some child = ap dir_in (sym m.stood_over ∙ e) in (not_there new child (m.freed child same), m.empty child same));
  parents = λ id not_node not_over. m.others id (λ e. not_node (is_dir node id e)) (λ e. not_over (m.stood_over ∙ is_dir_in over id e));
}

module _ (tree : Tree) (sound : IsSound tree) (from : ℕ) (name : List ℕ) (to : ℕ) (new_name : List ℕ) (slash : Bool) where
  abbrev Goes : NamesOutcome → Type 0
  Goes outcome = SaysMoved outcome.answer → IsMoved outcome.answer (node_at tree to new_name) × EntryMoved tree outcome.tree from name to new_name

  move_at : (source target : Listing) (node over : Option Node) → dir_at tree from ≡ Some source → dir_at tree to ≡ Some target → entry_at source name ≡ node → entry_at target new_name ≡ over → Goes (move_outcome_at tree from name to new_name slash node over)
  move_at source target None over here there h k = λ said. absurd said
  move_at source target (Some node) over here there h k =
      in_allowed Goes tree (move_fault tree node to slash) _ (λ error is said. absurd said) (λ may_move.
      in_allowed Goes tree (mount_fault over) _ (λ error is said. absurd said) (λ no_mount.
      in_apart Goes tree (is_same_entry from name to new_name) _ (λ one said. absurd said) (λ differ.
      in_allowed Goes tree (over_fault tree node over) _ (λ error is said. absurd said) (λ may_replace said.
      (let stands_over : node_at tree to new_name ≡ over = ap (λ (d : Option Listing). node_in d new_name) there ∙ k in
      let m = moves_so tree from name to new_name node over target.parent sound (stood tree sound from name source node here h) stands_over (ap parent_of there) (apart_entries tree sound from name to new_name differ)
      (λ id e. not_inside tree sound node to slash id may_move e) (λ id e. replaced_empty tree sound node over id may_replace e) in
      (subst (λ (o : Option Node). IsMoved (move_answer over) o) (sym stands_over) (says_true over), moved_entry tree _ from name to new_name node over m))))))

  pub move_moves : Goes (nstep tree (Move from name to new_name slash))
  move_moves =
      in_there Goes tree (dir_at tree from) _ (λ said. absurd said) (λ source here.
      in_there Goes tree (dir_at tree to) _ (λ said. absurd said) (λ target there.
      move_at source target (entry_at source name) (entry_at target new_name) here there refl refl))

answers_other : (over : Option Node) → move_answer over ≡ Same → ⊥
answers_other None e = cc
answers_other (Some (Dir id)) e = cc
answers_other (Some (Link id text)) e = cc
answers_other (Some (File file)) e = cc
answers_other (Some (Mount backend)) e = cc

same_number : (a b : ℕ) → (a == b) ≡ true → a ≡ b
same_number a b h = grind (arith, nat_tests)

one_entry : (from : ℕ) (name : List ℕ) (to : ℕ) (new_name : List ℕ) → is_same_entry from name to new_name ≡ true → (from ≡ to) × (name ≡ new_name)
one_entry from name to new_name h =
    let (one, other) = both_true (from == to) (pointwise nat_eq name new_name) h in
    (same_number from to one, same_bytes name new_name other)

module _ (tree : Tree) (from : ℕ) (name : List ℕ) (to : ℕ) (new_name : List ℕ) (slash : Bool) where
  abbrev One : NamesOutcome → Type 0
  One outcome = outcome.answer ≡ Same → (from ≡ to) × (name ≡ new_name)

  one_at : (node over : Option Node) → One (move_outcome_at tree from name to new_name slash node over)
  one_at None over = λ e. cc
  one_at (Some node) over =
      in_allowed One tree (move_fault tree node to slash) _ (λ error is e. cc) (λ may_move.
      in_allowed One tree (mount_fault over) _ (λ error is e. cc) (λ no_mount.
      in_apart One tree (is_same_entry from name to new_name) _ (λ one e. one_entry from name to new_name one) (λ differ.
      in_allowed One tree (over_fault tree node over) _ (λ error is e. cc) (λ may_replace e.
      absurd (answers_other over e)))))

  pub same_is_one_entry : One (nstep tree (Move from name to new_name slash))
  same_is_one_entry =
      in_there One tree (dir_at tree from) _ (λ e. cc) (λ source here.
      in_there One tree (dir_at tree to) _ (λ e. cc) (λ target there.
      one_at (entry_at source name) (entry_at target new_name)))

-- lists are in order

sorted_none : IsStrictlySortedBy byte_order []
unfolding IsStrictlySortedBy
sorted_none = tt

sorted_drop : (count : ℕ) (names : List (List ℕ)) → IsStrictlySortedBy byte_order names → IsStrictlySortedBy byte_order (drop count names)
sorted_drop zero names sorted = sorted
sorted_drop (suc count) [] sorted = sorted
sorted_drop (suc count) (name ∷ names) sorted = sorted_drop count names (sorted_tail byte_order name names sorted)

below_take : (low : List ℕ) (count : ℕ) (names : List (List ℕ)) → AllByRecursion (λ other. byte_order low other ≡ Less) names → AllByRecursion (λ other. byte_order low other ≡ Less) (take count names)
below_take low zero names below = tt
below_take low (suc count) [] below = tt
below_take low (suc count) (name ∷ names) below = (below.0, below_take low count names below.1)

sorted_take : (count : ℕ) (names : List (List ℕ)) → IsStrictlySortedBy byte_order names → IsStrictlySortedBy byte_order (take count names)
unfolding IsStrictlySortedBy
sorted_take zero names sorted = tt
sorted_take (suc count) [] sorted = tt
sorted_take (suc count) (name ∷ names) sorted = (below_take name count names sorted.0, sorted_take count names sorted.1)

pub lists_are_in_order : (tree : Tree) (id start : ℕ) (names : List (List ℕ)) → IsSound tree → (nstep tree (ListOp id start)).answer ≡ Names names → IsStrictlySortedBy byte_order names
lists_are_in_order tree id start names sound =
    in_there (λ o. o.answer ≡ Names names → IsStrictlySortedBy byte_order names) tree (dir_at tree id) _ (λ e. cc) (λ there is e.
    (let same : names_from there start ≡ names = cc in
    subst (λ ns. IsStrictlySortedBy byte_order ns) same
    (sorted_take list_max (drop start (keys_of there.entries)) (sorted_drop start (keys_of there.entries) (sound.names id there is)))))

-- mounts stay

abbrev SameMounts : Tree → Tree → Type 0
SameMounts old new = (id : ℕ) (name : List ℕ) (backend : ℕ) → node_at new id name ≡ Some (Mount backend) ↔ node_at old id name ≡ Some (Mount backend)

same_node : (new old : Option Node) (backend : ℕ) → new ≡ old → new ≡ Some (Mount backend) ↔ old ≡ Some (Mount backend)
same_node new old backend e = (λ h. sym e ∙ h, λ h. e ∙ h)

no_mounts : (new old : Option Node) (backend : ℕ) → NoMount new → NoMount old → new ≡ Some (Mount backend) ↔ old ≡ Some (Mount backend)
no_mounts new old backend not_new not_old = (λ h. absurd (not_new backend h), λ h. absurd (not_old backend h))

at_place : (tree : Tree) (place : ℕ) (name : List ℕ) (id : ℕ) (other : List ℕ) → (id ≡ place) × (other ≡ name) → node_at tree id other ≡ node_at tree place name
at_place tree place name id other (e, f) = ap (λ (i : ℕ). node_at tree i other) e ∙ ap (λ (n : List ℕ). node_at tree place n) f

-- no mount stands at a place where something else does, or nothing
not_at : (tree : Tree) (place : ℕ) (name : List ℕ) (id : ℕ) (other : List ℕ) (found : Option Node) → (id ≡ place) × (other ≡ name) → node_at tree place name ≡ found → NoMount found → NoMount (node_at tree id other)
not_at tree place name id other found e is none = λ backend h. none backend (sym is ∙ sym (at_place tree place name id other e) ∙ h)

none_there : NoMount None
none_there = λ backend e. cc

shape_mounts : (tree : Tree) (outcome : NamesOutcome) → Shape tree outcome → SameMounts tree outcome.tree
shape_mounts tree outcome (inl s) id name backend = same_node _ _ backend (ap (λ (t : Tree). node_at t id name) s.same)
shape_mounts tree outcome (inr (inl g)) id name backend =
    elim (same_place g.place g.name id name) [
      | inl e ↦ no_mounts _ _ backend (not_at outcome.tree g.place g.name id name (Some g.node) e g.grows.at g.no_mount) (not_at tree g.place g.name id name None e g.grows.absent none_there)
      | inr a ↦ same_node _ _ backend (g.grows.apart id name a)
    ]
shape_mounts tree outcome (inr (inr (inl t))) id name backend =
    elim (same_place t.place t.name id name) [
      | inl e ↦ no_mounts _ _ backend (not_at outcome.tree t.place t.name id name None e t.takes.gone none_there) (not_at tree t.place t.name id name (Some t.node) e t.takes.stood t.no_mount)
      | inr a ↦ same_node _ _ backend (t.takes.apart id name a)
    ]
shape_mounts tree outcome (inr (inr (inr w))) id name backend =
    elim (same_place w.to w.new_name id name) [
      | inl e ↦ no_mounts _ _ backend (not_at outcome.tree w.to w.new_name id name (Some w.node) e w.moves.at w.no_mount) (not_at tree w.to w.new_name id name w.over e w.moves.stood_over w.no_mount_over)
      | inr a ↦ elim (same_place w.from w.name id name) [
        | inl e ↦ no_mounts _ _ backend (not_at outcome.tree w.from w.name id name None e w.moves.gone none_there) (not_at tree w.from w.name id name (Some w.node) e w.moves.stood w.no_mount)
        | inr b ↦ same_node _ _ backend (w.moves.apart id name b a)
      ]
    ]

pub mounts_after : (tree : Tree) (ops : List NameOp) → IsSound tree → SameMounts tree (tree_after tree ops)
mounts_after tree [] sound id name backend = (λ h. h, λ h. h)
mounts_after tree (op ∷ ops) sound id name backend =
    let (later, back) = mounts_after (nstep tree op).tree ops (step_sound tree op sound) id name backend in
    let (first, again) = shape_mounts tree (nstep tree op) (shape_of tree op sound) id name backend in
    (λ h. first (later h), λ h. back (again h))

fold_last : (root : Listing) (mounts : List (List ℕ × ℕ)) (mount : List ℕ × ℕ) → fold with_mount root (mounts ++ mount ∷ []) ≡ with_mount (fold with_mount root mounts) mount
fold_last root [] mount = refl
fold_last root (first ∷ mounts) mount = fold_last (with_mount root first) mounts mount

pub opening_mounts : (mounts : List (List ℕ × ℕ)) → OpeningMounts mounts
opening_mounts mounts = record {
  none = nothing;
  last = λ name backend. ap (λ (root : Listing). entry_at root name) (fold_last (empty_in 0) mounts (name, backend)) ∙ entered_here (fold with_mount (empty_in 0) mounts).entries name (Mount backend);
  others = rest;
}
  where
    nothing : (id : ℕ) (name : List ℕ) → node_at (opening []) id name ≡ None
    nothing zero name = refl
    nothing (suc id) name = refl

    rest : (name : List ℕ) (backend : ℕ) (other : ℕ) (other_name : List ℕ) → AreApart 0 name other other_name → node_at (opening (mounts ++ (name, backend) ∷ [])) other other_name ≡ node_at (opening mounts) other other_name
    rest name backend zero other_name apart = ap (λ (root : Listing). entry_at root other_name) (fold_last (empty_in 0) mounts (name, backend)) ∙ entered_other (fold with_mount (empty_in 0) mounts).entries name other_name (Mount backend) (apart refl)
    rest name backend (suc other) other_name apart = refl
