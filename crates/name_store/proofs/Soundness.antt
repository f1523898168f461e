-- The opening is sound, and each operation leaves a sound tree sound.
use Rattle.std.proofs.Common.{◌≡◌, ◌≢◌, ℕ, ◌==◌, ◌&&◌, zero, suc, Bool, true, false, if◌then◌else◌, nat_eq, List, [], ◌∷◌, length, fold, Option, None, Some, inl, inr, refl, sym, ap, subst, ◌∙◌, arith}
use Rattle.std.proofs.lemmas.Bool.Decides.{nat_tests}
use Rattle.std.specs.Cmp.Lexicographic.{pointwise, nat_list_eq_equiv}
use Rattle.std.specs.List.Sorted.{IsStrictlySortedBy}
use Rattle.wf_core.specs.declared.errno.Errno.{Errno}
use Rattle.name_store.specs.declared.operation.Node.{Node}
use Rattle.name_store.specs.declared.operation.Node.TheVariants.{Dir, Link, File, Mount}
use Rattle.name_store.specs.declared.operation.NameOp.{NameOp}
use Rattle.name_store.specs.declared.operation.NameOp.TheVariants.{Look, Parent, Makedir, Addlink, Addfile, Remfile, Remdir, Move, List as ListOp}
use Rattle.name_store.specs.NameTrees.{Tree, Listing, NamesOutcome, byte_order, dir_at, dir_in, dir_of, empty_in, entry_at, addfile_outcome_at, is_empty, is_inside, is_same_entry, addlink_outcome_at, makedir_outcome_at, mount_fault, move_fault, move_outcome_at, nstep, opening, over_fault, remdir_outcome_at, remdir_child_outcome, remfile_outcome_at, with_entry, with_mount}
use Rattle.name_store.specs.Sound.{AreApart, node_in, node_at, parent_of, parent_at, id_of, climb, IsSound}
use Rattle.name_store.proofs.Entries.{entered_here, entered_other, entered_sorted, same_name, apart_names}
use Rattle.name_store.proofs.Outcomes.{in_allowed, in_apart, in_there}
use Rattle.name_store.proofs.Transitions.{some}
use Rattle.name_store.proofs.Orders.{Sorted}
use Rattle.name_store.proofs.Makings.{filed_sound, grown_sound, linked_sound}
use Rattle.name_store.proofs.Takings.{removed_sound, unlinked_sound}
use Rattle.name_store.proofs.Relocations.{moved_sound}

-- a root that has mounts alone
record Mounted (root : Listing) : Type 0 where
  parent : root.parent ≡ 0
  names : Sorted root
  mounts : (name : List ℕ) (node : Node) → entry_at root name ≡ Some node → (backend : ℕ) × (node ≡ Mount backend)

sorted_none : IsStrictlySortedBy byte_order []
unfolding IsStrictlySortedBy
sorted_none = tt

mounted_none : Mounted (empty_in 0)
mounted_none = record { parent = refl; names = sorted_none; mounts = λ name node h. cc }

mounted_more : (root : Listing) (mount : List ℕ × ℕ) → Mounted root → Mounted (with_mount root mount)
mounted_more root (name, backend) m = record {
  parent = m.parent;
  names = entered_sorted root.entries name (Mount backend) m.names;
  mounts = λ other node h. at_name other node h;
}
  where
    at_name : (other : List ℕ) (node : Node) → entry_at (with_entry root name (Mount backend)) other ≡ Some node → (b : ℕ) × (node ≡ Mount b)
    at_name other node h =
        elim (same_name other name) [
          | inl e ↦
              let here : Some (Mount backend) ≡ Some node = sym (entered_here root.entries name (Mount backend)) ∙ ap (entry_at (with_entry root name (Mount backend))) (sym e) ∙ h in
              let one : node ≡ Mount backend = cc in
              (backend, one)
          | inr ne ↦ m.mounts other node (sym (entered_other root.entries name other (Mount backend) (apart_names other name ne)) ∙ h)
        ]

mounted_all : (root : Listing) (mounts : List (List ℕ × ℕ)) → Mounted root → Mounted (fold with_mount root mounts)
mounted_all root [] m = m
mounted_all root (mount ∷ mounts) m = mounted_all (with_mount root mount) mounts (mounted_more root mount m)

module _ (root : Listing) (m : Mounted root) where
  abbrev only : Tree
  only = Some root ∷ []

  only_entry : (id parent : ℕ) → parent_at only id ≡ Some parent → id ≢ 0 → (name : List ℕ) × (node_at only parent name ≡ Some (Dir id))
  only_entry zero parent h ne = absurd (ne refl)
  only_entry (suc id) parent h ne = cc

  only_mounts : (id : ℕ) (name : List ℕ) (node : Node) → node_at only id name ≡ Some node → (backend : ℕ) × (node ≡ Mount backend)
  only_mounts zero name node h = m.mounts name node h
  only_mounts (suc id) name node h = cc

  only_rooted : (id parent : ℕ) → parent_at only id ≡ Some parent → climb only (length only) id ≡ 0
  only_rooted zero parent h = m.parent
  only_rooted (suc id) parent h = cc

  only_names : (id : ℕ) (directory : Listing) → dir_at only id ≡ Some directory → Sorted directory
  only_names zero directory h = (let one : root ≡ directory = cc in subst Sorted one m.names)
  only_names (suc id) directory h = cc

  only_sound : IsSound only
  only_sound = record {
    root = ap (λ (p : ℕ). some p) m.parent;
    rooted = only_rooted;
    entry = only_entry;
    child = λ id child name h. (let (backend, e) = only_mounts id name (Dir child) h in cc);
    link = λ id link name text h. (let (backend, e) = only_mounts id name (Link link text) h in cc);
    once = λ id first second name other node twin h k i j. (let (backend, e) = only_mounts first name node h in let none : id_of node ≡ None = ap id_of e in cc);
    names = only_names;
  }

pub opening_sound : (mounts : List (List ℕ × ℕ)) → IsSound (opening mounts)
opening_sound mounts = only_sound (fold with_mount (empty_in 0) mounts) (mounted_all (empty_in 0) mounts mounted_none)

-- each operation
abbrev Stays : NamesOutcome → Type 0
Stays outcome = IsSound outcome.tree

module _ (tree : Tree) (sound : IsSound tree) where
  made_at : (id : ℕ) (name : List ℕ) (directory : Listing) (node : Option Node) → dir_at tree id ≡ Some directory → entry_at directory name ≡ node → Stays (makedir_outcome_at tree id name node)
  made_at id name directory (Some node) there h = sound
  made_at id name directory None there h = grown_sound tree id name directory sound there h

  linked_at : (id : ℕ) (name text : List ℕ) (directory : Listing) (node : Option Node) → dir_at tree id ≡ Some directory → entry_at directory name ≡ node → Stays (addlink_outcome_at tree id name text node)
  linked_at id name text directory (Some node) there h = sound
  linked_at id name text directory None there h = linked_sound tree id name directory sound there h text

  filed_at : (id : ℕ) (name : List ℕ) (file : ℕ) (directory : Listing) (node : Option Node) → dir_at tree id ≡ Some directory → entry_at directory name ≡ node → Stays (addfile_outcome_at tree id name file node)
  filed_at id name file directory (Some node) there h = sound
  filed_at id name file directory None there h = filed_sound tree id name directory sound there h file

  -- what stands in a directory that is there
  pub stood : (id : ℕ) (name : List ℕ) (directory : Listing) (node : Node) → dir_at tree id ≡ Some directory → entry_at directory name ≡ Some node → node_at tree id name ≡ Some node
  stood id name directory node there h = ap (λ (d : Option Listing). node_in d name) there ∙ h

  unfiled_at : (id : ℕ) (name : List ℕ) (slash : Bool) (directory : Listing) (node : Option Node) → dir_at tree id ≡ Some directory → entry_at directory name ≡ node → Stays (remfile_outcome_at tree id name slash node)
  unfiled_at id name slash directory None there h = sound
  unfiled_at id name slash directory (Some (Dir child)) there h = sound
  unfiled_at id name slash directory (Some (Mount backend)) there h = sound
  unfiled_at id name true directory (Some (File file)) there h = sound
  unfiled_at id name true directory (Some (Link link text)) there h = sound
  unfiled_at id name false directory (Some (File file)) there h = unlinked_sound tree id name (File file) sound (stood id name directory (File file) there h) refl
  unfiled_at id name false directory (Some (Link link text)) there h = unlinked_sound tree id name (Link link text) sound (stood id name directory (Link link text) there h) refl

  emptied : (id : ℕ) (name : List ℕ) (child : ℕ) (empty : Bool) → node_at tree id name ≡ Some (Dir child) → is_empty (dir_at tree child) ≡ empty → Stays (remdir_child_outcome tree id name child empty)
  emptied id name child false h e = sound
  emptied id name child true h e = removed_sound tree id name child sound h e

  removed_at : (id : ℕ) (name : List ℕ) (directory : Listing) (node : Option Node) → dir_at tree id ≡ Some directory → entry_at directory name ≡ node → Stays (remdir_outcome_at tree id name node)
  removed_at id name directory None there h = sound
  removed_at id name directory (Some (Mount backend)) there h = sound
  removed_at id name directory (Some (File file)) there h = sound
  removed_at id name directory (Some (Link link text)) there h = sound
  removed_at id name directory (Some (Dir child)) there h = emptied id name child (is_empty (dir_at tree child)) (stood id name directory (Dir child) there h) refl

  chosen : (fault : Errno) (b : Bool) → (if b then Some fault else None) ≡ None → b ≡ false
  chosen fault true h = cc
  chosen fault false h = refl

  chosen_not : (fault : Errno) (b : Bool) → (if b then None else Some fault) ≡ None → b ≡ true
  chosen_not fault true h = refl
  chosen_not fault false h = cc

  -- a directory that may be moved is not moved into itself
  pub not_inside : (node : Node) (to : ℕ) (slash : Bool) (id : ℕ) → move_fault tree node to slash ≡ None → dir_of node ≡ Some id → is_inside (length tree) tree id to ≡ false
  not_inside (Dir child) to slash id h e =
      let same : child ≡ id = cc in
      ap (λ (i : ℕ). is_inside (length tree) tree i to) (sym same) ∙ chosen _ (is_inside (length tree) tree child to) h
  not_inside (Link link text) to slash id h e = cc
  not_inside (File file) to slash id h e = cc
  not_inside (Mount backend) to slash id h e = cc

  -- a directory that may be replaced is empty
  pub replaced_empty : (node : Node) (over : Option Node) (id : ℕ) → over_fault tree node over ≡ None → dir_in over ≡ Some id → is_empty (dir_at tree id) ≡ true
  replaced_empty node None id h e = cc
  replaced_empty (Dir child) (Some (Dir other)) id h e =
      let same : other ≡ id = cc in
      ap (λ (i : ℕ). is_empty (dir_at tree i)) (sym same) ∙ chosen_not _ (is_empty (dir_at tree other)) h
  replaced_empty (Link link text) (Some (Dir other)) id h e = cc
  replaced_empty (File file) (Some (Dir other)) id h e = cc
  replaced_empty (Mount backend) (Some (Dir other)) id h e = cc
  replaced_empty node (Some (Link link text)) id h e = cc
  replaced_empty node (Some (File file)) id h e = cc
  replaced_empty node (Some (Mount backend)) id h e = cc

  -- two entries that are not the same one are apart
  both_same : (from : ℕ) (name : List ℕ) (to : ℕ) (other : List ℕ) → to ≡ from → other ≡ name → is_same_entry from name to other ≡ true
  both_same from name to other e f =
      ap (λ (i : ℕ). is_same_entry from name i other) e
      ∙ ap (λ (n : List ℕ). is_same_entry from name from n) f
      ∙ ap (λ (b : Bool). b && pointwise nat_eq name name) (let one : (from == from) ≡ true = grind (arith, nat_tests) in one)
      ∙ nat_list_eq_equiv.refl name

  pub apart_entries : (from : ℕ) (name : List ℕ) (to : ℕ) (other : List ℕ) → is_same_entry from name to other ≡ false → AreApart from name to other
  apart_entries from name to other h e f = (let clash : true ≡ false = sym (both_same from name to other e f) ∙ h in cc)

  moved_at : (from : ℕ) (name : List ℕ) (to : ℕ) (other : List ℕ) (slash : Bool) (source target : Listing) (node over : Option Node) → dir_at tree from ≡ Some source → dir_at tree to ≡ Some target → entry_at source name ≡ node → entry_at target other ≡ over → Stays (move_outcome_at tree from name to other slash node over)
  moved_at from name to other slash source target None over here there h k = sound
  moved_at from name to other slash source target (Some node) over here there h k =
      in_allowed Stays tree (move_fault tree node to slash) _ (λ error is. sound) (λ may_move.
      in_allowed Stays tree (mount_fault over) _ (λ error is. sound) (λ no_mount.
      in_apart Stays tree (is_same_entry from name to other) _ (λ one. sound) (λ differ.
      in_allowed Stays tree (over_fault tree node over) _ (λ error is. sound) (λ may_replace.
      moved_sound tree from name to other node over target.parent sound (stood from name source node here h)
      (ap (λ (d : Option Listing). node_in d other) there ∙ k) (ap parent_of there) (apart_entries from name to other differ)
      (λ id e. not_inside node to slash id may_move e) (λ id e. replaced_empty node over id may_replace e)))))

pub step_sound : (tree : Tree) (op : NameOp) → IsSound tree → IsSound (nstep tree op).tree
step_sound tree (Look id name) sound = in_there Stays tree (dir_at tree id) _ sound (λ there is. sound)
step_sound tree (Parent id) sound = in_there Stays tree (dir_at tree id) _ sound (λ there is. sound)
step_sound tree (Makedir id name) sound = in_there Stays tree (dir_at tree id) _ sound (λ there is. made_at tree sound id name there (entry_at there name) is refl)
step_sound tree (Addlink id name text) sound = in_there Stays tree (dir_at tree id) _ sound (λ there is. linked_at tree sound id name text there (entry_at there name) is refl)
step_sound tree (Addfile id name file) sound = in_there Stays tree (dir_at tree id) _ sound (λ there is. filed_at tree sound id name file there (entry_at there name) is refl)
step_sound tree (Remfile id name slash) sound = in_there Stays tree (dir_at tree id) _ sound (λ there is. unfiled_at tree sound id name slash there (entry_at there name) is refl)
step_sound tree (Remdir id name) sound = in_there Stays tree (dir_at tree id) _ sound (λ there is. removed_at tree sound id name there (entry_at there name) is refl)
step_sound tree (Move from name to new_name slash) sound =
    in_there Stays tree (dir_at tree from) _ sound (λ source here.
    in_there Stays tree (dir_at tree to) _ sound (λ target there.
    moved_at tree sound from name to new_name slash source target (entry_at source name) (entry_at target new_name) here there refl refl))
step_sound tree (ListOp id start) sound = in_there Stays tree (dir_at tree id) _ sound (λ there is. sound)
