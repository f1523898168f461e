-- What an operation does to a sound tree: nothing, or an entry is made, taken out or moved.
use Rattle.std.proofs.Common.{◌≡◌, ℕ, Bool, true, false, ◌⊎◌, inl, inr, List, length, Option, None, Some, refl, ap, ◌∙◌}
use Rattle.name_store.specs.declared.operation.Node.{Node}
use Rattle.name_store.specs.declared.operation.Node.TheVariants.{Dir, Link, File, Mount}
use Rattle.name_store.specs.declared.operation.NameOp.{NameOp}
use Rattle.name_store.specs.declared.operation.NameOp.TheVariants.{Look, Parent, Makedir, Addlink, Addfile, Remfile, Remdir, Move, List as ListOp}
use Rattle.name_store.specs.NameTrees.{Tree, Listing, NamesOutcome, dir_at, entry_at, addfile_outcome_at, addlink_outcome_at, is_empty, is_same_entry, look_answer_at, makedir_outcome_at, mount_fault, move_answer, move_fault, move_outcome_at, nstep, over_fault, remdir_child_outcome, remdir_outcome_at, remfile_outcome_at}
use Rattle.name_store.specs.Sound.{IsSound, id_of, node_at, node_in, parent_of}
use Rattle.name_store.specs.IdLaws.{made_id}
use Rattle.name_store.proofs.Makings.{filed_grows, grown_grows, linked_grows}
use Rattle.name_store.proofs.Moves.{Moves}
use Rattle.name_store.proofs.Outcomes.{in_allowed, in_apart, in_there}
use Rattle.name_store.proofs.Relocations.{moves_so}
use Rattle.name_store.proofs.Soundness.{apart_entries, not_inside, replaced_empty, stood}
use Rattle.name_store.proofs.Takings.{removed_takes, unlinked_takes}
use Rattle.name_store.proofs.Transitions.{Grows, Takes}

-- it is no mount
abbrev pub NoMount : Option Node → Type 0
NoMount node = (backend : ℕ) → node ≡ Some (Mount backend) → ⊥

pub record Same (tree : Tree) (outcome : NamesOutcome) : Type 0 where
  pub same : outcome.tree ≡ tree
  pub id : made_id outcome.answer ≡ None

pub record Grew (tree : Tree) (outcome : NamesOutcome) : Type 0 where
  pub place : ℕ
  pub name : List ℕ
  pub node : Node
  pub last : Option ℕ
  pub grows : Grows tree outcome.tree place name node last
  pub id : made_id outcome.answer ≡ id_of node
  pub no_mount : NoMount (Some node)

pub record Took (tree : Tree) (outcome : NamesOutcome) : Type 0 where
  pub place : ℕ
  pub name : List ℕ
  pub node : Node
  pub takes : Takes tree outcome.tree place name node
  pub id : made_id outcome.answer ≡ None
  pub no_mount : NoMount (Some node)

pub record Went (tree : Tree) (outcome : NamesOutcome) : Type 0 where
  pub from : ℕ
  pub name : List ℕ
  pub to : ℕ
  pub new_name : List ℕ
  pub node : Node
  pub over : Option Node
  pub moves : Moves tree outcome.tree from name to new_name node over
  pub id : made_id outcome.answer ≡ None
  pub no_mount : NoMount (Some node)
  pub no_mount_over : NoMount over

abbrev pub Shape : Tree → NamesOutcome → Type 0
Shape tree outcome = Same tree outcome ⊎ (Grew tree outcome ⊎ (Took tree outcome ⊎ Went tree outcome))

-- a node that may be moved or replaced is no mount
movable : (tree : Tree) (node : Node) (to : ℕ) (slash : Bool) → move_fault tree node to slash ≡ None → NoMount (Some node)
movable tree (Mount backend) to slash h = cc
movable tree (Dir id) to slash h = λ b e. cc
movable tree (Link id text) to slash h = λ b e. cc
movable tree (File file) to slash h = λ b e. cc

replaceable : (over : Option Node) → mount_fault over ≡ None → NoMount over
replaceable None h = λ b e. cc
replaceable (Some (Mount backend)) h = cc
replaceable (Some (Dir id)) h = λ b e. cc
replaceable (Some (Link id text)) h = λ b e. cc
replaceable (Some (File file)) h = λ b e. cc

move_makes_none : (over : Option Node) → made_id (move_answer over) ≡ None
move_makes_none None = refl
move_makes_none (Some (Dir id)) = refl
move_makes_none (Some (Link id text)) = refl
move_makes_none (Some (File file)) = refl
move_makes_none (Some (Mount backend)) = refl

look_makes_none : (node : Option Node) → made_id (look_answer_at node) ≡ None
look_makes_none None = refl
look_makes_none (Some node) = refl

module _ (tree : Tree) (sound : IsSound tree) where
  made_shape : (id : ℕ) (name : List ℕ) (directory : Listing) (node : Option Node) → dir_at tree id ≡ Some directory → entry_at directory name ≡ node → Shape tree (makedir_outcome_at tree id name node)
  made_shape id name directory (Some node) there h = inl (record { same = refl; id = refl })
  made_shape id name directory None there h = inr (inl (record { place = id; name = name; node = Dir (length tree); last = Some id; grows = grown_grows tree id name directory sound there h; id = refl; no_mount = λ b e. cc }))

  linked_shape : (id : ℕ) (name text : List ℕ) (directory : Listing) (node : Option Node) → dir_at tree id ≡ Some directory → entry_at directory name ≡ node → Shape tree (addlink_outcome_at tree id name text node)
  linked_shape id name text directory (Some node) there h = inl (record { same = refl; id = refl })
  linked_shape id name text directory None there h = inr (inl (record { place = id; name = name; node = Link (length tree) text; last = None; grows = linked_grows tree id name directory sound there h text; id = refl; no_mount = λ b e. cc }))

  filed_shape : (id : ℕ) (name : List ℕ) (file : ℕ) (directory : Listing) (node : Option Node) → dir_at tree id ≡ Some directory → entry_at directory name ≡ node → Shape tree (addfile_outcome_at tree id name file node)
  filed_shape id name file directory (Some node) there h = inl (record { same = refl; id = refl })
  filed_shape id name file directory None there h = inr (inl (record { place = id; name = name; node = File file; last = None; grows = filed_grows tree id name directory sound there h file; id = refl; no_mount = λ b e. cc }))

  unfiled_shape : (id : ℕ) (name : List ℕ) (slash : Bool) (directory : Listing) (node : Option Node) → dir_at tree id ≡ Some directory → entry_at directory name ≡ node → Shape tree (remfile_outcome_at tree id name slash node)
  unfiled_shape id name slash directory None there h = inl (record { same = refl; id = refl })
  unfiled_shape id name slash directory (Some (Dir child)) there h = inl (record { same = refl; id = refl })
  unfiled_shape id name slash directory (Some (Mount backend)) there h = inl (record { same = refl; id = refl })
  unfiled_shape id name true directory (Some (File file)) there h = inl (record { same = refl; id = refl })
  unfiled_shape id name true directory (Some (Link link text)) there h = inl (record { same = refl; id = refl })
  unfiled_shape id name false directory (Some (File file)) there h = inr (inr (inl (record { place = id; name = name; node = File file; takes = unlinked_takes tree id name (File file) sound (stood tree sound id name directory (File file) there h) refl; id = refl; no_mount = λ b e. cc })))
  unfiled_shape id name false directory (Some (Link link text)) there h = inr (inr (inl (record { place = id; name = name; node = Link link text; takes = unlinked_takes tree id name (Link link text) sound (stood tree sound id name directory (Link link text) there h) refl; id = refl; no_mount = λ b e. cc })))

  emptied_shape : (id : ℕ) (name : List ℕ) (child : ℕ) (empty : Bool) → node_at tree id name ≡ Some (Dir child) → is_empty (dir_at tree child) ≡ empty → Shape tree (remdir_child_outcome tree id name child empty)
  emptied_shape id name child false h e = inl (record { same = refl; id = refl })
  emptied_shape id name child true h e = inr (inr (inl (record { place = id; name = name; node = Dir child; takes = removed_takes tree id name child sound h e; id = refl; no_mount = λ b e. cc })))

  removed_shape : (id : ℕ) (name : List ℕ) (directory : Listing) (node : Option Node) → dir_at tree id ≡ Some directory → entry_at directory name ≡ node → Shape tree (remdir_outcome_at tree id name node)
  removed_shape id name directory None there h = inl (record { same = refl; id = refl })
  removed_shape id name directory (Some (Mount backend)) there h = inl (record { same = refl; id = refl })
  removed_shape id name directory (Some (File file)) there h = inl (record { same = refl; id = refl })
  removed_shape id name directory (Some (Link link text)) there h = inl (record { same = refl; id = refl })
  removed_shape id name directory (Some (Dir child)) there h = emptied_shape id name child (is_empty (dir_at tree child)) (stood tree sound id name directory (Dir child) there h) refl

  moved_shape : (from : ℕ) (name : List ℕ) (to : ℕ) (new_name : List ℕ) (slash : Bool) (source target : Listing) (node over : Option Node) → dir_at tree from ≡ Some source → dir_at tree to ≡ Some target → entry_at source name ≡ node → entry_at target new_name ≡ over → Shape tree (move_outcome_at tree from name to new_name slash node over)
  moved_shape from name to new_name slash source target None over here there h k = inl (record { same = refl; id = refl })
  moved_shape from name to new_name slash source target (Some node) over here there h k =
      in_allowed (Shape tree) tree (move_fault tree node to slash) _ (λ error is. inl (record { same = refl; id = refl })) (λ may_move.
      in_allowed (Shape tree) tree (mount_fault over) _ (λ error is. inl (record { same = refl; id = refl })) (λ no_mount.
      in_apart (Shape tree) tree (is_same_entry from name to new_name) _ (λ one. inl (record { same = refl; id = refl })) (λ differ.
      in_allowed (Shape tree) tree (over_fault tree node over) _ (λ error is. inl (record { same = refl; id = refl })) (λ may_replace.
      inr (inr (inr (record {
        from = from;
        name = name;
        to = to;
        new_name = new_name;
        node = node;
        over = over;
        moves = moves_so tree from name to new_name node over target.parent sound (stood tree sound from name source node here h)
            (ap (λ (d : Option Listing). node_in d new_name) there ∙ k) (ap parent_of there) (apart_entries tree sound from name to new_name differ)
            (λ id e. not_inside tree sound node to slash id may_move e) (λ id e. replaced_empty tree sound node over id may_replace e);
        id = move_makes_none over;
        no_mount = movable tree node to slash may_move;
        no_mount_over = replaceable over no_mount;
      })))))))

pub shape_of : (tree : Tree) (op : NameOp) → IsSound tree → Shape tree (nstep tree op)
shape_of tree (Look id name) sound = in_there (Shape tree) tree (dir_at tree id) _ (inl (record { same = refl; id = refl })) (λ there is. inl (record { same = refl; id = look_makes_none (entry_at there name) }))
shape_of tree (Parent id) sound = in_there (Shape tree) tree (dir_at tree id) _ (inl (record { same = refl; id = refl })) (λ there is. inl (record { same = refl; id = refl }))
shape_of tree (Makedir id name) sound = in_there (Shape tree) tree (dir_at tree id) _ (inl (record { same = refl; id = refl })) (λ there is. made_shape tree sound id name there (entry_at there name) is refl)
shape_of tree (Addlink id name text) sound = in_there (Shape tree) tree (dir_at tree id) _ (inl (record { same = refl; id = refl })) (λ there is. linked_shape tree sound id name text there (entry_at there name) is refl)
shape_of tree (Addfile id name file) sound = in_there (Shape tree) tree (dir_at tree id) _ (inl (record { same = refl; id = refl })) (λ there is. filed_shape tree sound id name file there (entry_at there name) is refl)
shape_of tree (Remfile id name slash) sound = in_there (Shape tree) tree (dir_at tree id) _ (inl (record { same = refl; id = refl })) (λ there is. unfiled_shape tree sound id name slash there (entry_at there name) is refl)
shape_of tree (Remdir id name) sound = in_there (Shape tree) tree (dir_at tree id) _ (inl (record { same = refl; id = refl })) (λ there is. removed_shape tree sound id name there (entry_at there name) is refl)
shape_of tree (Move from name to new_name slash) sound =
    in_there (Shape tree) tree (dir_at tree from) _ (inl (record { same = refl; id = refl })) (λ source here.
    in_there (Shape tree) tree (dir_at tree to) _ (inl (record { same = refl; id = refl })) (λ target there.
    moved_shape tree sound from name to new_name slash source target (entry_at source name) (entry_at target new_name) here there refl refl))
shape_of tree (ListOp id start) sound = in_there (Shape tree) tree (dir_at tree id) _ (inl (record { same = refl; id = refl })) (λ there is. inl (record { same = refl; id = refl }))
