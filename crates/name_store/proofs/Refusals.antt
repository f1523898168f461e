-- After an error, `same`, or what was only asked, the tree is as it was.
use Rattle.std.proofs.Common.{◌≡◌, ℕ, Bool, true, false, List, Option, None, Some, Result, Ok, Err, IfOk, OnErr, refl, sym, ap, subst, ◌∙◌}
use Rattle.std.specs.declared.alloc.AllocError.{AllocError}
use Rattle.name_store.specs.declared.operation.Node.{Node}
use Rattle.name_store.specs.declared.operation.Node.TheVariants.{Dir, Link, File, Mount}
use Rattle.name_store.specs.declared.operation.NameOp.{NameOp}
use Rattle.name_store.specs.declared.operation.NameOp.TheVariants.{Look, Parent, Makedir, Addlink, Addfile, Remfile, Remdir, Move, List as ListOp}
use Rattle.name_store.specs.declared.operation.NameAnswer.{NameAnswer}
use Rattle.name_store.specs.NameTrees.{Tree, NamesOutcome, dir_at, entry_at, addfile_outcome_at, is_empty, is_same_entry, outcome_of, addlink_outcome_at, makedir_outcome_at, mount_fault, move_answer, move_fault, after_move, move_outcome_at, nstep, over_fault, remdir_outcome_at, remdir_child_outcome, remfile_outcome_at}
use Rattle.name_store.specs.Sound.{IsSound}
use Rattle.name_store.specs.Laws.{LeavesTree}
use Rattle.name_store.proofs.Outcomes.{in_allowed, in_apart, in_there}
use Rattle.name_store.proofs.Soundness.{step_sound}

abbrev Keeps : Tree → NamesOutcome → Type 0
Keeps tree outcome = LeavesTree outcome.answer → outcome.tree ≡ tree

module _ (tree : Tree) where
  made_keeps : (id : ℕ) (name : List ℕ) (node : Option Node) → Keeps tree (makedir_outcome_at tree id name node)
  made_keeps id name (Some node) = λ h. refl
  made_keeps id name None = λ h. absurd h

  linked_keeps : (id : ℕ) (name text : List ℕ) (node : Option Node) → Keeps tree (addlink_outcome_at tree id name text node)
  linked_keeps id name text (Some node) = λ h. refl
  linked_keeps id name text None = λ h. absurd h

  filed_keeps : (id : ℕ) (name : List ℕ) (file : ℕ) (node : Option Node) → Keeps tree (addfile_outcome_at tree id name file node)
  filed_keeps id name file (Some node) = λ h. refl
  filed_keeps id name file None = λ h. absurd h

  file_keeps : (id : ℕ) (name : List ℕ) (slash : Bool) (node : Option Node) → Keeps tree (remfile_outcome_at tree id name slash node)
  file_keeps id name slash None = λ h. refl
  file_keeps id name slash (Some (Dir child)) = λ h. refl
  file_keeps id name slash (Some (Mount backend)) = λ h. refl
  file_keeps id name true (Some (File file)) = λ h. refl
  file_keeps id name true (Some (Link link text)) = λ h. refl
  file_keeps id name false (Some (File file)) = λ h. absurd h
  file_keeps id name false (Some (Link link text)) = λ h. absurd h

  empty_keeps : (id : ℕ) (name : List ℕ) (child : ℕ) (empty : Bool) → Keeps tree (remdir_child_outcome tree id name child empty)
  empty_keeps id name child false = λ h. refl
  empty_keeps id name child true = λ h. absurd h

  dir_keeps : (id : ℕ) (name : List ℕ) (node : Option Node) → Keeps tree (remdir_outcome_at tree id name node)
  dir_keeps id name None = λ h. refl
  dir_keeps id name (Some (Mount backend)) = λ h. refl
  dir_keeps id name (Some (File file)) = λ h. refl
  dir_keeps id name (Some (Link link text)) = λ h. refl
  dir_keeps id name (Some (Dir child)) = empty_keeps id name child (is_empty (dir_at tree child))

  answer_keeps : (new : Tree) (over : Option Node) → Keeps tree (outcome_of new (move_answer over))
  answer_keeps new None = λ h. absurd h
  answer_keeps new (Some (Dir id)) = λ h. absurd h
  answer_keeps new (Some (Link id text)) = λ h. absurd h
  answer_keeps new (Some (File file)) = λ h. absurd h
  answer_keeps new (Some (Mount backend)) = λ h. absurd h

  node_keeps : (from : ℕ) (name : List ℕ) (to : ℕ) (other : List ℕ) (slash : Bool) (node over : Option Node) → Keeps tree (move_outcome_at tree from name to other slash node over)
  node_keeps from name to other slash None over = λ h. refl
  node_keeps from name to other slash (Some node) over =
      in_allowed (Keeps tree) tree (move_fault tree node to slash) _ (λ error is h. refl) (λ may_move.
      in_allowed (Keeps tree) tree (mount_fault over) _ (λ error is h. refl) (λ no_mount.
      in_apart (Keeps tree) tree (is_same_entry from name to other) _ (λ one h. refl) (λ differ.
      in_allowed (Keeps tree) tree (over_fault tree node over) _ (λ error is h. refl) (λ may_replace.
      answer_keeps (after_move tree from name to other node over) over))))

pub refused_same : (tree : Tree) (op : NameOp) → LeavesTree (nstep tree op).answer → (nstep tree op).tree ≡ tree
refused_same tree (Look id name) = in_there (Keeps tree) tree (dir_at tree id) _ (λ h. refl) (λ there is h. refl)
refused_same tree (Parent id) = in_there (Keeps tree) tree (dir_at tree id) _ (λ h. refl) (λ there is h. refl)
refused_same tree (Makedir id name) = in_there (Keeps tree) tree (dir_at tree id) _ (λ h. refl) (λ there is. made_keeps tree id name (entry_at there name))
refused_same tree (Addlink id name text) = in_there (Keeps tree) tree (dir_at tree id) _ (λ h. refl) (λ there is. linked_keeps tree id name text (entry_at there name))
refused_same tree (Addfile id name file) = in_there (Keeps tree) tree (dir_at tree id) _ (λ h. refl) (λ there is. filed_keeps tree id name file (entry_at there name))
refused_same tree (Remfile id name slash) = in_there (Keeps tree) tree (dir_at tree id) _ (λ h. refl) (λ there is. file_keeps tree id name slash (entry_at there name))
refused_same tree (Remdir id name) = in_there (Keeps tree) tree (dir_at tree id) _ (λ h. refl) (λ there is. dir_keeps tree id name (entry_at there name))
refused_same tree (Move from name to new_name slash) =
    in_there (Keeps tree) tree (dir_at tree from) _ (λ h. refl) (λ source here.
    in_there (Keeps tree) tree (dir_at tree to) _ (λ h. refl) (λ target there.
    node_keeps tree from name to new_name slash (entry_at source name) (entry_at target new_name)))
refused_same tree (ListOp id start) = in_there (Keeps tree) tree (dir_at tree id) _ (λ h. refl) (λ there is h. refl)

-- what a step of the code leaves: the definition's tree, or the old one where it found no memory
pub step_unchanged : (old new : Tree) (op : NameOp) (r : Result NameAnswer AllocError) → IfOk r (λ answer. nstep old op ≡ record { tree = new; answer = answer }) → IfOk r (λ answer. LeavesTree answer → new ≡ old)
step_unchanged old new op (Err error) h = tt
step_unchanged old new op (Ok answer) h = λ l.
    ap (λ (o : NamesOutcome). o.tree) (sym h) ∙ refused_same old op (subst (λ (o : NamesOutcome). LeavesTree o.answer) (sym h) l)

pub step_keeps_sound : (old new : Tree) (op : NameOp) (r : Result NameAnswer AllocError) → IsSound old → IfOk r (λ answer. nstep old op ≡ record { tree = new; answer = answer }) → OnErr r (new ≡ old) → IsSound new
step_keeps_sound old new op (Err error) sound h same = subst IsSound (sym same) sound
step_keeps_sound old new op (Ok answer) sound h same = subst (λ (o : NamesOutcome). IsSound o.tree) h (step_sound old op sound)
