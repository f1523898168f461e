-- A file that is linked is named, whatever one operation does to a tree or a group.
use Rattle.std.proofs.Common.{◌≡◌, ◌≢◌, ◌⊎◌, inl, inr, ℕ, Bool, true, false, List, [], length, Option, None, Some, Ok, refl, sym, ap, subst, ◌∙◌}
use Rattle.std.proofs.lemmas.Bool.{false≢true}
use Rattle.name_store.specs.declared.operation.Node.{Node}
use Rattle.name_store.specs.declared.operation.Node.TheVariants.{Dir, Link, File as FileNode}
use Rattle.name_store.specs.declared.operation.NameOp.{NameOp}
use Rattle.name_store.specs.declared.operation.NameOp.TheVariants as name_op
use Rattle.name_store.specs.declared.operation.NameAnswer.{NameAnswer}
use Rattle.name_store.specs.declared.operation.NameAnswer.TheVariants as name_answer
use Rattle.name_store.specs.NameTrees.{Tree, addfile_outcome, addlink_outcome, dir_at, entry_at, list_answer, look_answer, makedir_outcome, nstep, parent_answer, remdir_outcome, remfile_outcome}
use Rattle.name_store.specs.Sound.{IsSound, node_at}
use Rattle.name_store.specs.EntryLaws.{EntryMade, EntryMoved, IsMoved, Removes}
use Rattle.name_store.proofs.Changes.{same_id, same_place}
use Rattle.name_store.proofs.EntryLemmas.{addfile_enters, addlink_makes, makedir_makes, move_moves, remdir_removes, remfile_removes}
use Rattle.name_store.proofs.Formed.{move_form}
use Rattle.name_store.proofs.Refusals.{refused_same}
use Rattle.file_store.specs.declared.file.File.{File}
use Rattle.file_store.specs.declared.file_operation.FileOp.{FileOp}
use Rattle.file_store.specs.declared.file_operation.FileOp.TheVariants as op
use Rattle.file_store.specs.Tables.{row_at, with_row}
use Rattle.file_store.specs.FileGroups.{Group, file_at, files_after_truncation, files_after_unlink, fstep, is_open, with_files}
use Rattle.file_store.specs.Sound.{IsSound as IsSoundGroup}
use Rattle.file_store.proofs.TableChanges.{changed_here, changed_other, removed_here, removed_other}
use Rattle.file_store.proofs.StepCases.{Ways, step_way}
use Rattle.path_walk.specs.declared.step.StoreAnswer.TheVariants.{Names as NamesAnswer}
use Rattle.path_walk.specs.declared.step.StepAnswer.TheVariants.{Answered}
use Rattle.path_walk.specs.Calls.{unlinked_by}
use Rattle.call_laws.proofs.TakenLemmas.{IsRemoved, addfile_or, addlink_or, asked_or, makedir_or, moved_or, or_gone, remdir_or, remfile_or}

-- some entry of a tree is that file
abbrev pub IsNamed : Tree → ℕ → Type 0
IsNamed tree file = (id : ℕ) × (name : List ℕ) × (node_at tree id name ≡ Some (FileNode file))

-- or the answer tells that the file has lost its entry
abbrev pub NamedOrLost : Tree → NameAnswer → ℕ → Type 0
NamedOrLost tree a file = IsNamed tree file ⊎ (unlinked_by (Answered (NamesAnswer a)) ≡ Some file)

module _ (tree : Tree) (file id : ℕ) (name : List ℕ) (sound : IsSound tree) (stands : node_at tree id name ≡ Some (FileNode file)) where
  unchanged : (new : Tree) (a : NameAnswer) → new ≡ tree → NamedOrLost new a file
  unchanged new a e = inl (id, name, ap (λ (t : Tree). node_at t id name) e ∙ stands)

  beside_made : (new : Tree) (a : NameAnswer) (place : ℕ) (other : List ℕ) (made : Node) → EntryMade tree new place other made → NamedOrLost new a file
  beside_made new a place other made entry = inl (id, name, entry.others id name (λ e f. let clash : None ≡ Some (FileNode file) = sym entry.absent ∙ ap (λ (n : ℕ). node_at tree n other) (sym e) ∙ ap (node_at tree id) (sym f) ∙ stands in cc) ∙ stands)

  -- what stands at the same place is the file
  here_is : (place : ℕ) (other : List ℕ) (node : Node) → id ≡ place → name ≡ other → node_at tree place other ≡ Some node → node ≡ FileNode file
  here_is place other node e f is = let both : Some node ≡ Some (FileNode file) = sym is ∙ ap (λ (n : ℕ). node_at tree n other) (sym e) ∙ ap (node_at tree id) (sym f) ∙ stands in cc

  removed : (place : ℕ) (other : List ℕ) (slash : Bool) → IsRemoved (nstep tree (name_op.Remfile place other slash)).answer → NamedOrLost (nstep tree (name_op.Remfile place other slash)).tree (nstep tree (name_op.Remfile place other slash)).answer file
  removed place other slash (inl (lost, e)) =
      let gone = subst (λ (x : NameAnswer). Removes tree (nstep tree (name_op.Remfile place other slash)).tree place other x) e (remfile_removes tree place other slash sound) in
      elim (same_place place other id name) as (λ _. NamedOrLost (nstep tree (name_op.Remfile place other slash)).tree (nstep tree (name_op.Remfile place other slash)).answer file) [
        | inl (p, q) ↦ let same : FileNode lost ≡ FileNode file = here_is place other (FileNode lost) p q gone.stood in inr (ap (λ (a : NameAnswer). unlinked_by (Answered (NamesAnswer a))) e ∙ lost_is lost same)
        | inr apart ↦ inl (id, name, gone.entry.others id name apart ∙ stands)
      ]
    where
      lost_is : (lost : ℕ) → FileNode lost ≡ FileNode file → Some lost ≡ Some file
      lost_is lost e = cc
  removed place other slash (inr e) =
      let (link, text, gone) = subst (λ (x : NameAnswer). Removes tree (nstep tree (name_op.Remfile place other slash)).tree place other x) e (remfile_removes tree place other slash sound) in
      elim (same_place place other id name) as (λ _. NamedOrLost (nstep tree (name_op.Remfile place other slash)).tree (nstep tree (name_op.Remfile place other slash)).answer file) [
        | inl (p, q) ↦ let clash : Link link text ≡ FileNode file = here_is place other (Link link text) p q gone.stood in cc
        | inr apart ↦ inl (id, name, gone.entry.others id name apart ∙ stands)
      ]

  -- a file that was replaced is told
  replaced : (a : NameAnswer) (over : Option Node) → over ≡ Some (FileNode file) → IsMoved a over → unlinked_by (Answered (NamesAnswer a)) ≡ Some file
  replaced (name_answer.Over lost) over is moved = let both : Some (FileNode lost) ≡ Some (FileNode file) = sym moved ∙ is in cc
  replaced name_answer.Moved over is moved = absurd (moved file is)
  replaced name_answer.Gone over is moved = absurd moved
  replaced name_answer.Absent over is moved = absurd moved
  replaced (name_answer.Found node) over is moved = absurd moved
  replaced (name_answer.MadeDir n) over is moved = absurd moved
  replaced (name_answer.MadeLink n) over is moved = absurd moved
  replaced (name_answer.Taken node) over is moved = absurd moved
  replaced name_answer.Done over is moved = absurd moved
  replaced (name_answer.RemovedFile lost) over is moved = absurd moved
  replaced name_answer.RemovedLink over is moved = absurd moved
  replaced name_answer.Same over is moved = absurd moved
  replaced (name_answer.Names names) over is moved = absurd moved
  replaced (name_answer.Fault error) over is moved = absurd moved

  moved : (from : ℕ) (other : List ℕ) (to : ℕ) (new_name : List ℕ) (new : Tree) (a : NameAnswer) → IsMoved a (node_at tree to new_name) → EntryMoved tree new from other to new_name → NamedOrLost new a file
  moved from other to new_name new a over entry = elim (same_place from other id name) as (λ _. NamedOrLost new a file) [
    | inl (p, q) ↦ inl (to, new_name, entry.stands ∙ ap (λ (n : Node). Some n) (here_is from other entry.node p q entry.stood))
    | inr apart ↦ elim (same_place to new_name id name) as (λ _. NamedOrLost new a file) [
      | inl (p, q) ↦ inr (replaced a (node_at tree to new_name) (ap (λ (n : ℕ). node_at tree n new_name) (sym p) ∙ ap (node_at tree id) (sym q) ∙ stands) over)
      | inr beside ↦ inl (id, name, entry.others id name apart beside ∙ stands)
    ]
  ]

  removed_directory : (place : ℕ) (other : List ℕ) (a : NameAnswer) → (nstep tree (name_op.Remdir place other)).answer ≡ name_answer.Done → NamedOrLost (nstep tree (name_op.Remdir place other)).tree a file
  removed_directory place other a done =
      let gone = remdir_removes tree place other sound done in
      elim (same_place place other id name) as (λ _. NamedOrLost (nstep tree (name_op.Remdir place other)).tree a file) [
        | inl (p, q) ↦ let clash : Dir gone.child ≡ FileNode file = here_is place other (Dir gone.child) p q gone.stood in cc
        | inr apart ↦ inl (id, name, gone.entry.others id name apart ∙ stands)
      ]

pub named_after : (tree : Tree) (o : NameOp) (file : ℕ) → IsSound tree → IsNamed tree file → NamedOrLost (nstep tree o).tree (nstep tree o).answer file
named_after tree (name_op.Look place other) file sound (id, name, stands) = unchanged tree file id name sound stands _ _ (asked_or tree (dir_at tree place) (λ d. look_answer d other))
named_after tree (name_op.Parent place) file sound (id, name, stands) = unchanged tree file id name sound stands _ _ (asked_or tree (dir_at tree place) parent_answer)
named_after tree (name_op.List place start) file sound (id, name, stands) = unchanged tree file id name sound stands _ _ (asked_or tree (dir_at tree place) (λ d. list_answer d start))
named_after tree (name_op.Makedir place other) file sound (id, name, stands) = elim (or_gone tree (dir_at tree place) (makedir_outcome tree place other) (λ a. a ≡ name_answer.MadeDir (length tree)) (λ d. makedir_or tree place other (entry_at d other))) as (λ _. NamedOrLost (nstep tree (name_op.Makedir place other)).tree (nstep tree (name_op.Makedir place other)).answer file) [
  | inl same ↦ unchanged tree file id name sound stands _ _ same
  | inr made ↦ beside_made tree file id name sound stands _ _ place other _ (makedir_makes tree place other (length tree) sound made).entry
]
named_after tree (name_op.Addlink place other text) file sound (id, name, stands) = elim (or_gone tree (dir_at tree place) (addlink_outcome tree place other text) (λ a. a ≡ name_answer.MadeLink (length tree)) (λ d. addlink_or tree place other text (entry_at d other))) as (λ _. NamedOrLost (nstep tree (name_op.Addlink place other text)).tree (nstep tree (name_op.Addlink place other text)).answer file) [
  | inl same ↦ unchanged tree file id name sound stands _ _ same
  | inr made ↦ beside_made tree file id name sound stands _ _ place other _ (addlink_makes tree place other text (length tree) sound made).entry
]
named_after tree (name_op.Addfile place other new) file sound (id, name, stands) = elim (or_gone tree (dir_at tree place) (addfile_outcome tree place other new) (λ a. a ≡ name_answer.Done) (λ d. addfile_or tree place other new (entry_at d other))) as (λ _. NamedOrLost (nstep tree (name_op.Addfile place other new)).tree (nstep tree (name_op.Addfile place other new)).answer file) [
  | inl same ↦ unchanged tree file id name sound stands _ _ same
  | inr made ↦ beside_made tree file id name sound stands _ _ place other _ (addfile_enters tree place other new sound made).entry
]
named_after tree (name_op.Remfile place other slash) file sound (id, name, stands) = elim (or_gone tree (dir_at tree place) (remfile_outcome tree place other slash) IsRemoved (λ d. remfile_or tree place other slash (entry_at d other))) as (λ _. NamedOrLost (nstep tree (name_op.Remfile place other slash)).tree (nstep tree (name_op.Remfile place other slash)).answer file) [
  | inl same ↦ unchanged tree file id name sound stands _ _ same
  | inr gone ↦ removed tree file id name sound stands place other slash gone
]
named_after tree (name_op.Remdir place other) file sound (id, name, stands) = elim (or_gone tree (dir_at tree place) (remdir_outcome tree place other) (λ a. a ≡ name_answer.Done) (λ d. remdir_or tree place other (entry_at d other))) as (λ _. NamedOrLost (nstep tree (name_op.Remdir place other)).tree (nstep tree (name_op.Remdir place other)).answer file) [
  | inl same ↦ unchanged tree file id name sound stands _ _ same
  | inr gone ↦ removed_directory tree file id name sound stands place other _ gone
]
named_after tree (name_op.Move from other to new_name slash) file sound (id, name, stands) = elim (moved_or (nstep tree (name_op.Move from other to new_name slash)).answer from other to new_name slash (move_form tree (nstep tree (name_op.Move from other to new_name slash)).tree from other to new_name slash (Ok (nstep tree (name_op.Move from other to new_name slash)).answer) refl)) as (λ _. NamedOrLost (nstep tree (name_op.Move from other to new_name slash)).tree (nstep tree (name_op.Move from other to new_name slash)).answer file) [
  | inl leaves ↦ unchanged tree file id name sound stands _ _ (refused_same tree (name_op.Move from other to new_name slash) leaves)
  | inr says ↦ let (over, entry) = move_moves tree sound from other to new_name slash says in moved tree file id name sound stands from other to new_name _ _ over entry
]

-- Groups.

abbrev pub IsNoMake : FileOp → Type 0
IsNoMake (op.Make mode) = ⊥
IsNoMake operation = Unit {0}

abbrev unlinked_file : File → File
unlinked_file old = record old { linked = false }

-- a file that is linked after a step was linked before
pub record WasLinked (old new : Group) : Type 0 where
  pub was : (q : ℕ) (file : File) → file_at new q ≡ Some file → file.linked ≡ true → (before : File) × (file_at old q ≡ Some before) × (before.linked ≡ true)

module _ (group : Group) (sound : IsSoundGroup group) where
  row_changed : (id : ℕ) (old new : File) (left : Group) → file_at group id ≡ Some old → (new.linked ≡ true → old.linked ≡ true) → ((q : ℕ) → q ≢ id → file_at left q ≡ file_at group q) → file_at left id ≡ Some new → WasLinked group left
  row_changed id old new left there linked others is = record {
    was = λ q file h is_linked. elim (same_id q id) as (λ _. (was : File) × (file_at group q ≡ Some was) × (was.linked ≡ true)) [
      | inl e ↦ let both : Some new ≡ Some file = sym is ∙ ap (file_at left) (sym e) ∙ h in let same : new ≡ file = cc in (old, ap (file_at group) e ∙ there, linked (ap (λ (f : File). f.linked) same ∙ is_linked))
      | inr ne ↦ (file, sym (others q ne) ∙ h, is_linked)
    ];
  }

  row_gone : (id : ℕ) (left : Group) → ((q : ℕ) → q ≢ id → file_at left q ≡ file_at group q) → file_at left id ≡ None → WasLinked group left
  row_gone id left others is = record {
    was = λ q file h is_linked. elim (same_id q id) as (λ _. (was : File) × (file_at group q ≡ Some was) × (was.linked ≡ true)) [
      | inl e ↦ let clash : None ≡ Some file = sym is ∙ ap (file_at left) (sym e) ∙ h in cc
      | inr ne ↦ (file, sym (others q ne) ∙ h, is_linked)
    ];
  }

  with_new_row : (id : ℕ) (old new : File) (left : Group) → file_at group id ≡ Some old → (new.linked ≡ true → old.linked ≡ true) → ((q : ℕ) → file_at left q ≡ row_at (with_row group.files id new) q) → WasLinked group left
  with_new_row id old new left there linked is = row_changed id old new left there linked (λ q ne. is q ∙ changed_other group.files id q new ne) (is id ∙ changed_here group.files id new old there)

  all_stay : (left : Group) → ((q : ℕ) → file_at left q ≡ file_at group q) → WasLinked group left
  all_stay left is = record { was = λ q file h is_linked. (file, sym (is q) ∙ h, is_linked) }

  truncated : (id : ℕ) (file : File) (left : Group) (truncate : Bool) → file_at group id ≡ Some file → ((q : ℕ) → file_at left q ≡ row_at (files_after_truncation group.files id file truncate) q) → WasLinked group left
  truncated id file left true there is = with_new_row id file (record file { bytes = [] }) left there (λ is_linked. is_linked) is
  truncated id file left false there is = all_stay left is

  ways_linked : Ways group (λ o r. IsNoMake o → WasLinked group r.group)
  ways_linked = record {
    same = λ o a form no. all_stay group (λ q. refl);
    size = λ o id file form there no. all_stay group (λ q. refl);
    made = λ mode no. absurd no;
    attached = λ id mode truncate file there no. truncated id file _ truncate there (λ q. refl);
    unlinked = λ id file there used no. with_new_row id file (record file { linked = false }) _ there (λ is_linked. absurd (false≢true is_linked)) (λ q. refl);
    freed = λ id file there unused no. row_gone id _ (λ q ne. removed_other group.files id q ne) (removed_here group.files id _ sound.file_ids);
    released = λ id d there used no. all_stay _ (λ q. refl);
    ended = λ id d file o unlinked unused no. row_gone d.file _ (λ q ne. removed_other group.files d.file q ne) (removed_here group.files d.file _ sound.file_ids);
    read = λ id count d file o no. all_stay _ (λ q. refl);
    wrote = λ id bytes d file o some allowed no. with_new_row d.file file _ _ o.of_file (λ is_linked. is_linked) (λ q. refl);
    wrote_at = λ id bytes offset at d file o e some allowed no. with_new_row d.file file _ _ o.of_file (λ is_linked. is_linked) (λ q. refl);
    sought = λ id offset whence at d file o low no. all_stay _ (λ q. refl);
    cut = λ id size n d file o e allowed no. with_new_row d.file file _ _ o.of_file (λ is_linked. is_linked) (λ q. refl);
  }

  pub was_linked : (o : FileOp) → IsNoMake o → WasLinked group (fstep group o).group
  was_linked o = step_way group (λ o r. IsNoMake o → WasLinked group r.group) ways_linked o

  -- the file that is told as unlinked is so
  pub told_unlinked : (id : ℕ) (file : File) → file_at (fstep group (op.Unlinked id)).group id ≡ Some file → file.linked ≡ true → ⊥
  told_unlinked id file h is_linked = by_found (is_open group.descriptions id) (file_at group id) refl h where
    by_found : (used : Bool) (found : Option File) → file_at group id ≡ found → file_at (with_files group (files_after_unlink group.files used id found)) id ≡ Some file → ⊥
    by_found used None is h = let clash : None ≡ Some file = sym is ∙ h in cc
    by_found true (Some old) is h = let both : Some (unlinked_file old) ≡ Some file = sym (changed_here group.files id (unlinked_file old) old is) ∙ h in let same : unlinked_file old ≡ file = cc in false≢true (ap (λ (f : File). f.linked) same ∙ is_linked)
    by_found false (Some old) is h = let clash : None ≡ Some file = sym (removed_here group.files id _ sound.file_ids) ∙ h in cc
