-- An entry stays taken until it is removed or moved away.
use Rattle.std.proofs.Common.{◌≡◌, ◌⊎◌, inl, inr, ℕ, Bool, true, false, List, [], ◌∷◌, length, Option, None, Some, Ok, refl, sym, ap, subst, ◌∙◌}
use Rattle.name_store.specs.declared.operation.Node.{Node}
use Rattle.name_store.specs.declared.operation.Node.TheVariants.{Dir, Link, File, Mount}
use Rattle.name_store.specs.declared.operation.NameOp.{NameOp}
use Rattle.name_store.specs.declared.operation.NameOp.TheVariants as op
use Rattle.name_store.specs.declared.operation.NameAnswer.{NameAnswer}
use Rattle.name_store.specs.declared.operation.NameAnswer.TheVariants as answer
use Rattle.name_store.specs.NameTrees.{Tree, Listing, NamesOutcome, addfile_outcome, addfile_outcome_at, addlink_outcome, addlink_outcome_at, dir_at, entry_at, is_empty, list_answer, look_answer, makedir_outcome, makedir_outcome_at, nstep, outcome_of, parent_answer, remdir_child_outcome, remdir_outcome, remdir_outcome_at, remfile_outcome, remfile_outcome_at, unless_gone}
use Rattle.name_store.specs.Forms.{IsForm}
use Rattle.name_store.specs.Laws.{LeavesTree}
use Rattle.name_store.specs.Sound.{AreApart, IsSound, node_at, node_in}
use Rattle.name_store.specs.EntryLaws.{EntryMade, EntryMoved, Removes, SaysMoved}
use Rattle.name_store.proofs.Changes.{same_id, same_place}
use Rattle.name_store.proofs.EntryLemmas.{addfile_enters, addlink_makes, makedir_makes, move_moves, remdir_removes, remfile_removes}
use Rattle.name_store.proofs.Formed.{move_form}
use Rattle.name_store.proofs.Refusals.{refused_same}
use Rattle.name_store.proofs.Soundness.{step_sound}
use Rattle.path_walk.specs.declared.step.CellId.{CellId}
use Rattle.path_walk.specs.declared.step.CellId.TheVariants.{Names as NamesCell, Files as FilesCell, Descriptors as DescriptorsCell}
use Rattle.path_walk.specs.declared.step.StoreOp.{StoreOp}
use Rattle.path_walk.specs.declared.step.StoreOp.TheVariants.{Names as NamesOp, Files as FilesOp, Descriptors as DescriptorsOp}
use Rattle.path_walk.specs.Store.{Store, cstep, names_at}
use Rattle.call_laws.specs.ExclusiveLaws.{AllSpare, EntriesAreTaken, Spares, SparesEntry, store_by}
use Rattle.call_laws.proofs.StoreLemmas.{names_grouped, names_here, names_other}

abbrev Stands : Tree → ℕ → List ℕ → Type 0
Stands tree id name = (node : Node) × (node_at tree id name ≡ Some node)

-- what an operation may come to: the tree as it was, or a success
abbrev pub Or : Tree → NamesOutcome → (NameAnswer → Type 0) → Type 0
Or tree o Success = (o.tree ≡ tree) ⊎ Success o.answer

pub or_gone : (tree : Tree) (found : Option Listing) (outcome : Listing → NamesOutcome) (Success : NameAnswer → Type 0) → ((directory : Listing) → Or tree (outcome directory) Success) → Or tree (unless_gone tree found outcome) Success
or_gone tree None outcome Success each = inl refl
or_gone tree (Some directory) outcome Success each = each directory

pub makedir_or : (tree : Tree) (id : ℕ) (name : List ℕ) (entry : Option Node) → Or tree (makedir_outcome_at tree id name entry) (λ a. a ≡ answer.MadeDir (length tree))
makedir_or tree id name None = inr refl
makedir_or tree id name (Some entry) = inl refl

pub addlink_or : (tree : Tree) (id : ℕ) (name text : List ℕ) (entry : Option Node) → Or tree (addlink_outcome_at tree id name text entry) (λ a. a ≡ answer.MadeLink (length tree))
addlink_or tree id name text None = inr refl
addlink_or tree id name text (Some entry) = inl refl

pub addfile_or : (tree : Tree) (id : ℕ) (name : List ℕ) (file : ℕ) (entry : Option Node) → Or tree (addfile_outcome_at tree id name file entry) (λ a. a ≡ answer.Done)
addfile_or tree id name file None = inr refl
addfile_or tree id name file (Some entry) = inl refl

abbrev pub IsRemoved : NameAnswer → Type 0
IsRemoved a = ((file : ℕ) × (a ≡ answer.RemovedFile file)) ⊎ (a ≡ answer.RemovedLink)

pub remfile_or : (tree : Tree) (id : ℕ) (name : List ℕ) (slash : Bool) (entry : Option Node) → Or tree (remfile_outcome_at tree id name slash entry) IsRemoved
remfile_or tree id name slash None = inl refl
remfile_or tree id name slash (Some (Dir child)) = inl refl
remfile_or tree id name slash (Some (Mount backend)) = inl refl
remfile_or tree id name true (Some (File file)) = inl refl
remfile_or tree id name false (Some (File file)) = inr (inl (file, refl))
remfile_or tree id name true (Some (Link link text)) = inl refl
remfile_or tree id name false (Some (Link link text)) = inr (inr refl)

child_or : (tree : Tree) (id : ℕ) (name : List ℕ) (child : ℕ) (empty : Bool) → Or tree (remdir_child_outcome tree id name child empty) (λ a. a ≡ answer.Done)
child_or tree id name child true = inr refl
child_or tree id name child false = inl refl

pub remdir_or : (tree : Tree) (id : ℕ) (name : List ℕ) (entry : Option Node) → Or tree (remdir_outcome_at tree id name entry) (λ a. a ≡ answer.Done)
remdir_or tree id name None = inl refl
remdir_or tree id name (Some (Mount backend)) = inl refl
remdir_or tree id name (Some (File file)) = inl refl
remdir_or tree id name (Some (Link link text)) = inl refl
remdir_or tree id name (Some (Dir child)) = child_or tree id name child (is_empty (dir_at tree child))

module _ (tree : Tree) (id : ℕ) (name : List ℕ) (node : Node) (sound : IsSound tree) (stands : node_at tree id name ≡ Some node) where
  unchanged : (new : Tree) → new ≡ tree → Stands new id name
  unchanged new e = (node, ap (λ (t : Tree). node_at t id name) e ∙ stands)

  beside_made : (new : Tree) (place : ℕ) (other : List ℕ) (made : Node) → EntryMade tree new place other made → Stands new id name
  beside_made new place other made entry = (node, entry.others id name (λ e f. let clash : None ≡ Some node = sym entry.absent ∙ ap (λ (n : ℕ). node_at tree n other) (sym e) ∙ ap (node_at tree id) (sym f) ∙ stands in cc) ∙ stands)

  removed_beside : (place : ℕ) (other : List ℕ) (slash : Bool) → AreApart place other id name → (a : NameAnswer) → (nstep tree (op.Remfile place other slash)).answer ≡ a → IsRemoved a → Stands (nstep tree (op.Remfile place other slash)).tree id name
  removed_beside place other slash apart a is (inl (file, e)) =
      let gone = subst (λ (x : NameAnswer). Removes tree (nstep tree (op.Remfile place other slash)).tree place other x) (is ∙ e) (remfile_removes tree place other slash sound) in
      (node, gone.entry.others id name apart ∙ stands)
  removed_beside place other slash apart a is (inr e) =
      let (link, text, gone) = subst (λ (x : NameAnswer). Removes tree (nstep tree (op.Remfile place other slash)).tree place other x) (is ∙ e) (remfile_removes tree place other slash sound) in
      (node, gone.entry.others id name apart ∙ stands)

  moved_beside : (from : ℕ) (other : List ℕ) (to : ℕ) (new_name : List ℕ) (new : Tree) → AreApart from other id name → EntryMoved tree new from other to new_name → Stands new id name
  moved_beside from other to new_name new apart moved = elim (same_place to new_name id name) as (λ _. Stands new id name) [
    | inl (e, f) ↦ (moved.node, ap (λ (n : ℕ). node_at new n name) e ∙ ap (node_at new to) f ∙ moved.stands)
    | inr beside ↦ (node, moved.others id name apart beside ∙ stands)
  ]

pub moved_or : (a : NameAnswer) (from : ℕ) (name : List ℕ) (to : ℕ) (new_name : List ℕ) (slash : Bool) → IsForm (op.Move from name to new_name slash) a → LeavesTree a ⊎ SaysMoved a
moved_or answer.Gone from name to new_name slash form = inl tt
moved_or answer.Absent from name to new_name slash form = inl tt
moved_or (answer.Found node) from name to new_name slash form = inl tt
moved_or (answer.MadeDir id) from name to new_name slash form = absurd form
moved_or (answer.MadeLink id) from name to new_name slash form = absurd form
moved_or (answer.Taken node) from name to new_name slash form = inl tt
moved_or answer.Done from name to new_name slash form = absurd form
moved_or (answer.RemovedFile file) from name to new_name slash form = absurd form
moved_or answer.RemovedLink from name to new_name slash form = absurd form
moved_or answer.Same from name to new_name slash form = inl tt
moved_or (answer.Over file) from name to new_name slash form = inr tt
moved_or answer.Moved from name to new_name slash form = inr tt
moved_or (answer.Names names) from name to new_name slash form = inl tt
moved_or (answer.Fault error) from name to new_name slash form = inl tt

pub asked_or : (tree : Tree) (found : Option Listing) (given : Listing → NameAnswer) → (unless_gone tree found (λ d. outcome_of tree (given d))).tree ≡ tree
asked_or tree None given = refl
asked_or tree (Some directory) given = refl

stays : (tree : Tree) (o : NameOp) (id : ℕ) (name : List ℕ) (node : Node) → IsSound tree → node_at tree id name ≡ Some node → Spares o id name → Stands (nstep tree o).tree id name
stays tree (op.Look place other) id name node sound stands spares = unchanged tree id name node sound stands _ (asked_or tree (dir_at tree place) (λ d. look_answer d other))
stays tree (op.Parent place) id name node sound stands spares = unchanged tree id name node sound stands _ (asked_or tree (dir_at tree place) parent_answer)
stays tree (op.List place start) id name node sound stands spares = unchanged tree id name node sound stands _ (asked_or tree (dir_at tree place) (λ d. list_answer d start))
stays tree (op.Makedir place other) id name node sound stands spares = elim (or_gone tree (dir_at tree place) (makedir_outcome tree place other) (λ a. a ≡ answer.MadeDir (length tree)) (λ d. makedir_or tree place other (entry_at d other))) as (λ _. Stands (nstep tree (op.Makedir place other)).tree id name) [
  | inl same ↦ unchanged tree id name node sound stands _ same
  | inr made ↦ beside_made tree id name node sound stands _ place other _ (makedir_makes tree place other (length tree) sound made).entry
]
stays tree (op.Addlink place other text) id name node sound stands spares = elim (or_gone tree (dir_at tree place) (addlink_outcome tree place other text) (λ a. a ≡ answer.MadeLink (length tree)) (λ d. addlink_or tree place other text (entry_at d other))) as (λ _. Stands (nstep tree (op.Addlink place other text)).tree id name) [
  | inl same ↦ unchanged tree id name node sound stands _ same
  | inr made ↦ beside_made tree id name node sound stands _ place other _ (addlink_makes tree place other text (length tree) sound made).entry
]
stays tree (op.Addfile place other file) id name node sound stands spares = elim (or_gone tree (dir_at tree place) (addfile_outcome tree place other file) (λ a. a ≡ answer.Done) (λ d. addfile_or tree place other file (entry_at d other))) as (λ _. Stands (nstep tree (op.Addfile place other file)).tree id name) [
  | inl same ↦ unchanged tree id name node sound stands _ same
  | inr made ↦ beside_made tree id name node sound stands _ place other _ (addfile_enters tree place other file sound made).entry
]
stays tree (op.Remfile place other slash) id name node sound stands spares = elim (or_gone tree (dir_at tree place) (remfile_outcome tree place other slash) IsRemoved (λ d. remfile_or tree place other slash (entry_at d other))) as (λ _. Stands (nstep tree (op.Remfile place other slash)).tree id name) [
  | inl same ↦ unchanged tree id name node sound stands _ same
  | inr gone ↦ removed_beside tree id name node sound stands place other slash spares _ refl gone
]
stays tree (op.Remdir place other) id name node sound stands spares = elim (or_gone tree (dir_at tree place) (remdir_outcome tree place other) (λ a. a ≡ answer.Done) (λ d. remdir_or tree place other (entry_at d other))) as (λ _. Stands (nstep tree (op.Remdir place other)).tree id name) [
  | inl same ↦ unchanged tree id name node sound stands _ same
  | inr gone ↦ (node, (remdir_removes tree place other sound gone).entry.others id name spares ∙ stands)
]
stays tree (op.Move from other to new_name slash) id name node sound stands spares = elim (moved_or (nstep tree (op.Move from other to new_name slash)).answer from other to new_name slash (move_form tree (nstep tree (op.Move from other to new_name slash)).tree from other to new_name slash (Ok (nstep tree (op.Move from other to new_name slash)).answer) refl)) as (λ _. Stands (nstep tree (op.Move from other to new_name slash)).tree id name) [
  | inl leaves ↦ unchanged tree id name node sound stands _ (refused_same tree (op.Move from other to new_name slash) leaves)
  | inr moved ↦ moved_beside tree id name node sound stands from other to new_name _ spares (move_moves tree sound from other to new_name slash moved).1
]

-- In a store.

record Holds (store : Store) (backend id : ℕ) (name : List ℕ) : Type 0 where
  sound : IsSound (names_at store backend)
  stands : Stands (names_at store backend) id name

holds_as : (old new : Store) (backend id : ℕ) (name : List ℕ) → names_at new backend ≡ names_at old backend → Holds old backend id name → Holds new backend id name
holds_as old new backend id name e h = record { sound = subst IsSound (sym e) h.sound; stands = subst (λ (t : Tree). Stands t id name) (sym e) h.stands }

-- the directory in which it stands
pub directory_of : (found : Option Listing) (name : List ℕ) (node : Node) → node_in found name ≡ Some node → (directory : Listing) × (found ≡ Some directory)
directory_of None name node h = cc
directory_of (Some directory) name node h = (directory, refl)

names_hold : (store : Store) (backend id : ℕ) (name : List ℕ) (other : ℕ) (o : NameOp) → (other ≡ backend → Spares o id name) → Holds store backend id name → Holds (cstep store (NamesCell other) (NamesOp o)).store backend id name
names_hold store backend id name other o spares h = elim (same_id backend other) as (λ _. Holds (cstep store (NamesCell other) (NamesOp o)).store backend id name) [
  | inl e ↦
      let (node, is) = h.stands in
      let (directory, there) = directory_of (dir_at (names_at store backend) id) name node is in
      let at : names_at (cstep store (NamesCell other) (NamesOp o)).store backend ≡ (nstep (names_at store backend) o).tree =
      ap (names_at (cstep store (NamesCell other) (NamesOp o)).store) e
      ∙ names_here store other (nstep (names_at store other) o).tree id directory (ap (λ (b : ℕ). dir_at (names_at store b) id) (sym e) ∙ there)
      ∙ ap (λ (b : ℕ). (nstep (names_at store b) o).tree) (sym e) in
      record {
        sound = subst IsSound (sym at) (step_sound (names_at store backend) o h.sound);
        stands = subst (λ (t : Tree). Stands t id name) (sym at) (stays (names_at store backend) o id name node h.sound is (spares (sym e)));
      }
  | inr ne ↦ holds_as store (cstep store (NamesCell other) (NamesOp o)).store backend id name (names_other store other backend (nstep (names_at store other) o).tree ne) h
]

step_holds : (store : Store) (backend id : ℕ) (name : List ℕ) (cell : CellId) (o : StoreOp) → SparesEntry backend id name (cell, o) → Holds store backend id name → Holds (cstep store cell o).store backend id name
step_holds store backend id name (NamesCell other) (NamesOp o) spares h = names_hold store backend id name other o spares h
step_holds store backend id name (NamesCell other) (FilesOp o) spares h = h
step_holds store backend id name (NamesCell other) (DescriptorsOp o) spares h = h
step_holds store backend id name (FilesCell other g) (FilesOp o) spares h = holds_as store (cstep store (FilesCell other g) (FilesOp o)).store backend id name (names_grouped store other g _ backend) h
step_holds store backend id name (FilesCell other g) (NamesOp o) spares h = h
step_holds store backend id name (FilesCell other g) (DescriptorsOp o) spares h = h
step_holds store backend id name DescriptorsCell (DescriptorsOp o) spares h = record { sound = h.sound; stands = h.stands }
step_holds store backend id name DescriptorsCell (NamesOp o) spares h = h
step_holds store backend id name DescriptorsCell (FilesOp o) spares h = h

steps_hold : (between : List (CellId × StoreOp)) (store : Store) (backend id : ℕ) (name : List ℕ) → AllSpare backend id name between → Holds store backend id name → Holds (store_by store between) backend id name
steps_hold [] store backend id name spares h = h
steps_hold (taken ∷ others) store backend id name (one, more) h = steps_hold others (cstep store taken.0 taken.1).store backend id name more (step_holds store backend id name taken.0 taken.1 one h)

taken_by : (tree : Tree) (id : ℕ) (name : List ℕ) (file : ℕ) (found : Option Listing) (node : Node) → node_in found name ≡ Some node → (unless_gone tree found (addfile_outcome tree id name file)).answer ≡ answer.Taken node
taken_by tree id name file None node h = cc
taken_by tree id name file (Some directory) node h = ap (λ (entry : Option Node). (addfile_outcome_at tree id name file entry).answer) h

-- the directory of an entry that was made
directory_there : (tree : Tree) (id : ℕ) (name : List ℕ) (file : ℕ) (found : Option Listing) → (unless_gone tree found (addfile_outcome tree id name file)).answer ≡ answer.Done → (directory : Listing) × (found ≡ Some directory)
directory_there tree id name file None h = cc
directory_there tree id name file (Some directory) h = (directory, refl)

pub entries_are_taken : EntriesAreTaken
entries_are_taken store backend id name first second between sound done spares =
    let tree : Tree = names_at store backend in
    let after : Store = (cstep store (NamesCell backend) (NamesOp (op.Addfile id name first))).store in
    let (directory, there) = directory_there tree id name first (dir_at tree id) done in
    let at : names_at after backend ≡ (nstep tree (op.Addfile id name first)).tree = names_here store backend (nstep tree (op.Addfile id name first)).tree id directory there in
    let made = addfile_enters tree id name first sound done in
    let h : Holds after backend id name = record {
      sound = subst IsSound (sym at) (step_sound tree (op.Addfile id name first) sound);
      stands = (File first, ap (λ (t : Tree). node_at t id name) at ∙ made.entry.stands);
    } in
    let left : Tree = names_at (store_by after between) backend in
    let (node, is) = (steps_hold between after backend id name spares h).stands in
    (node, taken_by left id name second (dir_at left id) node is)
