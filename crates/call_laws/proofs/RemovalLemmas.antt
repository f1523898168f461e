-- What `rmdir` and `unlink` take away is no more, and nothing else has changed.
use Rattle.std.proofs.Common.{◌≡◌, ◌≢◌, inl, inr, ℕ, ◌%◌, Bool, true, false, List, [], Option, None, Some, Result, Ok, Err, refl, sym, ap, subst, ◌∙◌}
use Rattle.wf_core.specs.Limits.{group_count, path_names_max, symloop_max}
use Rattle.wf_core.specs.declared.errno.Errno.{Errno}
use Rattle.wf_core.specs.declared.errno.Errno.TheVariants.{Enoent}
use Rattle.name_store.specs.declared.operation.Node.{Node}
use Rattle.name_store.specs.declared.operation.Node.TheVariants.{Dir, Link, File as FileNode, Mount}
use Rattle.name_store.specs.declared.operation.NameOp.TheVariants.{Remdir, Remfile}
use Rattle.name_store.specs.declared.operation.NameAnswer.{NameAnswer}
use Rattle.name_store.specs.declared.operation.NameAnswer.TheVariants.{Done as NameDone, RemovedFile, RemovedLink}
use Rattle.name_store.specs.NameTrees.{Tree, Listing, NamesOutcome, dir_at, entry_at, is_empty, nstep, outcome_of, unless_gone, remdir_child_outcome, remdir_outcome, remdir_outcome_at, remfile_outcome, remfile_outcome_at, without_directory, without_entry_at}
use Rattle.name_store.specs.Sound.{node_in, node_at, parent_of, parent_at}
use Rattle.name_store.specs.EntryLaws.{DirectoryRemoved, LeafRemoved, Removes}
use Rattle.name_store.proofs.Changes.{same_id, same_place, Ordered, unlinked_apart, unlinked_at, unlinked_parents, freed_at, freed_others}
use Rattle.name_store.proofs.EntryLemmas.{remdir_removes, remfile_removes}
use Rattle.file_store.specs.declared.file_operation.FileOp.TheVariants.{Unlinked}
use Rattle.path_walk.specs.declared.part.Part.TheVariants.{Down}
use Rattle.path_walk.specs.declared.route.Manner.TheVariants.{OnWay, Stays}
use Rattle.path_walk.specs.declared.route.Spot.{Spot}
use Rattle.path_walk.specs.declared.route.End.{End}
use Rattle.path_walk.specs.declared.route.End.TheVariants.{Directory}
use Rattle.path_walk.specs.declared.goal.Change.TheVariants as change
use Rattle.path_walk.specs.declared.call.Call.TheVariants.{Rmdir, Unlink, Lstat}
use Rattle.path_walk.specs.declared.call.Reply.TheVariants.{Done, Fault}
use Rattle.path_walk.specs.Store.{Store, names_at, with_names, group_at}
use Rattle.file_store.specs.FileGroups.{fstep}
use Rattle.path_walk.specs.Paths.{parts_of, front_of, slash_of}
use Rattle.path_walk.specs.PathMeaning.{course, end_of_course, resolve}
use Rattle.path_walk.specs.Programs.{CallOutcome}
use Rattle.path_walk.specs.Plans.{at_once}
use Rattle.path_walk.specs.Calls.{status_plan}
use Rattle.path_walk.specs.Posix.{posix}
use Rattle.call_laws.specs.Entries.{HasNamesInOrder, NamesEntry, after_loss, directory_at, node_of, path_end, prefix_end, path_spot, current_spot}
use Rattle.call_laws.specs.EntryLaws.{EntryChanged, LeafUnlinked}
use Rattle.call_laws.proofs.StoreLemmas.{names_by, names_here, names_other, names_grouped}
use Rattle.call_laws.proofs.Leading.{Loses, SameOrNone, SameOrAbsent, leads_or_lost, spot_still}
use Rattle.call_laws.proofs.ChangeLemmas.{change_done, change_at, entry_end, prefix_fails, whole_at}
use Rattle.call_laws.proofs.MakingLemmas.{after_names}

-- `rmdir`

-- a directory was removed
record RemovedDirectory (version : ℕ) (store : Store) (path : List ℕ) : Type 0 where
  here : Spot
  name : List ℕ
  names : NamesEntry version store path here name
  directory : Listing
  there : directory_at store here ≡ Some directory
  child : ℕ
  outcome : nstep (names_at store here.backend) (Remdir here.directory name) ≡ outcome_of (without_directory (without_entry_at (names_at store here.backend) here.directory name) (Some child)) NameDone
  new : (posix version store (Rmdir path)).store ≡ with_names store here.backend (without_directory (without_entry_at (names_at store here.backend) here.directory name) (Some child))

module _ (store : Store) (backend : ℕ) (tree : Tree) (id : ℕ) (name : List ℕ) where
  abbrev TakesChild : NamesOutcome → Type 0
  TakesChild outcome = (child : ℕ) × (outcome ≡ outcome_of (without_directory (without_entry_at tree id name) (Some child)) NameDone)

  child_done : (child : ℕ) (is_bare : Bool) → (after_names store backend (remdir_child_outcome tree id name child is_bare)).reply ≡ Done → TakesChild (remdir_child_outcome tree id name child is_bare)
  child_done child true h = (child, refl)
  child_done child false h = cc

  node_done : (node : Option Node) → (after_names store backend (remdir_outcome_at tree id name node)).reply ≡ Done → TakesChild (remdir_outcome_at tree id name node)
  node_done None h = cc
  node_done (Some (Dir child)) h = child_done child (is_empty (dir_at tree child)) h
  node_done (Some (Link link text)) h = cc
  node_done (Some (FileNode file)) h = cc
  node_done (Some (Mount other)) h = cc

  remdir_done : (directory : Option Listing) → (after_names store backend (unless_gone tree directory (remdir_outcome tree id name))).reply ≡ Done → (d : Listing) × (directory ≡ Some d) × TakesChild (unless_gone tree directory (remdir_outcome tree id name))
  remdir_done None h = cc
  remdir_done (Some directory) h = (directory, refl, node_done (entry_at directory name) h)

rmdir_done : (version : ℕ) (store : Store) (path : List ℕ) → (posix version store (Rmdir path)).reply ≡ Done → RemovedDirectory version store path
rmdir_done version store path h =
    let (here, name, names, slash) = change_done version store change.Remdir path h in
    let tree : Tree = names_at store here.backend in
    let at : posix version store (Rmdir path) ≡ after_names store here.backend (nstep tree (Remdir here.directory name)) = change_at version store change.Remdir path here name names slash in
    let (directory, there, (child, outcome)) = remdir_done store here.backend tree here.directory name (dir_at tree here.directory) (ap (λ (o : CallOutcome). o.reply) (sym at) ∙ h) in
    record {
      here = here;
      name = name;
      names = names;
      directory = directory;
      there = there;
      child = child;
      outcome = outcome;
      new = ap (λ (o : CallOutcome). o.store) at ∙ ap (λ (o : NamesOutcome). (after_names store here.backend o).store) outcome;
    }

pub rmdir_removes : (version : ℕ) (store : Store) (path : List ℕ) → (posix version store (Rmdir path)).reply ≡ Done → EntryChanged version store (posix version store (Rmdir path)).store path DirectoryRemoved
rmdir_removes version store path h =
    let m = rmdir_done version store path h in
    let tree : Tree = names_at store m.here.backend in
    let left : Tree = without_directory (without_entry_at tree m.here.directory m.name) (Some m.child) in
    let names : names_at (posix version store (Rmdir path)).store m.here.backend ≡ left = ap (λ (s : Store). names_at s m.here.backend) m.new ∙ names_here store m.here.backend left m.here.directory m.directory m.there in
    record {
      here = m.here;
      name = m.name;
      names = m.names;
      changed = λ sound. subst (λ (t : Tree). DirectoryRemoved tree t m.here.directory m.name) (ap (λ (o : NamesOutcome). o.tree) m.outcome ∙ sym names) (remdir_removes tree m.here.directory m.name sound (ap (λ (o : NamesOutcome). o.answer) m.outcome));
      elsewhere = m.new ∙ ap (with_names store m.here.backend) (sym names);
    }

-- What is lost.

-- a directory that is no more has neither entries nor parent
freed_node : (tree : Tree) (gone : Option ℕ) (id : ℕ) (name : List ℕ) → SameOrNone (node_at tree id name) (node_at (without_directory tree gone) id name)
freed_node tree None id name = inl refl
freed_node tree (Some child) id name = elim (same_id id child) as (λ _. SameOrNone (node_at tree id name) (node_at (without_directory tree (Some child)) id name)) [
  | inl e ↦ inr (ap (λ (d : Option Listing). node_in d name) (freed_at tree child id e))
  | inr ne ↦ inl (ap (λ (d : Option Listing). node_in d name) (freed_others tree (Some child) id (λ e. ne (cc))))
]

freed_parent : (tree : Tree) (gone : Option ℕ) (id : ℕ) → SameOrNone (parent_at tree id) (parent_at (without_directory tree gone) id)
freed_parent tree None id = inl refl
freed_parent tree (Some child) id = elim (same_id id child) as (λ _. SameOrNone (parent_at tree id) (parent_at (without_directory tree (Some child)) id)) [
  | inl e ↦ inr (ap parent_of (freed_at tree child id e))
  | inr ne ↦ inl (ap parent_of (freed_others tree (Some child) id (λ e. ne (cc))))
]

same_then : {X : Type 0} (first second third : Option X) → second ≡ first → SameOrNone second third → SameOrNone first third
same_then first second third e (inl f) = inl (f ∙ e)
same_then first second third e (inr f) = inr f

none_then : {X : Type 0} (second third : Option X) → second ≡ None → SameOrNone second third → third ≡ None
none_then second third e (inl f) = f ∙ e
none_then second third e (inr f) = f

module _ (tree : Tree) (id : ℕ) (name : List ℕ) (gone : Option ℕ) (ordered : Ordered tree id) where
  abbrev left_tree : Tree
  left_tree = without_directory (without_entry_at tree id name) gone

  lost_here : node_at left_tree id name ≡ None
  lost_here = none_then (node_at (without_entry_at tree id name) id name) (node_at left_tree id name) (unlinked_at tree id name ordered) (freed_node (without_entry_at tree id name) gone id name)

  lost_node : (other : ℕ) (other_name : List ℕ) → SameOrNone (node_at tree other other_name) (node_at left_tree other other_name)
  lost_node other other_name = elim (same_place id name other other_name) as (λ _. SameOrNone (node_at tree other other_name) (node_at left_tree other other_name)) [
    | inl e ↦ inr (ap (λ (i : ℕ). node_at left_tree i other_name) e.0 ∙ ap (node_at left_tree id) e.1 ∙ lost_here)
    | inr apart ↦ same_then (node_at tree other other_name) (node_at (without_entry_at tree id name) other other_name) (node_at left_tree other other_name) (unlinked_apart tree id name other other_name apart) (freed_node (without_entry_at tree id name) gone other other_name)
  ]

  lost_parent : (other : ℕ) → SameOrNone (parent_at tree other) (parent_at left_tree other)
  lost_parent other = same_then (parent_at tree other) (parent_at (without_entry_at tree id name) other) (parent_at left_tree other) (unlinked_parents tree id name other) (freed_parent (without_entry_at tree id name) gone other)

-- a store whose names of one backend have lost something, whatever became of files
module _ (store new : Store) (backend : ℕ) (tree left : Tree) (is_tree : names_at store backend ≡ tree) (here_is : names_at new backend ≡ left) (others_are : (other : ℕ) → other ≢ backend → names_at new other ≡ names_at store other) (same : current_spot new ≡ current_spot store) where
  store_loses : ((id : ℕ) (name : List ℕ) → SameOrNone (node_at tree id name) (node_at left id name)) → ((id : ℕ) → SameOrNone (parent_at tree id) (parent_at left id)) → Loses store new
  store_loses nodes parents = record {
    entries = λ here name. names_by store new backend tree left is_tree here_is others_are (λ t u. SameOrNone (node_at t here.directory name) (node_at u here.directory name)) here.backend (nodes here.directory name) (inl refl);
    parents = λ here. names_by store new backend tree left is_tree here_is others_are (λ t u. SameOrNone (parent_at t here.directory) (parent_at u here.directory)) here.backend (parents here.directory) (inl refl);
    current = same;
  }

absent_at_end : (error : Result End Errno) → error ≡ Err Enoent → (store : Store) → (at_once store (status_plan error)).reply ≡ Fault Enoent
absent_at_end error e store = ap (λ (end : Result End Errno). (at_once store (status_plan end)).reply) e

-- a path whose entry was lost is absent
lstat_absent : (version : ℕ) (old new : Store) (path : List ℕ) (here : Spot) (name : List ℕ) → NamesEntry version old path here name → Loses old new → node_of new here name ≡ None → (posix version new (Lstat path)).reply ≡ Fault Enoent
lstat_absent version old new path here name names less absent =
    ap (λ (o : CallOutcome). o.reply) (whole_at version new Stays path status_plan names.walked)
    ∙ absent_at_end (path_end version new Stays path) (by_prefix (subst (λ (start : Spot). SameOrAbsent (prefix_end version old path) (resolve new path_names_max (front_of (parts_of path)) OnWay (slash_of path) symloop_max start)) (sym (spot_still version old new path less.current)) (leads_or_lost old new less path_names_max (front_of (parts_of path)) OnWay (slash_of path) symloop_max (path_spot version old path)))) new
  where
    by_prefix : SameOrAbsent (prefix_end version old path) (prefix_end version new path) → path_end version new Stays path ≡ Err Enoent
    by_prefix (inr e) = prefix_fails version new Stays path (Down name) Enoent names.last e
    by_prefix (inl e) =
        let still : NamesEntry version new path here name = record { walked = names.walked; last = names.last; left = names.left; links = names.links; prefix = e ∙ names.prefix } in
        entry_end version new Stays path here name still ∙ ap (λ (n : Option Node). end_of_course (course Stays n [] (slash_of path) names.links here) (λ w. resolve new names.left w.rest Stays w.slash w.links w.spot)) absent

-- the directory at the end of a walk, or else that one
abbrev spot_in : Spot → Result End Errno → Spot
spot_in here (Ok (Directory there)) = there.spot
spot_in here end = here

-- a path names one entry
same_entry : (version : ℕ) (store : Store) (path : List ℕ) (here there : Spot) (name other : List ℕ) → NamesEntry version store path here name → NamesEntry version store path there other → there ≡ here
same_entry version store path here there name other first second = ap (λ (end : Result End Errno). spot_in here end) (sym second.prefix ∙ first.prefix)

pub rmdir_then_lstat : (version : ℕ) (store : Store) (path : List ℕ) (here : Spot) (name : List ℕ) → NamesEntry version store path here name → HasNamesInOrder store here → (posix version store (Rmdir path)).reply ≡ Done → (posix version (posix version store (Rmdir path)).store (Lstat path)).reply ≡ Fault Enoent
rmdir_then_lstat version store path here name names order h =
    let m = rmdir_done version store path h in
    let tree : Tree = names_at store m.here.backend in
    let left : Tree = without_directory (without_entry_at tree m.here.directory m.name) (Some m.child) in
    let new : Store = with_names store m.here.backend left in
    let ordered : Ordered tree m.here.directory = subst (HasNamesInOrder store) (sym (same_entry version store path here m.here name m.name names m.names)) order in
    let here_is : names_at new m.here.backend ≡ left = names_here store m.here.backend left m.here.directory m.directory m.there in
    let less : Loses store new = store_loses store new m.here.backend tree left refl here_is (λ other ne. names_other store m.here.backend other left ne) refl (lost_node tree m.here.directory m.name (Some m.child) ordered) (lost_parent tree m.here.directory m.name (Some m.child) ordered) in
    ap (λ (s : Store). (posix version s (Lstat path)).reply) m.new
    ∙ lstat_absent version store new path m.here m.name m.names less (ap (λ (t : Tree). node_at t m.here.directory m.name) here_is ∙ lost_here tree m.here.directory m.name (Some m.child) ordered)

-- `unlink`

-- what `remfile` answers of a file, or else of a link
abbrev loss_answer : Node → NameAnswer
loss_answer (FileNode file) = RemovedFile file
loss_answer node = RemovedLink

pub loss_current : (store : Store) (backend : ℕ) (node : Option Node) → current_spot (after_loss store backend node) ≡ current_spot store
loss_current store backend None = refl
loss_current store backend (Some (Dir id)) = refl
loss_current store backend (Some (Link id text)) = refl
loss_current store backend (Some (FileNode file)) = refl
loss_current store backend (Some (Mount mounted)) = refl

pub loss_names : (store : Store) (backend : ℕ) (node : Option Node) (other : ℕ) → names_at (after_loss store backend node) other ≡ names_at store other
loss_names store backend None other = refl
loss_names store backend (Some (Dir id)) other = refl
loss_names store backend (Some (Link id text)) other = refl
loss_names store backend (Some (FileNode file)) other = names_grouped store backend (file % group_count) (fstep (group_at store backend (file % group_count)) (Unlinked file)).group other
loss_names store backend (Some (Mount mounted)) other = refl

leaf_removed : (old new : Tree) (id : ℕ) (name : List ℕ) (leaf : Node) → node_at old id name ≡ Some leaf → Removes old new id name (loss_answer leaf) → LeafRemoved old new id name leaf
leaf_removed old new id name (FileNode file) stood h = h
leaf_removed old new id name (Link link text) stood (other, body, h) = let same : Link other body ≡ Link link text = (let e = sym h.stood ∙ stood in cc) in subst (λ (n : Node). LeafRemoved old new id name n) same h
leaf_removed old new id name (Dir child) stood (other, body, h) = let e = sym h.stood ∙ stood in cc
leaf_removed old new id name (Mount backend) stood (other, body, h) = let e = sym h.stood ∙ stood in cc

-- a file or a link was removed
record RemovedLeaf (version : ℕ) (store : Store) (path : List ℕ) : Type 0 where
  here : Spot
  name : List ℕ
  names : NamesEntry version store path here name
  directory : Listing
  there : directory_at store here ≡ Some directory
  leaf : Node
  stood : node_of store here name ≡ Some leaf
  outcome : nstep (names_at store here.backend) (Remfile here.directory name (slash_of path)) ≡ outcome_of (without_entry_at (names_at store here.backend) here.directory name) (loss_answer leaf)
  new : (posix version store (Unlink path)).store ≡ after_loss (with_names store here.backend (without_entry_at (names_at store here.backend) here.directory name)) here.backend (Some leaf)

module _ (store : Store) (backend : ℕ) (tree : Tree) (id : ℕ) (name : List ℕ) where
  abbrev Unlinks : Option Node → NamesOutcome → Type 0
  Unlinks node outcome = (leaf : Node) × (node ≡ Some leaf) × (outcome ≡ outcome_of (without_entry_at tree id name) (loss_answer leaf)) × ((after_names store backend outcome).store ≡ after_loss (with_names store backend (without_entry_at tree id name)) backend (Some leaf))

  leaf_done : (slash : Bool) (node : Option Node) → (after_names store backend (remfile_outcome_at tree id name slash node)).reply ≡ Done → Unlinks node (remfile_outcome_at tree id name slash node)
  leaf_done slash None h = cc
  leaf_done slash (Some (Dir child)) h = cc
  leaf_done slash (Some (Mount other)) h = cc
  leaf_done true (Some (FileNode file)) h = cc
  leaf_done true (Some (Link link text)) h = cc
  leaf_done false (Some (FileNode file)) h = (FileNode file, refl, refl, refl)
  leaf_done false (Some (Link link text)) h = (Link link text, refl, refl, refl)

  remfile_done : (slash : Bool) (directory : Option Listing) → (after_names store backend (unless_gone tree directory (remfile_outcome tree id name slash))).reply ≡ Done → (d : Listing) × (directory ≡ Some d) × Unlinks (node_in directory name) (unless_gone tree directory (remfile_outcome tree id name slash))
  remfile_done slash None h = cc
  remfile_done slash (Some directory) h = (directory, refl, leaf_done slash (entry_at directory name) h)

unlink_done : (version : ℕ) (store : Store) (path : List ℕ) → (posix version store (Unlink path)).reply ≡ Done → RemovedLeaf version store path
unlink_done version store path h =
    let (here, name, names, slash) = change_done version store change.Remfile path h in
    let tree : Tree = names_at store here.backend in
    let at : posix version store (Unlink path) ≡ after_names store here.backend (nstep tree (Remfile here.directory name (slash_of path))) = change_at version store change.Remfile path here name names slash in
    let (directory, there, (leaf, stood, outcome, new)) = remfile_done store here.backend tree here.directory name (slash_of path) (dir_at tree here.directory) (ap (λ (o : CallOutcome). o.reply) (sym at) ∙ h) in
    record { here = here; name = name; names = names; directory = directory; there = there; leaf = leaf; stood = stood; outcome = outcome; new = ap (λ (o : CallOutcome). o.store) at ∙ new }

-- the names after an `unlink`
left_names : (version : ℕ) (store : Store) (path : List ℕ) (m : RemovedLeaf version store path) → names_at (after_loss (with_names store m.here.backend (without_entry_at (names_at store m.here.backend) m.here.directory m.name)) m.here.backend (Some m.leaf)) m.here.backend ≡ without_entry_at (names_at store m.here.backend) m.here.directory m.name
left_names version store path m =
    loss_names (with_names store m.here.backend (without_entry_at (names_at store m.here.backend) m.here.directory m.name)) m.here.backend (Some m.leaf) m.here.backend
    ∙ names_here store m.here.backend (without_entry_at (names_at store m.here.backend) m.here.directory m.name) m.here.directory m.directory m.there

pub unlink_removes : (version : ℕ) (store : Store) (path : List ℕ) → (posix version store (Unlink path)).reply ≡ Done → LeafUnlinked version store (posix version store (Unlink path)).store path
unlink_removes version store path h =
    let m = unlink_done version store path h in
    let tree : Tree = names_at store m.here.backend in
    let left : Tree = without_entry_at tree m.here.directory m.name in
    let names : names_at (posix version store (Unlink path)).store m.here.backend ≡ left = ap (λ (s : Store). names_at s m.here.backend) m.new ∙ left_names version store path m in
    record {
      here = m.here;
      name = m.name;
      names = m.names;
      node = m.leaf;
      changed = λ sound. subst (λ (t : Tree). LeafRemoved tree t m.here.directory m.name m.leaf) (sym names)
          (leaf_removed tree left m.here.directory m.name m.leaf m.stood (subst (λ (o : NamesOutcome). Removes tree o.tree m.here.directory m.name o.answer) m.outcome (remfile_removes tree m.here.directory m.name (slash_of path) sound)));
      elsewhere = m.new ∙ ap (λ (t : Tree). after_loss (with_names store m.here.backend t) m.here.backend (Some m.leaf)) (sym names);
    }

pub unlink_then_lstat : (version : ℕ) (store : Store) (path : List ℕ) (here : Spot) (name : List ℕ) → NamesEntry version store path here name → HasNamesInOrder store here → (posix version store (Unlink path)).reply ≡ Done → (posix version (posix version store (Unlink path)).store (Lstat path)).reply ≡ Fault Enoent
unlink_then_lstat version store path here name names order h =
    let m = unlink_done version store path h in
    let tree : Tree = names_at store m.here.backend in
    let left : Tree = without_entry_at tree m.here.directory m.name in
    let new : Store = after_loss (with_names store m.here.backend left) m.here.backend (Some m.leaf) in
    let ordered : Ordered tree m.here.directory = subst (HasNamesInOrder store) (sym (same_entry version store path here m.here name m.name names m.names)) order in
    let here_is : names_at new m.here.backend ≡ left = left_names version store path m in
    let less : Loses store new = store_loses store new m.here.backend tree left refl here_is (λ other ne. loss_names (with_names store m.here.backend left) m.here.backend (Some m.leaf) other ∙ names_other store m.here.backend other left ne) (loss_current (with_names store m.here.backend left) m.here.backend (Some m.leaf)) (lost_node tree m.here.directory m.name None ordered) (lost_parent tree m.here.directory m.name None ordered) in
    ap (λ (s : Store). (posix version s (Lstat path)).reply) m.new
    ∙ lstat_absent version store new path m.here m.name m.names less (ap (λ (t : Tree). node_at t m.here.directory m.name) here_is ∙ unlinked_at tree m.here.directory m.name ordered)
