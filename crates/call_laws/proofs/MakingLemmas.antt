-- What `mkdir` and `symlink` make is there, and nothing else has changed.
use Rattle.path_walk.specs.declared.call.Base.TheVariants.{Cwd}
use Rattle.std.proofs.Common.{◌≡◌, ◌≢◌, ℕ, Bool, true, false, List, [], ◌∷◌, ◌++◌, length, Option, None, Some, Result, Ok, refl, sym, ap, subst, ◌∙◌, arith}
use Rattle.wf_core.specs.declared.errno.Errno.{Errno}
use Rattle.wf_core.specs.declared.errno.Errno.TheVariants.{Eexist}
use Rattle.name_store.specs.declared.operation.Node.{Node}
use Rattle.name_store.specs.declared.operation.Node.TheVariants.{Dir, Link}
use Rattle.name_store.specs.declared.operation.NameOp.TheVariants.{Makedir, Addlink}
use Rattle.name_store.specs.declared.operation.NameAnswer.TheVariants.{MadeDir, MadeLink, Fault as NameFault}
use Rattle.name_store.specs.NameTrees.{Tree, Listing, NamesOutcome, dir_at, entry_at, empty_in, nstep, outcome_of, unless_gone, makedir_outcome_at, addlink_outcome_at, with_entry_at, with_new_directory, with_new_link}
use Rattle.name_store.specs.Sound.{node_in, node_at, parent_of, parent_at}
use Rattle.name_store.specs.EntryLaws.{DirectoryMade, LeafMade}
use Rattle.name_store.proofs.Changes.{entered_at, entered_apart, entered_parents, entered_size, more_others, past}
use Rattle.name_store.proofs.EntryLemmas.{makedir_makes, addlink_makes}
use Rattle.path_walk.specs.declared.route.Manner.TheVariants.{Follows, Stays}
use Rattle.path_walk.specs.declared.route.Spot.{Spot}
use Rattle.path_walk.specs.declared.route.End.{End}
use Rattle.path_walk.specs.declared.route.End.TheVariants.{LinkText}
use Rattle.path_walk.specs.declared.goal.Change.TheVariants as change
use Rattle.path_walk.specs.declared.step.StoreAnswer.TheVariants.{Names as NamesAnswer}
use Rattle.path_walk.specs.declared.step.StepAnswer.TheVariants.{Answered}
use Rattle.path_walk.specs.declared.call.Call.TheVariants.{Mkdir, Symlink, Stat, Readlink, Lstat}
use Rattle.path_walk.specs.declared.call.Reply.TheVariants.{Done, Fault}
use Rattle.path_walk.specs.Store.{Store, names_at, with_names}
use Rattle.path_walk.specs.Paths.{slash_of}
use Rattle.path_walk.specs.PathMeaning.{Way, course, end_of_course, resolve}
use Rattle.path_walk.specs.Programs.{CallOutcome}
use Rattle.path_walk.specs.Plans.{at_once, unless_fault}
use Rattle.path_walk.specs.Calls.{changes, plan_after, slash_fault, status_plan, text_fault, text_plan, unlinked_by, path_at}
use Rattle.path_walk.specs.Posix.{posix}
use Rattle.call_laws.specs.Entries.{NamesEntry, directory_at, node_of, path_end}
use Rattle.call_laws.specs.EntryLaws.{EntryChanged, LinkIsThere, MadeIsThere}
use Rattle.call_laws.proofs.StoreLemmas.{names_by, names_here, names_other}
use Rattle.call_laws.proofs.Leading.{Extends}
use Rattle.call_laws.proofs.ChangeLemmas.{change_done, change_at, entry_end, names_still, unless_done, whole_at}

-- In a tree.

length_other : (tree : Tree) (id : ℕ) (directory : Listing) → dir_at tree id ≡ Some directory → id ≢ length tree
length_other tree id directory is e =
    let none : dir_at tree id ≡ None = past tree id (omega (arith, e)) in
    let clash : None ≡ Some directory = sym none ∙ is in cc

node_there : (directory : Option Listing) (name : List ℕ) (node : Node) → node_in directory name ≡ Some node → (d : Listing) × (directory ≡ Some d)
node_there None name node h = cc
node_there (Some directory) name node h = (directory, refl)

parent_there : (directory : Option Listing) (parent : ℕ) → parent_of directory ≡ Some parent → (d : Listing) × (directory ≡ Some d)
parent_there None parent h = cc
parent_there (Some directory) parent h = (directory, refl)

module _ (tree : Tree) (id : ℕ) (name : List ℕ) (node : Node) (slot : Option Listing) (directory : Listing) (is_there : dir_at tree id ≡ Some directory) (absent : node_at tree id name ≡ None) where
  abbrev new_tree : Tree
  new_tree = with_entry_at tree id name node ++ slot ∷ []

  grown_dir : (other : ℕ) → other ≢ length tree → dir_at new_tree other ≡ dir_at (with_entry_at tree id name node) other
  grown_dir other ne = more_others (with_entry_at tree id name node) slot other (λ e. ne (e ∙ entered_size tree id name node))

  grown_parent : (other parent : ℕ) → parent_at tree other ≡ Some parent → parent_at new_tree other ≡ Some parent
  grown_parent other parent h =
      let (d, is) = parent_there (dir_at tree other) parent h in
      ap parent_of (grown_dir other (length_other tree other d is)) ∙ entered_parents tree id name node other ∙ h

  pub grown_here : node_at new_tree id name ≡ Some node
  grown_here =
      ap (λ (d : Option Listing). node_in d name) (grown_dir id (length_other tree id directory is_there)) ∙ entered_at tree id directory.parent name node (ap parent_of is_there)

  grown_node : (other : ℕ) (other_name : List ℕ) (old : Node) → node_at tree other other_name ≡ Some old → node_at new_tree other other_name ≡ Some old
  grown_node other other_name old h =
      let (d, is) = node_there (dir_at tree other) other_name old h in
      ap (λ (d : Option Listing). node_in d other_name) (grown_dir other (length_other tree other d is))
      ∙ entered_apart tree id name node other other_name (λ e f. clash e f)
      ∙ h
    where
      clash : other ≡ id → other_name ≡ name → ⊥
      clash e f =
          let none : Some old ≡ None = sym h ∙ ap (λ (i : ℕ). node_at tree i other_name) e ∙ ap (node_at tree id) f ∙ absent in cc

  -- a store with the new tree extends the one before
  pub store_grown : (store : Store) (backend : ℕ) → names_at store backend ≡ tree → Extends store (with_names store backend new_tree)
  store_grown store backend is_tree = record { entries = entries_still; parents = parents_still; current = refl }
    where
      here_is : names_at (with_names store backend new_tree) backend ≡ new_tree
      here_is = names_here store backend new_tree id directory (ap (λ (t : Tree). dir_at t id) is_tree ∙ is_there)

      names_are : (P : Tree → Tree → Type 0) (other : ℕ) → P tree new_tree → P (names_at store other) (names_at store other) → P (names_at store other) (names_at (with_names store backend new_tree) other)
      names_are = names_by store (with_names store backend new_tree) backend tree new_tree is_tree here_is (λ other ne. names_other store backend other new_tree ne)

      entries_still : (here : Spot) (other_name : List ℕ) (old : Node) → node_of store here other_name ≡ Some old → node_of (with_names store backend new_tree) here other_name ≡ Some old
      entries_still here other_name old = names_are (λ t u. node_at t here.directory other_name ≡ Some old → node_at u here.directory other_name ≡ Some old) here.backend (grown_node here.directory other_name old) (λ h. h)

      parents_still : (here : Spot) (parent : ℕ) → parent_at (names_at store here.backend) here.directory ≡ Some parent → parent_at (names_at (with_names store backend new_tree) here.backend) here.directory ≡ Some parent
      parents_still here parent = names_are (λ t u. parent_at t here.directory ≡ Some parent → parent_at u here.directory ≡ Some parent) here.backend (grown_parent here.directory parent) (λ h. h)

-- The last step.

abbrev pub after_names : Store → ℕ → NamesOutcome → CallOutcome
after_names store backend outcome = at_once (with_names store backend outcome.tree) (plan_after backend (Answered (NamesAnswer outcome.answer)) (unlinked_by (Answered (NamesAnswer outcome.answer))))

-- a step that makes an entry has found the directory, and no entry of that name
makes_in : (store : Store) (backend : ℕ) (tree : Tree) (directory : Option Listing) (name : List ℕ) (made : NamesOutcome) (outcome_at : Option Node → NamesOutcome) → outcome_at None ≡ made → ((node : Node) → outcome_at (Some node) ≡ outcome_of tree (NameFault Eexist)) → (after_names store backend (unless_gone tree directory (λ d. outcome_at (entry_at d name)))).reply ≡ Done → (d : Listing) × (directory ≡ Some d) × (node_in directory name ≡ None) × (unless_gone tree directory (λ d. outcome_at (entry_at d name)) ≡ made)
makes_in store backend tree None name made outcome_at absent there h = cc
makes_in store backend tree (Some directory) name made outcome_at absent there h = at_node (entry_at directory name) h
  where
    at_node : (node : Option Node) → (after_names store backend (outcome_at node)).reply ≡ Done → (d : Listing) × (Some directory ≡ Some d) × (node ≡ None) × (outcome_at node ≡ made)
    at_node None k = (directory, refl, refl, absent)
    at_node (Some node) k =
        let clash : Fault Eexist ≡ Done = sym (ap (λ (o : NamesOutcome). (after_names store backend o).reply) (there node)) ∙ k in cc

there_in : (tree : Tree) (directory : Option Listing) (name : List ℕ) (node : Node) (outcome_at : Option Node → NamesOutcome) → node_in directory name ≡ Some node → unless_gone tree directory (λ d. outcome_at (entry_at d name)) ≡ outcome_at (Some node)
there_in tree None name node outcome_at h = cc
there_in tree (Some directory) name node outcome_at h = ap outcome_at h

-- `mkdir`

-- a directory was made
record MadeDirectory (version : ℕ) (store : Store) (path : List ℕ) : Type 0 where
  here : Spot
  name : List ℕ
  names : NamesEntry version store path here name
  directory : Listing
  there : directory_at store here ≡ Some directory
  absent : node_of store here name ≡ None
  outcome : nstep (names_at store here.backend) (Makedir here.directory name) ≡ outcome_of (with_new_directory (names_at store here.backend) here.directory name) (MadeDir (length (names_at store here.backend)))
  new : (posix version store (Mkdir path)).store ≡ with_names store here.backend (with_new_directory (names_at store here.backend) here.directory name)

mkdir_made : (version : ℕ) (store : Store) (path : List ℕ) → (posix version store (Mkdir path)).reply ≡ Done → MadeDirectory version store path
mkdir_made version store path h =
    let (here, name, names, slash) = change_done version store change.Makedir path h in
    let tree : Tree = names_at store here.backend in
    let at : posix version store (Mkdir path) ≡ after_names store here.backend (nstep tree (Makedir here.directory name)) = change_at version store change.Makedir path here name names slash in
    let (directory, there, absent, outcome) = makes_in store here.backend tree (dir_at tree here.directory) name (outcome_of (with_new_directory tree here.directory name) (MadeDir (length tree))) (makedir_outcome_at tree here.directory name) refl (λ node. refl) (ap (λ (o : CallOutcome). o.reply) (sym at) ∙ h) in
    record {
      here = here;
      name = name;
      names = names;
      directory = directory;
      there = there;
      absent = absent;
      outcome = outcome;
      new = ap (λ (o : CallOutcome). o.store) at ∙ ap (λ (o : NamesOutcome). (after_names store here.backend o).store) outcome;
    }

pub mkdir_makes : (version : ℕ) (store : Store) (path : List ℕ) → (posix version store (Mkdir path)).reply ≡ Done → EntryChanged version store (posix version store (Mkdir path)).store path (λ old new id name. (made : ℕ) × DirectoryMade old new id name made)
mkdir_makes version store path h =
    let m = mkdir_made version store path h in
    let tree : Tree = names_at store m.here.backend in
    let new_tree : Tree = with_new_directory tree m.here.directory m.name in
    let names : names_at (posix version store (Mkdir path)).store m.here.backend ≡ new_tree = ap (λ (s : Store). names_at s m.here.backend) m.new ∙ names_here store m.here.backend new_tree m.here.directory m.directory m.there in
    record {
      here = m.here;
      name = m.name;
      names = m.names;
      changed = λ sound. (length tree, subst (λ (t : Tree). DirectoryMade tree t m.here.directory m.name (length tree)) (ap (λ (o : NamesOutcome). o.tree) m.outcome ∙ sym names) (makedir_makes tree m.here.directory m.name (length tree) sound (ap (λ (o : NamesOutcome). o.answer) m.outcome)));
      elsewhere = m.new ∙ ap (with_names store m.here.backend) (sym names);
    }

pub mkdir_then_stat : (version : ℕ) (store : Store) (path : List ℕ) → (posix version store (Mkdir path)).reply ≡ Done → MadeIsThere version store path
mkdir_then_stat version store path h =
    let m = mkdir_made version store path h in
    let tree : Tree = names_at store m.here.backend in
    let new : Store = with_names store m.here.backend (with_new_directory tree m.here.directory m.name) in
    let more : Extends store new = store_grown tree m.here.directory m.name (Dir (length tree)) (Some (empty_in m.here.directory)) m.directory m.there m.absent store m.here.backend refl in
    let names : NamesEntry version new path m.here m.name = names_still version store new path m.here m.name more m.names in
    let there : node_of new m.here m.name ≡ Some (Dir (length tree)) =
    ap (λ (t : Tree). node_at t m.here.directory m.name) (names_here store m.here.backend (with_new_directory tree m.here.directory m.name) m.here.directory m.directory m.there) ∙ grown_here tree m.here.directory m.name (Dir (length tree)) (Some (empty_in m.here.directory)) m.directory m.there m.absent in
    let end = entry_end version new Follows path m.here m.name names in
    record {
      stat =
          ap (λ (s : Store). (posix version s (Stat path)).reply) m.new
          ∙ ap (λ (o : CallOutcome). o.reply) (whole_at version new Follows path status_plan m.names.walked)
          ∙ ap (λ (e : Result End Errno). (at_once new (status_plan e)).reply) (end ∙ ap (λ (n : Option Node). end_of_course (course Follows n [] (slash_of path) names.links m.here) (λ w. resolve new names.left w.rest Follows w.slash w.links w.spot)) there);
      once =
          ap (λ (s : Store). (posix version s (Mkdir path)).reply) m.new
          ∙ ap (λ (o : CallOutcome). o.reply) (change_at version new change.Makedir path m.here m.name names refl)
          ∙ ap (λ (o : NamesOutcome). (after_names new m.here.backend o).reply) (there_in (names_at new m.here.backend) (directory_at new m.here) m.name (Dir (length tree)) (makedir_outcome_at (names_at new m.here.backend) m.here.directory m.name) there);
    }

-- `symlink`

-- a link was made
record MadeLinkText (version : ℕ) (store : Store) (text path : List ℕ) : Type 0 where
  here : Spot
  name : List ℕ
  names : NamesEntry version store path here name
  slash : slash_of path ≡ false
  directory : Listing
  there : directory_at store here ≡ Some directory
  absent : node_of store here name ≡ None
  outcome : nstep (names_at store here.backend) (Addlink here.directory name text) ≡ outcome_of (with_new_link (names_at store here.backend) here.directory name text) (MadeLink (length (names_at store here.backend)))
  new : (posix version store (Symlink text path)).store ≡ with_names store here.backend (with_new_link (names_at store here.backend) here.directory name text)

no_slash : (text : List ℕ) (slash : Bool) → slash_fault (change.Addlink text) slash ≡ None → slash ≡ false
no_slash text true h = cc
no_slash text false h = refl

symlink_made : (version : ℕ) (store : Store) (text path : List ℕ) → (posix version store (Symlink text path)).reply ≡ Done → MadeLinkText version store text path
symlink_made version store text path h =
    let (fault, done) = unless_done store (text_fault text) (changes (change.Addlink text) (path_at version Cwd path)) h in
    let (here, name, names, slash) = change_done version store (change.Addlink text) path done in
    let tree : Tree = names_at store here.backend in
    let at : posix version store (Symlink text path) ≡ after_names store here.backend (nstep tree (Addlink here.directory name text)) =
    ap (λ (f : Option Errno). at_once store (unless_fault f (changes (change.Addlink text) (path_at version Cwd path)))) fault ∙ change_at version store (change.Addlink text) path here name names slash in
    let (directory, there, absent, outcome) = makes_in store here.backend tree (dir_at tree here.directory) name (outcome_of (with_new_link tree here.directory name text) (MadeLink (length tree))) (addlink_outcome_at tree here.directory name text) refl (λ node. refl) (ap (λ (o : CallOutcome). o.reply) (sym at) ∙ h) in
    record {
      here = here;
      name = name;
      names = names;
      slash = no_slash text (slash_of path) slash;
      directory = directory;
      there = there;
      absent = absent;
      outcome = outcome;
      new = ap (λ (o : CallOutcome). o.store) at ∙ ap (λ (o : NamesOutcome). (after_names store here.backend o).store) outcome;
    }

pub symlink_makes : (version : ℕ) (store : Store) (text path : List ℕ) → (posix version store (Symlink text path)).reply ≡ Done → EntryChanged version store (posix version store (Symlink text path)).store path (λ old new id name. (link : ℕ) × LeafMade old new id name (Link link text))
symlink_makes version store text path h =
    let m = symlink_made version store text path h in
    let tree : Tree = names_at store m.here.backend in
    let new_tree : Tree = with_new_link tree m.here.directory m.name text in
    let names : names_at (posix version store (Symlink text path)).store m.here.backend ≡ new_tree = ap (λ (s : Store). names_at s m.here.backend) m.new ∙ names_here store m.here.backend new_tree m.here.directory m.directory m.there in
    record {
      here = m.here;
      name = m.name;
      names = m.names;
      changed = λ sound. (length tree, subst (λ (t : Tree). LeafMade tree t m.here.directory m.name (Link (length tree) text)) (ap (λ (o : NamesOutcome). o.tree) m.outcome ∙ sym names) (addlink_makes tree m.here.directory m.name text (length tree) sound (ap (λ (o : NamesOutcome). o.answer) m.outcome)));
      elsewhere = m.new ∙ ap (with_names store m.here.backend) (sym names);
    }

-- a last link that is not followed is the path's end
link_end : (links : ℕ) (id : ℕ) (text : List ℕ) (here : Spot) (slash : Bool) (resolves : Way → Result End Errno) → slash ≡ false → end_of_course (course Stays (Some (Link id text)) [] slash links here) resolves ≡ Ok (LinkText text)
link_end links id text here slash resolves e = ap (λ (s : Bool). end_of_course (course Stays (Some (Link id text)) [] s links here) resolves) e

pub symlink_then_readlink : (version : ℕ) (store : Store) (text path : List ℕ) → (posix version store (Symlink text path)).reply ≡ Done → LinkIsThere version store text path
symlink_then_readlink version store text path h =
    let m = symlink_made version store text path h in
    let tree : Tree = names_at store m.here.backend in
    let link : Node = Link (length tree) text in
    let new : Store = with_names store m.here.backend (with_new_link tree m.here.directory m.name text) in
    let more : Extends store new = store_grown tree m.here.directory m.name link None m.directory m.there m.absent store m.here.backend refl in
    let names : NamesEntry version new path m.here m.name = names_still version store new path m.here m.name more m.names in
    let there : node_of new m.here m.name ≡ Some link =
    ap (λ (t : Tree). node_at t m.here.directory m.name) (names_here store m.here.backend (with_new_link tree m.here.directory m.name text) m.here.directory m.directory m.there) ∙ grown_here tree m.here.directory m.name link None m.directory m.there m.absent in
    let end = entry_end version new Stays path m.here m.name names in
    let at_end : path_end version new Stays path ≡ Ok (LinkText text) =
    end ∙ ap (λ (n : Option Node). end_of_course (course Stays n [] (slash_of path) names.links m.here) (λ w. resolve new names.left w.rest Stays w.slash w.links w.spot)) there
    ∙ link_end names.links (length tree) text m.here (slash_of path) _ m.slash in
    record {
      readlink =
          ap (λ (s : Store). (posix version s (Readlink path)).reply) m.new
          ∙ ap (λ (o : CallOutcome). o.reply) (whole_at version new Stays path text_plan m.names.walked)
          ∙ ap (λ (e : Result End Errno). (at_once new (text_plan e)).reply) at_end;
      lstat =
          ap (λ (s : Store). (posix version s (Lstat path)).reply) m.new
          ∙ ap (λ (o : CallOutcome). o.reply) (whole_at version new Stays path status_plan m.names.walked)
          ∙ ap (λ (e : Result End Errno). (at_once new (status_plan e)).reply) at_end;
    }
