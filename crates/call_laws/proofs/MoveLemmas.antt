-- What `rename` moves.
use Rattle.path_walk.specs.declared.call.Base.TheVariants.{Cwd}
use Rattle.std.proofs.Common.{◌≡◌, ◌≢◌, ◌⊎◌, inl, inr, ℕ, ◌==◌, ◌||◌, zero, suc, Bool, true, false, if◌then◌else◌, List, length, Option, None, Some, Result, Ok, refl, sym, ap, subst, ◌∙◌, arith}
use Rattle.std.proofs.lemmas.Bool.Decides.{nat_tests}
use Rattle.wf_core.specs.declared.errno.Errno.{Errno}
use Rattle.wf_core.specs.declared.errno.Errno.TheVariants.{Exdev}
use Rattle.name_store.specs.declared.operation.Node.{Node}
use Rattle.name_store.specs.declared.operation.Node.TheVariants.{Dir, Link, File as FileNode, Mount}
use Rattle.name_store.specs.declared.operation.NameOp.TheVariants.{Move}
use Rattle.name_store.specs.declared.operation.NameAnswer.{NameAnswer}
use Rattle.name_store.specs.declared.operation.NameAnswer.TheVariants as answer
use Rattle.name_store.specs.NameTrees.{Tree, Listing, NamesOutcome, dir_at, entry_at, move_outcome, move_outcome_at, nstep, outcome_of, parent_or_root, unless_gone, up}
use Rattle.name_store.specs.Forms.{IsForm}
use Rattle.name_store.specs.Sound.{IsSound, climb, node_at, node_in, parent_at, parent_of as parent_in}
use Rattle.name_store.specs.EntryLaws.{EntryMoved, IsMoved, SaysMoved}
use Rattle.name_store.specs.Laws.{LeavesTree}
use Rattle.name_store.proofs.EntryLemmas.{move_moves, same_is_one_entry}
use Rattle.name_store.proofs.Formed.{move_form}
use Rattle.name_store.proofs.Refusals.{refused_same}
use Rattle.name_store.proofs.Soundness.{step_sound}
use Rattle.path_walk.specs.declared.part.Part.{Part}
use Rattle.path_walk.specs.declared.part.Part.TheVariants.{Down}
use Rattle.path_walk.specs.declared.route.Spot.{Spot}
use Rattle.path_walk.specs.declared.route.Station.{Station}
use Rattle.path_walk.specs.declared.route.Route.{Route}
use Rattle.path_walk.specs.declared.route.End.{End}
use Rattle.path_walk.specs.declared.route.End.TheVariants.{Directory}
use Rattle.path_walk.specs.declared.call.Call.TheVariants.{Rename}
use Rattle.path_walk.specs.declared.call.Reply.TheVariants.{Done}
use Rattle.path_walk.specs.Store.{Store, names_at, with_names}
use Rattle.path_walk.specs.Paths.{last_of, parts_of, path_fault, slash_of}
use Rattle.path_walk.specs.Programs.{CallOutcome}
use Rattle.path_walk.specs.Plans.{Plan, fails, at_once, on_ok, ok_unless, parent_route, walks_from}
use Rattle.path_walk.specs.Calls.{last_fault, last_step, move_faults, move_on, move_plan, move_step, name_of, parent_of, parent_plan, path_at}
use Rattle.path_walk.specs.Posix.{posix}
use Rattle.call_laws.specs.Entries.{NamesEntry, after_loss, directory_at, prefix_end}
use Rattle.call_laws.specs.PathLaws.{EntryRelocated, EntryRenamed, IsOneEntry}
use Rattle.path_walk.proofs.Leads.{same_names}
use Rattle.call_laws.proofs.StoreLemmas.{names_here}
use Rattle.call_laws.proofs.RemovalLemmas.{loss_names}
use Rattle.call_laws.proofs.MakingLemmas.{after_names}
use Rattle.call_laws.proofs.ChangeLemmas.{on_ok_done, parent_done, name_there, left_there, route_there, parent_route_of, walks_at}
use Rattle.path_walk.specs.PathMeaning.{station}

-- The two paths.

-- what follows a prefix whose directory is known: the last component is still any
abbrev after_prefix : ℕ → List ℕ → (Option Part → Bool → Spot → Plan) → Plan
after_prefix version path next = on_ok (parent_route path) (λ route. walks_from (path_at version Cwd path).base route (parent_plan route.last (next route.last route.slash)))

-- a prefix was walked, to a directory from which what follows was done
abbrev PrefixDone : ℕ → Store → List ℕ → (Option Part → Bool → Spot → Plan) → Type 0
PrefixDone version store path next = (path_fault path ≡ None) × ((there : Station) × (prefix_end version store path ≡ Ok (Directory there)) × (last_fault (last_of (parts_of path)) there.names ≡ None) × ((at_once store (next (last_of (parts_of path)) (slash_of path) there.spot)).reply ≡ Done))

prefix_is_done : (version : ℕ) (store : Store) (path : List ℕ) (next : Option Part → Bool → Spot → Plan) → (at_once store (after_prefix version path next)).reply ≡ Done → PrefixDone version store path next
prefix_is_done version store path next h =
    let (route, is_route, walked) = on_ok_done store (parent_route path) (λ route. walks_from (path_at version Cwd path).base route (parent_plan route.last (next route.last route.slash))) h in
    let (fault, same) = route_there (path_fault path) (parent_route_of path) route is_route in
    (fault, parent_done store (last_of (parts_of path)) (next (last_of (parts_of path)) (slash_of path)) (prefix_end version store path) (sym (ap (λ (o : CallOutcome). o.reply) (walks_at version store path (parent_route_of path) (parent_plan (last_of (parts_of path)) (next (last_of (parts_of path)) (slash_of path))))) ∙ subst (λ (r : Route). (at_once store (walks_from (path_at version Cwd path).base r (parent_plan r.last (next r.last r.slash)))).reply ≡ Done) same walked))

-- a path whose last component is a name names an entry
names_entry : (version : ℕ) (store : Store) (path : List ℕ) (there : Station) (name : List ℕ) → path_fault path ≡ None → prefix_end version store path ≡ Ok (Directory there) → last_fault (last_of (parts_of path)) there.names ≡ None → last_of (parts_of path) ≡ Some (Down name) → NamesEntry version store path there.spot name
names_entry version store path there name fault end some last =
    let (less, suc_less) = left_there name there.names (subst (λ (l : Option Part). last_fault l there.names ≡ None) last some) in
    record { walked = fault; last = last; left = less; links = there.links; prefix = end ∙ ap (λ (n : ℕ). let r : Result End Errno = Ok (Directory (station n there.links there.spot)) in r) suc_less }

-- what follows the prefix of a path that names an entry
prefix_at : (version : ℕ) (store : Store) (path : List ℕ) (here : Spot) (name : List ℕ) (next : Option Part → Bool → Spot → Plan) → NamesEntry version store path here name → at_once store (after_prefix version path next) ≡ at_once store (next (Some (Down name)) (slash_of path) here)
prefix_at version store path here name next names =
    ap (λ (fault : Option Errno). at_once store (on_ok (ok_unless fault (parent_route_of path)) (λ route. walks_from (path_at version Cwd path).base route (parent_plan route.last (next route.last route.slash))))) names.walked
    ∙ walks_at version store path (parent_route_of path) (parent_plan (last_of (parts_of path)) (next (last_of (parts_of path)) (slash_of path)))
    ∙ ap (λ (end : Result End Errno). at_once store (parent_plan (last_of (parts_of path)) (next (last_of (parts_of path)) (slash_of path)) end)) names.prefix
    ∙ ap (λ (last : Option Part). at_once store (on_ok (parent_of last (Directory (station (suc names.left) names.links here))) (next last (slash_of path)))) names.last

abbrev second : ℕ → List ℕ → Option Part → Bool → Spot → Plan
second version new_path last slash from = move_on last slash (path_at version Cwd new_path).base (parent_route new_path) from

abbrev third : Spot → Option Part → Bool → Option Part → Bool → Spot → Plan
third from last slash new_last new_slash to = move_plan from last (slash || new_slash) new_last to

beside_done : (store : Store) (from : Spot) (op : Spot → Plan) (to : Spot) (is_one : Bool) → (at_once store (if is_one then op to else fails Exdev)).reply ≡ Done → is_one ≡ true
beside_done store from op to true h = refl
beside_done store from op to false h = cc

same_number : (a b : ℕ) → (a == b) ≡ true → a ≡ b
same_number a b h = grind (arith, nat_tests)

-- both paths of a `rename` that was done name entries of one backend
record Moves (version : ℕ) (store : Store) (path new_path : List ℕ) : Type 0 where
  from : Spot
  name : List ℕ
  names : NamesEntry version store path from name
  to : Spot
  new_name : List ℕ
  new_names : NamesEntry version store new_path to new_name
  beside : (from.backend == to.backend) ≡ true

rename_done : (version : ℕ) (store : Store) (path new_path : List ℕ) → (posix version store (Rename path new_path)).reply ≡ Done → Moves version store path new_path
rename_done version store path new_path h =
    let last : Option Part = last_of (parts_of path) in
    let new_last : Option Part = last_of (parts_of new_path) in
    let slash : Bool = slash_of path || slash_of new_path in
    let (fault, (from, end, some, on)) = prefix_is_done version store path (second version new_path) h in
    let (new_fault, (to, new_end, new_some, moved)) = prefix_is_done version store new_path (third from.spot last (slash_of path)) on in
    let (name, is_name, named) = on_ok_done store (name_of move_faults last) (λ name. on_ok (name_of move_faults new_last) (λ new_name. move_step from.spot name slash to.spot new_name)) moved in
    let (new_name, is_new_name, done) = on_ok_done store (name_of move_faults new_last) (λ new_name. move_step from.spot name slash to.spot new_name) named in
    record {
      from = from.spot;
      name = name;
      to = to.spot;
      new_name = new_name;
      names = names_entry version store path from name fault end some (name_there move_faults last name is_name);
      new_names = names_entry version store new_path to new_name new_fault new_end new_some (name_there move_faults new_last new_name is_new_name);
      beside = beside_done store from.spot (λ to. last_step from.spot.backend (Move from.spot.directory name to.directory new_name slash)) to.spot (from.spot.backend == to.spot.backend) done;
    }

rename_at : (version : ℕ) (store : Store) (path new_path : List ℕ) (m : Moves version store path new_path) → posix version store (Rename path new_path) ≡ after_names store m.from.backend (nstep (names_at store m.from.backend) (Move m.from.directory m.name m.to.directory m.new_name (slash_of path || slash_of new_path)))
rename_at version store path new_path m =
    prefix_at version store path m.from m.name (second version new_path) m.names
    ∙ prefix_at version store new_path m.to m.new_name (third m.from (Some (Down m.name)) (slash_of path)) m.new_names
    ∙ ap (λ (is_one : Bool). at_once store (if is_one then last_step m.from.backend (Move m.from.directory m.name m.to.directory m.new_name (slash_of path || slash_of new_path)) else fails Exdev)) m.beside

-- The last step.

-- a move that was done answers `same`, or says that it moved
moved_answer : (store : Store) (backend : ℕ) (tree : Tree) (from : ℕ) (name : List ℕ) (to : ℕ) (new_name : List ℕ) (slash : Bool) (given : NameAnswer) → IsForm (Move from name to new_name slash) given → (after_names store backend (outcome_of tree given)).reply ≡ Done → (given ≡ answer.Same) ⊎ SaysMoved given
moved_answer store backend tree from name to new_name slash answer.Same form h = inl refl
moved_answer store backend tree from name to new_name slash (answer.Over file) form h = inr tt
moved_answer store backend tree from name to new_name slash answer.Moved form h = inr tt
moved_answer store backend tree from name to new_name slash (answer.Fault error) form h = cc
moved_answer store backend tree from name to new_name slash answer.Gone form h = cc
moved_answer store backend tree from name to new_name slash answer.Absent form h = absurd form
moved_answer store backend tree from name to new_name slash (answer.Found node) form h = absurd form
moved_answer store backend tree from name to new_name slash (answer.MadeDir id) form h = absurd form
moved_answer store backend tree from name to new_name slash (answer.MadeLink id) form h = absurd form
moved_answer store backend tree from name to new_name slash (answer.Taken node) form h = absurd form
moved_answer store backend tree from name to new_name slash answer.Done form h = absurd form
moved_answer store backend tree from name to new_name slash (answer.RemovedFile file) form h = absurd form
moved_answer store backend tree from name to new_name slash answer.RemovedLink form h = absurd form
moved_answer store backend tree from name to new_name slash (answer.Names names) form h = absurd form

-- the store after a move, by what was there
over_store : (store : Store) (backend : ℕ) (tree : Tree) (over : Option Node) (given : NameAnswer) → SaysMoved given → IsMoved given over → (after_names store backend (outcome_of tree given)).store ≡ after_loss (with_names store backend tree) backend over
over_store store backend tree over (answer.Over file) says is = ap (after_loss (with_names store backend tree) backend) (sym is)
over_store store backend tree None answer.Moved says is = refl
over_store store backend tree (Some (Dir id)) answer.Moved says is = refl
over_store store backend tree (Some (Link id text)) answer.Moved says is = refl
over_store store backend tree (Some (Mount mounted)) answer.Moved says is = refl
over_store store backend tree (Some (FileNode file)) answer.Moved says is = absurd (is file refl)
over_store store backend tree over answer.Gone says is = absurd says
over_store store backend tree over answer.Absent says is = absurd says
over_store store backend tree over (answer.Found node) says is = absurd says
over_store store backend tree over (answer.MadeDir id) says is = absurd says
over_store store backend tree over (answer.MadeLink id) says is = absurd says
over_store store backend tree over (answer.Taken node) says is = absurd says
over_store store backend tree over answer.Done says is = absurd says
over_store store backend tree over (answer.RemovedFile file) says is = absurd says
over_store store backend tree over answer.RemovedLink says is = absurd says
over_store store backend tree over answer.Same says is = absurd says
over_store store backend tree over (answer.Names names) says is = absurd says
over_store store backend tree over (answer.Fault error) says is = absurd says

-- No directory but the root is its own parent.

climb_stays : (tree : Tree) (id steps : ℕ) → up tree id ≡ id → climb tree steps id ≡ id
climb_stays tree id zero h = refl
climb_stays tree id (suc steps) h = ap (climb tree steps) h ∙ climb_stays tree id steps h

own_parent : (tree : Tree) (id : ℕ) → IsSound tree → parent_at tree id ≡ Some id → id ≡ 0
own_parent tree id sound h = sym (climb_stays tree id (length tree) (parent_is (dir_at tree id) h)) ∙ sound.rooted id id h
  where
    parent_is : (directory : Option Listing) → parent_in directory ≡ Some id → parent_or_root directory ≡ id
    parent_is None h = cc
    parent_is (Some directory) h = cc

-- a directory is not in itself
not_in_itself : (tree : Tree) (id child : ℕ) (name : List ℕ) → IsSound tree → node_at tree id name ≡ Some (Dir child) → child ≢ id
not_in_itself tree id child name sound h e =
    let (some, parent) = sound.child id child name h in
    some (own_parent tree child sound (parent ∙ ap (λ (i : ℕ). let o : Option ℕ = Some i in o) (sym e)))

-- a moved directory keeps its entries
moved_keeps : (version : ℕ) (old new : Tree) (from : ℕ) (name : List ℕ) (to : ℕ) (new_name : List ℕ) (child : ℕ) (other : List ℕ) → IsSound old → IsSound new → EntryMoved old new from name to new_name → node_at old from name ≡ Some (Dir child) → node_at new child other ≡ node_at old child other
moved_keeps version old new from name to new_name child other sound sound_new moved h =
    let same : Some moved.node ≡ Some (Dir child) = sym moved.stood ∙ h in
    moved.others child other (λ e f. not_in_itself old from child name sound h e) (λ e f. not_in_itself new to child new_name sound_new (moved.stands ∙ same) e)

module _ (store : Store) (backend : ℕ) (from : ℕ) (name : List ℕ) (to : ℕ) (new_name : List ℕ) (slash : Bool) where
  abbrev tree : Tree
  tree = names_at store backend

  abbrev outcome : NamesOutcome
  outcome = nstep tree (Move from name to new_name slash)

  done_answer : (after_names store backend outcome).reply ≡ Done → (outcome.answer ≡ answer.Same) ⊎ SaysMoved outcome.answer
  done_answer h = moved_answer store backend outcome.tree from name to new_name slash outcome.answer (move_form tree outcome.tree from name to new_name slash (Ok outcome.answer) refl) h

  -- the directory of the first name was there
  source_there : (directory : Option Listing) → (after_names store backend (unless_gone tree directory (λ source. unless_gone tree (dir_at tree to) (move_outcome tree from name to new_name slash source)))).reply ≡ Done → (d : Listing) × (directory ≡ Some d)
  source_there None h = cc
  source_there (Some directory) h = (directory, refl)

  -- with the slash flag, what was moved is a directory
  dir_moved : (node over : Option Node) → (after_names store backend (move_outcome_at tree from name to new_name true node over)).reply ≡ Done → (child : ℕ) × (node ≡ Some (Dir child))
  dir_moved None over h = cc
  dir_moved (Some (Dir child)) over h = (child, refl)
  dir_moved (Some (Link id text)) over h = cc
  dir_moved (Some (FileNode file)) over h = cc
  dir_moved (Some (Mount mounted)) over h = cc

  source_dir : (directory target : Option Listing) → (after_names store backend (unless_gone tree directory (λ source. unless_gone tree target (move_outcome tree from name to new_name true source)))).reply ≡ Done → (child : ℕ) × (node_in directory name ≡ Some (Dir child))
  source_dir None target h = cc
  source_dir (Some source) None h = cc
  source_dir (Some source) (Some target) h = dir_moved (entry_at source name) (entry_at target new_name) h

  same_store : outcome.answer ≡ answer.Same → (after_names store backend outcome).store ≡ store
  same_store e =
      ap (λ (given : NameAnswer). (after_names store backend (outcome_of outcome.tree given)).store) e
      ∙ ap (with_names store backend) (refused_same tree (Move from name to new_name slash) (subst LeavesTree (sym e) tt))
      ∙ same_names store backend

spot_same : (a b : Spot) → a.backend ≡ b.backend → a.directory ≡ b.directory → a ≡ b
spot_same a b e f =
    ap (λ (n : ℕ). let s : Spot = record { backend = n; directory = a.directory } in s) e
    ∙ ap (λ (n : ℕ). let s : Spot = record { backend = b.backend; directory = n } in s) f

module _ (version : ℕ) (store : Store) (path new_path : List ℕ) (m : Moves version store path new_path) (beside : m.from.backend ≡ m.to.backend) where
  abbrev old : Tree
  old = names_at store m.from.backend

  abbrev new : Store
  new = (posix version store (Rename path new_path)).store

  abbrev moves : NamesOutcome
  moves = nstep old (Move m.from.directory m.name m.to.directory m.new_name (slash_of path || slash_of new_path))

  one_entry : moves.answer ≡ answer.Same → IsOneEntry store new m.from m.name m.to m.new_name
  one_entry same =
      let (directory, name_is) = same_is_one_entry old m.from.directory m.name m.to.directory m.new_name (slash_of path || slash_of new_path) same in
      record {
        directory = spot_same m.from m.to beside directory;
        name_is = name_is;
        same = ap (λ (o : CallOutcome). o.store) (rename_at version store path new_path m) ∙ same_store store m.from.backend m.from.directory m.name m.to.directory m.new_name (slash_of path || slash_of new_path) same;
      }

  relocates : SaysMoved moves.answer → (directory : Listing) → directory_at store m.from ≡ Some directory → IsSound old → EntryRelocated store new m.from m.name m.to m.new_name
  relocates says directory there sound =
      let over : Option Node = node_at old m.to.directory m.new_name in
      let (is_moved, moved) = move_moves old sound m.from.directory m.name m.to.directory m.new_name (slash_of path || slash_of new_path) says in
      let new_is : new ≡ after_loss (with_names store m.from.backend moves.tree) m.from.backend over =
      ap (λ (o : CallOutcome). o.store) (rename_at version store path new_path m) ∙ over_store store m.from.backend moves.tree over moves.answer says is_moved in
      let names : names_at new m.from.backend ≡ moves.tree =
      ap (λ (s : Store). names_at s m.from.backend) new_is
      ∙ loss_names (with_names store m.from.backend moves.tree) m.from.backend over m.from.backend
      ∙ names_here store m.from.backend moves.tree m.from.directory directory there in
      record {
        entry = subst (λ (t : Tree). EntryMoved old t m.from.directory m.name m.to.directory m.new_name) (sym names) moved;
        kept = λ child other h. ap (λ (t : Tree). node_at t child other) names
            ∙ moved_keeps version old moves.tree m.from.directory m.name m.to.directory m.new_name child other sound (step_sound old (Move m.from.directory m.name m.to.directory m.new_name (slash_of path || slash_of new_path)) sound) moved h;
        elsewhere = new_is
            ∙ ap (λ (t : Tree). after_loss (with_names store m.from.backend t) m.from.backend over) (sym names)
            ∙ ap (λ (b : ℕ). after_loss (with_names store m.from.backend (names_at new m.from.backend)) m.from.backend (node_at (names_at store b) m.to.directory m.new_name)) beside;
      }

pub rename_moves : (version : ℕ) (store : Store) (path new_path : List ℕ) → (posix version store (Rename path new_path)).reply ≡ Done → EntryRenamed version store (posix version store (Rename path new_path)).store path new_path
rename_moves version store path new_path h =
    let m = rename_done version store path new_path h in
    let backend : ℕ = m.from.backend in
    let old : Tree = names_at store backend in
    let slash : Bool = slash_of path || slash_of new_path in
    let o : NamesOutcome = nstep old (Move m.from.directory m.name m.to.directory m.new_name slash) in
    let at : posix version store (Rename path new_path) ≡ after_names store backend o = rename_at version store path new_path m in
    let done : (after_names store backend o).reply ≡ Done = ap (λ (c : CallOutcome). c.reply) (sym at) ∙ h in
    let beside : m.from.backend ≡ m.to.backend = same_number m.from.backend m.to.backend m.beside in
    let (directory, there) = source_there store backend m.from.directory m.name m.to.directory m.new_name slash (dir_at old m.from.directory) done in
    record {
      from = m.from;
      name = m.name;
      names = m.names;
      to = m.to;
      new_name = m.new_name;
      new_names = m.new_names;
      beside = beside;
      slash = λ ends. source_dir store backend m.from.directory m.name m.to.directory m.new_name slash (dir_at old m.from.directory) (dir_at old m.to.directory)
          (subst (λ (b : Bool). (after_names store backend (nstep old (Move m.from.directory m.name m.to.directory m.new_name b))).reply ≡ Done) ends done);
      moved = elim (done_answer store backend m.from.directory m.name m.to.directory m.new_name slash done) as (λ _. IsOneEntry store (posix version store (Rename path new_path)).store m.from m.name m.to m.new_name ⊎ (IsSound old → EntryRelocated store (posix version store (Rename path new_path)).store m.from m.name m.to m.new_name)) [
        | inl same ↦ inl (one_entry version store path new_path m beside same)
        | inr says ↦ inr (λ sound. relocates version store path new_path m beside says directory there sound)
      ];
    }
