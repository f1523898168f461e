-- The current directory.
use Rattle.std.proofs.Common.{◌≡◌, ℕ, Bool, if◌then◌else◌, List, [], ◌∷◌, Option, None, Some, Result, Ok, Err, refl, sym, ap, ◌∙◌, unwrap_or}
use Rattle.wf_core.specs.declared.errno.Errno.{Errno}
use Rattle.wf_core.specs.declared.errno.Errno.TheVariants.{Enotdir}
use Rattle.file_store.specs.declared.descriptor_operation.CurrentDir.{CurrentDir}
use Rattle.file_store.specs.declared.descriptor_operation.Slot.{Slot}
use Rattle.file_store.specs.declared.descriptor_operation.Slot.TheVariants as slot
use Rattle.file_store.specs.declared.descriptor_operation.FdAnswer.TheVariants as fd_answer
use Rattle.file_store.specs.DescriptorMap.{look_answer, slot_at}
use Rattle.file_store.proofs.DescriptorLawLemmas.{current_kept}
use Rattle.name_store.specs.NameTrees.{Tree}
use Rattle.name_store.specs.Sound.{node_at, parent_at}
use Rattle.path_walk.specs.declared.call.Base.TheVariants.{Cwd}
use Rattle.path_walk.specs.declared.call.Call.TheVariants.{Chdir}
use Rattle.path_walk.specs.declared.call.Reply.TheVariants.{Done, Fault}
use Rattle.path_walk.specs.declared.route.Manner.TheVariants.{Follows}
use Rattle.path_walk.specs.declared.route.Spot.{Spot}
use Rattle.path_walk.specs.declared.route.Station.{Station}
use Rattle.path_walk.specs.declared.route.End.{End}
use Rattle.path_walk.specs.declared.route.End.TheVariants.{Directory, File, LinkText}
use Rattle.path_walk.specs.declared.step.CellId.{CellId}
use Rattle.path_walk.specs.declared.step.CellId.TheVariants.{Names as NamesCell, Files as FilesCell, Descriptors as DescriptorsCell}
use Rattle.path_walk.specs.declared.step.StoreOp.{StoreOp}
use Rattle.path_walk.specs.declared.step.StoreOp.TheVariants.{Names as NamesOp, Files as FilesOp, Descriptors as DescriptorsOp}
use Rattle.path_walk.specs.declared.step.StepAnswer.TheVariants.{Answered}
use Rattle.path_walk.specs.declared.step.StoreAnswer.{StoreAnswer}
use Rattle.path_walk.specs.declared.step.StoreAnswer.TheVariants.{Descriptors as DescriptorsAnswer}
use Rattle.path_walk.specs.Paths.{parts_of, path_fault, slash_of}
use Rattle.path_walk.specs.PathMeaning.{root_of, resolve}
use Rattle.wf_core.specs.Limits.{path_names_max, symloop_max}
use Rattle.path_walk.specs.Programs.{CallOutcome}
use Rattle.path_walk.specs.Plans.{at_once, ok_unless, on_ok, spot_in, walks_from}
use Rattle.path_walk.specs.DescriptorCalls.{enters}
use Rattle.path_walk.specs.Calls.{enter_plan, path_at}
use Rattle.path_walk.specs.Posix.{posix}
use Rattle.path_walk.specs.Store.{Store, cstep, names_at}
use Rattle.call_laws.specs.Entries.{current_spot, path_end, path_spot}
use Rattle.call_laws.specs.ExclusiveLaws.{store_by}
use Rattle.call_laws.specs.StartLaws.{in_directory}
use Rattle.call_laws.specs.CurrentLaws.{ChdirEnters, CurrentDirectoryStays, FchdirEnters, FchdirIsChdir, SetNone, SetsNone}
use Rattle.call_laws.proofs.ChangeLemmas.{whole_at}
use Rattle.call_laws.proofs.DirectoryLemmas.{Found, found_directory}
use Rattle.call_laws.proofs.Leading.{Extends, leads_still, spot_still}
use Rattle.call_laws.proofs.OpenErrors.{lowest_is_free}
use Rattle.call_laws.proofs.StoreLemmas.{set_here}

-- the path led to a directory, which is the current one
abbrev IsEntered : ℕ → Store → List ℕ → Type 0
IsEntered version store path = (there : Station) × (path_end version store Follows path ≡ Ok (Directory there)) × ((posix version store (Chdir path)).store ≡ in_directory there.spot store)

pub chdir_enters : ChdirEnters
chdir_enters version store path h = by_fault (path_fault path) refl
  where
    by_end : (end : Result End Errno) → path_end version store Follows path ≡ end → posix version store (Chdir path) ≡ at_once store (enter_plan end) → IsEntered version store path
    by_end (Ok (Directory there)) e is = (there, e, ap (λ (o : CallOutcome). o.store) is)
    by_end (Ok (File backend file)) e is = let clash : Fault Enotdir ≡ Done = sym (ap (λ (o : CallOutcome). o.reply) is) ∙ h in cc
    by_end (Ok (LinkText text)) e is = let clash : Fault Enotdir ≡ Done = sym (ap (λ (o : CallOutcome). o.reply) is) ∙ h in cc
    by_end (Err error) e is = let clash : Fault error ≡ Done = sym (ap (λ (o : CallOutcome). o.reply) is) ∙ h in cc

    by_fault : (fault : Option Errno) → path_fault path ≡ fault → IsEntered version store path
    by_fault None e = by_end (path_end version store Follows path) refl (whole_at version store Follows path enter_plan e)
    by_fault (Some error) e =
        let clash : Fault error ≡ Done = sym (ap (λ (fault : Option Errno). (at_once store (on_ok (ok_unless fault (record { parts = parts_of path; last = None; manner = Follows; slash = slash_of path })) (λ route. walks_from (path_at version Cwd path).base route enter_plan))).reply) e) ∙ h in cc

pub fchdir_enters : FchdirEnters
fchdir_enters version store number spot named = ap (λ (s : Slot). at_once store (enters (spot_in (Answered (DescriptorsAnswer (look_answer s)))))) named

-- Steps that set none.

pub step_stays : (store : Store) (cell : CellId) (op : StoreOp) → SetsNone op → current_spot (cstep store cell op).store ≡ current_spot store
step_stays store (NamesCell backend) (NamesOp op) h = refl
step_stays store (NamesCell backend) (FilesOp op) h = refl
step_stays store (NamesCell backend) (DescriptorsOp op) h = refl
step_stays store (FilesCell backend group) (NamesOp op) h = refl
step_stays store (FilesCell backend group) (FilesOp op) h = refl
step_stays store (FilesCell backend group) (DescriptorsOp op) h = refl
step_stays store DescriptorsCell (NamesOp op) h = refl
step_stays store DescriptorsCell (FilesOp op) h = refl
step_stays store DescriptorsCell (DescriptorsOp op) h = ap (λ (c : CurrentDir). let spot : Spot = record { backend = c.backend; directory = c.dir } in spot) (current_kept store.descriptors op h)

steps_stay : (store : Store) (steps : List (CellId × StoreOp)) → SetNone steps → current_spot (store_by store steps) ≡ current_spot store
steps_stay store [] h = refl
steps_stay store (step ∷ steps) h = steps_stay (cstep store step.0 step.1).store steps h.1 ∙ step_stays store step.0 step.1 h.0

pub current_directory_stays : CurrentDirectoryStays
current_directory_stays store steps h = record {
  told = ap (λ (spot : Spot). let a : StoreAnswer = DescriptorsAnswer (fd_answer.Dir spot.backend spot.directory) in a) (steps_stay store steps h);
  start = λ path relative. ap (λ (rooted : Bool). if rooted then root_of 0 else current_spot (store_by store steps)) relative ∙ steps_stay store steps h;
}

-- A path that was opened.

pub fchdir_is_chdir : FchdirIsChdir
fchdir_is_chdir version store later path flags number there opened leads kept = record {
  chdir = whole_at version later Follows path enter_plan found.walked ∙ ap (λ (end : Result End Errno). at_once later (enter_plan end)) leads_later;
  fchdir = fchdir_enters version later number there.spot named;
} where
  found : Found version store path flags number there.spot
  found = found_directory version store path flags number there leads opened

  names : (backend : ℕ) → names_at later backend ≡ names_at store backend
  names backend = kept.names backend ∙ ap (λ (o : CallOutcome). names_at o.store backend) found.opens

  current : current_spot later ≡ current_spot store
  current = kept.current ∙ ap (λ (o : CallOutcome). current_spot o.store) found.opens

  named : slot_at later.descriptors number ≡ slot.Dir there.spot.backend there.spot.directory
  named =
      kept.named
      ∙ ap (λ (o : CallOutcome). slot_at o.store.descriptors number) found.opens
      ∙ ap (λ (s : Option Slot). unwrap_or s slot.Free) (set_here store.descriptors.slots number slot.Free (slot.Dir there.spot.backend there.spot.directory) (lowest_is_free store.descriptors number found.lowest))

  more : Extends store later
  more = record {
    entries = λ here name node is. ap (λ (tree : Tree). node_at tree here.directory name) (names here.backend) ∙ is;
    parents = λ here parent is. ap (λ (tree : Tree). parent_at tree here.directory) (names here.backend) ∙ is;
    current = current;
  }

  leads_later : path_end version later Follows path ≡ Ok (Directory there)
  leads_later =
      ap (λ (start : Spot). resolve later path_names_max (parts_of path) Follows (slash_of path) symloop_max start) (spot_still version store later path current)
      ∙ leads_still store later more path_names_max (parts_of path) Follows (slash_of path) symloop_max (path_spot version store path) (Directory there) leads
