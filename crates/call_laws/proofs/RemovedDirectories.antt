-- A directory that was removed.
use Rattle.std.proofs.Common.{◌≡◌, ◌≢◌, ℕ, ◌==◌, ◌-◌, zero, suc, arith, Bool, true, false, if◌then◌else◌, List, [], Option, None, Some, Result, Ok, Err, refl, ap, ◌∙◌}
use Rattle.std.proofs.lemmas.Bool.Decides.{nat_tests}
use Rattle.wf_core.specs.Limits.{path_names_max, symloop_max}
use Rattle.wf_core.specs.declared.errno.Errno.{Errno}
use Rattle.wf_core.specs.declared.errno.Errno.TheVariants.{Enoent}
use Rattle.name_store.specs.declared.operation.NameOp.{NameOp}
use Rattle.name_store.specs.declared.operation.NameOp.TheVariants as op
use Rattle.name_store.specs.declared.operation.NameAnswer.TheVariants.{Gone}
use Rattle.name_store.specs.NameTrees.{Listing, NamesOutcome, Tree, look_answer, nstep, outcome_of, unless_gone}
use Rattle.name_store.specs.Sound.{node_in}
use Rattle.path_walk.specs.declared.goal.Change.{Change}
use Rattle.path_walk.specs.declared.goal.Change.TheVariants as change
use Rattle.path_walk.specs.declared.open_request.OpenFlags.{OpenFlags}
use Rattle.path_walk.specs.declared.open_request.OpenRequest.{OpenRequest}
use Rattle.path_walk.specs.declared.open_request.OpenRoute.{OpenRoute}
use Rattle.path_walk.specs.declared.route.Manner.{Manner}
use Rattle.path_walk.specs.declared.route.Manner.TheVariants.{Follows, OnWay, Stays}
use Rattle.path_walk.specs.declared.route.Spot.{Spot}
use Rattle.path_walk.specs.declared.route.Station.{Station}
use Rattle.path_walk.specs.declared.route.End.{End}
use Rattle.path_walk.specs.declared.step.StepAnswer.TheVariants.{Answered}
use Rattle.path_walk.specs.declared.step.StoreAnswer.TheVariants.{Names as NamesAnswer}
use Rattle.path_walk.specs.declared.call.Base.TheVariants.{Cwd}
use Rattle.path_walk.specs.declared.call.Call.TheVariants.{Open, Symlink}
use Rattle.path_walk.specs.declared.call.Reply.TheVariants.{Fault}
use Rattle.path_walk.specs.Paths.{front_of, parts_of, slash_of}
use Rattle.path_walk.specs.PathMeaning.{course, end_of_course, on_found, parent_from, parent_in, resolve, root_of, station}
use Rattle.path_walk.specs.Plans.{Plan, at_once, unless_fault}
use Rattle.path_walk.specs.Calls.{changes, last_step, op_of, path_at, plan_after, slash_fault, status_plan, text_fault, unlinked_by, whole_plan}
use Rattle.path_walk.specs.OpenPlan.{directory_fault, drops, flags_fault, looked_plan, looks, opens_along, request_of, route_to}
use Rattle.path_walk.specs.Walk.{node_in as told_node}
use Rattle.path_walk.specs.Posix.{posix}
use Rattle.path_walk.specs.Programs.{replied}
use Rattle.path_walk.specs.Store.{Store, names_at, with_names}
use Rattle.path_walk.proofs.Leads.{same_names}
use Rattle.call_laws.specs.Entries.{NamesEntry, current_spot, directory_at, path_spot}
use Rattle.call_laws.specs.OpenLaws.{OpensDirectory}
use Rattle.call_laws.specs.RemovedLaws.{dot, RemovedDirectoriesStayCurrent, RemovedDirectoriesTakeNothing}
use Rattle.file_store.specs.DescriptorMap.{lowest_free}
use Rattle.call_laws.proofs.ApartLemmas.{walks_alike}
use Rattle.call_laws.proofs.ChangeLemmas.{change_reached, entry_end, whole_at}
use Rattle.call_laws.proofs.OpenErrors.{drops_back, held, lowest_is_free}
use Rattle.call_laws.proofs.OpenLemmas.{directory_opened, reserves, starts, to_name}

-- The names of a directory that is not there.

names_gone : (store : Store) (backend : ℕ) (op : NameOp) → nstep (names_at store backend) op ≡ outcome_of (names_at store backend) Gone → at_once store (last_step backend op) ≡ replied store (Fault Enoent)
names_gone store backend op gone =
    ap (λ (o : NamesOutcome). at_once (with_names store backend o.tree) (plan_after backend (Answered (NamesAnswer o.answer)) (unlinked_by (Answered (NamesAnswer o.answer))))) gone
    ∙ ap (λ (s : Store). replied s (Fault Enoent)) (same_names store backend)

looks_gone : (store : Store) (follow : OpenRequest → Station → OpenRoute → Plan) (request : OpenRequest) (names links : ℕ) (here : Spot) (name : List ℕ) → directory_at store here ≡ None → at_once store (looks follow request (suc names) links here name) ≡ at_once store (drops request.number Enoent)
looks_gone store follow request names links here name none =
    let tree : Tree = names_at store here.backend in
    ap (λ (d : Option Listing). let o : NamesOutcome = unless_gone tree d (λ d. outcome_of tree (look_answer d name)) in at_once (with_names store here.backend o.tree) (looked_plan follow request (station names links here) name (told_node (Answered (NamesAnswer o.answer))))) none
    ∙ ap (λ (left : Store). at_once left (drops request.number Enoent)) (same_names store here.backend)

module _ (store : Store) (here : Spot) (none : directory_at store here ≡ None) where
  gone : (outcome : Listing → NamesOutcome) → unless_gone (names_at store here.backend) (directory_at store here) outcome ≡ outcome_of (names_at store here.backend) Gone
  gone outcome = ap (λ (d : Option Listing). unless_gone (names_at store here.backend) d outcome) none

  change_gone : (change : Change) (name : List ℕ) (slash : Bool) → nstep (names_at store here.backend) (op_of change here.directory name slash) ≡ outcome_of (names_at store here.backend) Gone
  change_gone change.Makedir name slash = gone _
  change_gone change.Remdir name slash = gone _
  change_gone change.Remfile name slash = gone _
  change_gone (change.Addlink text) name slash = gone _

  module _ (version : ℕ) (path name : List ℕ) (names : NamesEntry version store path here name) where
    change_nothing : (change : Change) (slash : Bool) → at_once store (unless_fault (slash_fault change slash) (last_step here.backend (op_of change here.directory name slash))) ≡ replied store (Fault Enoent)
    change_nothing change.Makedir slash = names_gone store here.backend (op_of change.Makedir here.directory name slash) (change_gone change.Makedir name slash)
    change_nothing change.Remdir slash = names_gone store here.backend (op_of change.Remdir here.directory name slash) (change_gone change.Remdir name slash)
    change_nothing change.Remfile slash = names_gone store here.backend (op_of change.Remfile here.directory name slash) (change_gone change.Remfile name slash)
    change_nothing (change.Addlink text) true = refl
    change_nothing (change.Addlink text) false = names_gone store here.backend (op_of (change.Addlink text) here.directory name false) (change_gone (change.Addlink text) name false)

    changes_nothing : (change : Change) → at_once store (changes change (path_at version Cwd path)) ≡ replied store (Fault Enoent)
    changes_nothing change = change_reached version store change path here name names ∙ change_nothing change (slash_of path)

    links_nothing : (text : List ℕ) → text_fault text ≡ None → posix version store (Symlink text path) ≡ replied store (Fault Enoent)
    links_nothing text fault =
        ap (λ (f : Option Errno). at_once store (unless_fault f (changes (change.Addlink text) (path_at version Cwd path)))) fault
        ∙ changes_nothing (change.Addlink text)

    status_gone : (manner : Manner) → at_once store (whole_plan manner (path_at version Cwd path) status_plan) ≡ replied store (Fault Enoent)
    status_gone manner =
        whole_at version store manner path status_plan names.walked
        ∙ ap (λ (end : Result End Errno). at_once store (status_plan end)) (entry_end version store manner path here name names)
        ∙ ap (λ (d : Option Listing). at_once store (status_plan (end_of_course (course manner (node_in d name) [] (slash_of path) names.links here) (λ w. resolve store names.left w.rest manner w.slash w.links w.spot)))) none

    opens_nothing : (flags : OpenFlags) (number : ℕ) → flags_fault flags ≡ None → lowest_free store.descriptors ≡ Some number → posix version store (Open path flags) ≡ replied store (Fault Enoent)
    opens_nothing flags number together lowest =
        let base = held store number in
        let request = request_of number flags (slash_of path) in
        let still : NamesEntry version base path here name = record {
          walked = names.walked;
          last = names.last;
          left = names.left;
          links = names.links;
          prefix = walks_alike base.descriptors store path_names_max (front_of (parts_of path)) OnWay (slash_of path) symloop_max (path_spot version store path) ∙ names.prefix;
        } in
        reserves version store path flags number together lowest names.walked
        ∙ starts version base path request (route_to path)
        ∙ to_name version base request path here name still
        ∙ looks_gone base (opens_along symloop_max) request names.left names.links here name none
        ∙ ap (λ (s : Store). replied s (Fault Enoent)) (drops_back store number (lowest_is_free store.descriptors number lowest) Enoent)

pub removed_directories_take_nothing : RemovedDirectoriesTakeNothing
removed_directories_take_nothing version store path here name names none = record {
  mkdir = changes_nothing store here none version path name names change.Makedir;
  rmdir = changes_nothing store here none version path name names change.Remdir;
  unlink = changes_nothing store here none version path name names change.Remfile;
  symlink = links_nothing store here none version path name names;
  stat = status_gone store here none version path name names Follows;
  lstat = status_gone store here none version path name names Stays;
  opens = opens_nothing store here none version path name names;
}

-- As the current directory.

no_zero : (n : ℕ) → n ≢ 0 → (n == 0) ≡ false
no_zero zero apart = absurd (apart refl)
no_zero (suc n) apart = grind (arith, nat_tests)

up_gone : (store : Store) (here : Spot) → directory_at store here ≡ None → here.directory ≢ 0 → parent_from store here ≡ Err Enoent
up_gone store here none apart =
    ap (λ (is_root : Bool). if is_root then Ok (root_of 0) else parent_in (directory_at store here) here) (no_zero here.directory apart)
    ∙ ap (λ (d : Option Listing). parent_in d here) none

dot_opened : (store : Store) (flags : OpenFlags) (number : ℕ) → flags_fault flags ≡ None → directory_fault flags ≡ None → lowest_free store.descriptors ≡ Some number → OpensDirectory 2 store dot flags number (current_spot store).backend (current_spot store).directory
unfolding opens_along
dot_opened store flags number together fault lowest =
    let request = request_of number flags false in
    reserves 2 store dot flags number together lowest refl
    ∙ starts 2 (held store number) dot request (route_to dot)
    ∙ directory_opened store number (lowest_is_free store.descriptors number lowest) request refl (current_spot store) fault

pub removed_directories_stay_current : RemovedDirectoriesStayCurrent
removed_directories_stay_current store none = record {
  stat = refl;
  chdir = refl;
  mkdir = refl;
  opens = dot_opened store;
  list = λ start. names_gone store (current_spot store).backend (op.List (current_spot store).directory start) (gone store (current_spot store) none _);
  up = λ apart. ap (λ (found : Result Spot Errno). at_once store (status_plan (on_found found (λ there. resolve store (path_names_max - 1) [] Follows false symloop_max there)))) (up_gone store (current_spot store) none apart);
}
