-- Where the paths of a call start.
use Rattle.std.proofs.Common.{◌≡◌, ◌≢◌, ℕ, ◌||◌, Bool, true, false, if◌then◌else◌, List, Option, None, Some, Result, Ok, Err, refl, sym, ap, ap₂, ◌∙◌, unwrap_or}
use Rattle.wf_core.specs.Limits.{path_names_max, symloop_max}
use Rattle.wf_core.specs.declared.errno.Errno.{Errno}
use Rattle.file_store.specs.declared.descriptor_operation.Slot.{Slot}
use Rattle.file_store.specs.declared.descriptor_operation.Slot.TheVariants as slot
use Rattle.file_store.specs.declared.descriptor_operation.FdOp.TheVariants.{Reserve}
use Rattle.file_store.specs.DescriptorMap.{look_answer, lowest_free, place_outcome, slot_at}
use Rattle.path_walk.specs.declared.goal.Change.{Change}
use Rattle.path_walk.specs.declared.goal.Change.TheVariants as change
use Rattle.path_walk.specs.declared.act.Act.TheVariants as act
use Rattle.path_walk.specs.declared.act.PathAt.{PathAt}
use Rattle.path_walk.specs.declared.call.Base.{Base}
use Rattle.path_walk.specs.declared.call.Base.TheVariants.{Cwd, Fd}
use Rattle.path_walk.specs.declared.call.Call.TheVariants as call
use Rattle.path_walk.specs.declared.open_request.OpenFlags.{OpenFlags}
use Rattle.path_walk.specs.declared.open_request.OpenRoute.{OpenRoute}
use Rattle.path_walk.specs.declared.part.Part.{Part}
use Rattle.path_walk.specs.declared.route.Manner.TheVariants.{Follows, Stays}
use Rattle.path_walk.specs.declared.route.Route.{Route}
use Rattle.path_walk.specs.declared.route.Spot.{Spot}
use Rattle.path_walk.specs.declared.route.End.{End}
use Rattle.path_walk.specs.declared.step.CellId.TheVariants.{Descriptors as DescriptorsCell}
use Rattle.path_walk.specs.declared.step.StoreOp.TheVariants.{Descriptors as DescriptorsOp}
use Rattle.path_walk.specs.declared.step.StepAnswer.TheVariants.{Answered}
use Rattle.path_walk.specs.declared.step.StoreAnswer.TheVariants.{Descriptors as DescriptorsAnswer}
use Rattle.path_walk.specs.Paths.{is_absolute}
use Rattle.path_walk.specs.PathMeaning.{resolve, root_of}
use Rattle.path_walk.specs.Plans.{Plan, at_once, from_base, on_ok, parent_route, program_of, spot_in, steps, unless_fault, walks_from, walks_in, whole_route}
use Rattle.path_walk.specs.Calls.{act_plan, change_plan, changes, move_on, move_plan, moves, parent_of, parent_plan, path_at, status_plan, whole_plan}
use Rattle.path_walk.specs.OpenPlan.{drops, flags_fault, open_route, opens, opens_by, opens_in, request_of, reserved_plan}
use Rattle.path_walk.specs.Store.{Store}
use Rattle.call_laws.specs.Entries.{current_spot}
use Rattle.call_laws.specs.StartLaws.{AbsolutePathsStartInTheRoot, CallsStartAtDescriptors, CwdIsTheDefaultBase, in_directory}
use Rattle.call_laws.proofs.StoreLemmas.{set_other}
use Rattle.call_laws.proofs.OpenErrors.{held, lowest_is_free}
use Rattle.call_laws.proofs.ApartLemmas.{Apart, outcome_in, plans_apart, walks_alike}
use Rattle.call_laws.proofs.ApartPlans.{change_apart, drops_apart, in_apart, move_apart, parent_apart, status_apart}

rooted_at : (base : Base) (path : List ℕ) → is_absolute path ≡ true → path_at 2 base path ≡ path_at 1 base path
rooted_at base path h = ap (λ (rooted : Bool). let at : PathAt = record { base = if rooted then None else Some base; path = path } in at) h

pub absolute_paths_start_in_the_root : AbsolutePathsStartInTheRoot
absolute_paths_start_in_the_root (call.Mkdir path) h = ap (λ (at : PathAt). program_of (act_plan (act.Entry change.Makedir at))) (rooted_at Cwd path h.0)
absolute_paths_start_in_the_root (call.Rmdir path) h = ap (λ (at : PathAt). program_of (act_plan (act.Entry change.Remdir at))) (rooted_at Cwd path h.0)
absolute_paths_start_in_the_root (call.Unlink path) h = ap (λ (at : PathAt). program_of (act_plan (act.Entry change.Remfile at))) (rooted_at Cwd path h.0)
absolute_paths_start_in_the_root (call.Symlink text path) h = ap (λ (at : PathAt). program_of (act_plan (act.Entry (change.Addlink text) at))) (rooted_at Cwd path h.0)
absolute_paths_start_in_the_root (call.Rename path new) h = ap₂ (λ (at to : PathAt). program_of (act_plan (act.Move at to))) (rooted_at Cwd path h.0) (rooted_at Cwd new h.1.0)
absolute_paths_start_in_the_root (call.Readlink path) h = ap (λ (at : PathAt). program_of (act_plan (act.Text at))) (rooted_at Cwd path h.0)
absolute_paths_start_in_the_root (call.Stat path) h = ap (λ (at : PathAt). program_of (act_plan (act.Status Follows at))) (rooted_at Cwd path h.0)
absolute_paths_start_in_the_root (call.Lstat path) h = ap (λ (at : PathAt). program_of (act_plan (act.Status Stays at))) (rooted_at Cwd path h.0)
absolute_paths_start_in_the_root (call.List path start) h = ap (λ (at : PathAt). program_of (act_plan (act.Names at start))) (rooted_at Cwd path h.0)
absolute_paths_start_in_the_root (call.Open path flags) h = ap (λ (at : PathAt). program_of (act_plan (act.Open at flags))) (rooted_at Cwd path h.0)
absolute_paths_start_in_the_root (call.Chdir path) h = ap (λ (at : PathAt). program_of (act_plan (act.Enter at))) (rooted_at Cwd path h.0)
absolute_paths_start_in_the_root (call.Openat base path flags) h = ap (λ (at : PathAt). program_of (act_plan (act.Open at flags))) (rooted_at base path h.0)
absolute_paths_start_in_the_root (call.Mkdirat base path) h = ap (λ (at : PathAt). program_of (act_plan (act.Entry change.Makedir at))) (rooted_at base path h.0)
absolute_paths_start_in_the_root (call.Rmdirat base path) h = ap (λ (at : PathAt). program_of (act_plan (act.Entry change.Remdir at))) (rooted_at base path h.0)
absolute_paths_start_in_the_root (call.Unlinkat base path) h = ap (λ (at : PathAt). program_of (act_plan (act.Entry change.Remfile at))) (rooted_at base path h.0)
absolute_paths_start_in_the_root (call.Fstatat base path) h = ap (λ (at : PathAt). program_of (act_plan (act.Status Follows at))) (rooted_at base path h.0)
absolute_paths_start_in_the_root (call.Renameat base path new_base new) h = ap₂ (λ (at to : PathAt). program_of (act_plan (act.Move at to))) (rooted_at base path h.0) (rooted_at new_base new h.1.0)
absolute_paths_start_in_the_root (call.Fchdir number) h = refl
absolute_paths_start_in_the_root (call.Close number) h = refl
absolute_paths_start_in_the_root (call.Dup number) h = refl
absolute_paths_start_in_the_root (call.Dup2 number target) h = refl
absolute_paths_start_in_the_root (call.Read number count) h = refl
absolute_paths_start_in_the_root (call.Pread number count offset) h = refl
absolute_paths_start_in_the_root (call.Write number bytes) h = refl
absolute_paths_start_in_the_root (call.Pwrite number bytes offset) h = refl
absolute_paths_start_in_the_root (call.Seek number offset whence) h = refl
absolute_paths_start_in_the_root (call.Ftruncate number size) h = refl
absolute_paths_start_in_the_root (call.Fstat number) h = refl

pub cwd_is_the_default_base : CwdIsTheDefaultBase
cwd_is_the_default_base = record {
  openat = λ path flags. refl;
  mkdirat = λ path. refl;
  rmdirat = λ path. refl;
  unlinkat = λ path. refl;
  fstatat = λ path. refl;
  renameat = λ path new. refl;
}

-- From a descriptor.

module _ (store : Store) (number : ℕ) (spot : Spot) (named : slot_at store.descriptors number ≡ slot.Dir spot.backend spot.directory) where
  -- the one plan comes to what the other comes to in that directory
  abbrev Agree : Plan → Plan → Type 0
  Agree here there = at_once store here ≡ outcome_in (current_spot store) (at_once (in_directory spot store) there)

  apart_agree : (p : Plan) → Apart p → Agree p p
  apart_agree p h = plans_apart spot store p h

  bases_agree : (path : List ℕ) (here there : Result Spot Errno → Plan) → ((start : Result Spot Errno) → Agree (here start) (there start)) → Agree (from_base (path_at 2 (Fd number) path).base here) (from_base (path_at 2 Cwd path).base there)
  bases_agree path here there each = by_start (is_absolute path)
    where
      by_start : (rooted : Bool) → Agree (from_base (if rooted then None else Some (Fd number)) here) (from_base (if rooted then None else Some Cwd) there)
      by_start true = each (Ok (root_of 0))
      by_start false = ap (λ (s : Slot). at_once store (here (spot_in (Answered (DescriptorsAnswer (look_answer s)))))) named ∙ each (Ok spot)

  walks_agree : (path : List ℕ) (route : Route) (here there : Result End Errno → Plan) → ((end : Result End Errno) → Agree (here end) (there end)) → Agree (walks_from (path_at 2 (Fd number) path).base route here) (walks_from (path_at 2 Cwd path).base route there)
  walks_agree path route here there each = bases_agree path (walks_in route here) (walks_in route there) along
    where
      along : (start : Result Spot Errno) → Agree (walks_in route here start) (walks_in route there start)
      along (Err error) = each (Err error)
      along (Ok from) =
          each (resolve store path_names_max route.parts route.manner route.slash symloop_max from)
          ∙ sym (ap (λ (end : Result End Errno). outcome_in (current_spot store) (at_once (in_directory spot store) (there end))) (walks_alike (in_directory spot store).descriptors store path_names_max route.parts route.manner route.slash symloop_max from))

  on_ok_agree : {A : Type 0} (r : Result A Errno) (here there : A → Plan) → ((x : A) → Agree (here x) (there x)) → Agree (on_ok r here) (on_ok r there)
  on_ok_agree (Ok x) here there each = each x
  on_ok_agree (Err error) here there each = refl

  parent_agree : (last : Option Part) (here there : Spot → Plan) → ((from : Spot) → Agree (here from) (there from)) → (end : Result End Errno) → Agree (parent_plan last here end) (parent_plan last there end)
  parent_agree last here there each (Err error) = refl
  parent_agree last here there each (Ok end) = on_ok_agree (parent_of last end) here there each

  -- the acts on entries, by each of which a call and the one without a base differ in their starts alone
  changes_agree : (change : Change) (path : List ℕ) → Agree (changes change (path_at 2 (Fd number) path)) (changes change (path_at 2 Cwd path))
  changes_agree change path =
      on_ok_agree (parent_route path) _ _ (λ route.
      walks_agree path route _ _ (λ end.
      apart_agree (parent_plan route.last (change_plan change route.last route.slash) end) (parent_apart route.last (change_plan change route.last route.slash) (change_apart change route.last route.slash) end)))

  status_agree : (path : List ℕ) → Agree (whole_plan Follows (path_at 2 (Fd number) path) status_plan) (whole_plan Follows (path_at 2 Cwd path) status_plan)
  status_agree path =
      on_ok_agree (whole_route Follows path) _ _ (λ route.
      walks_agree path route status_plan status_plan (λ end. apart_agree (status_plan end) (status_apart end)))

  moves_agree : (path new : List ℕ) → Agree (moves (path_at 2 (Fd number) path) (path_at 2 (Fd number) new)) (moves (path_at 2 Cwd path) (path_at 2 Cwd new))
  moves_agree path new =
      on_ok_agree (parent_route path) _ _ (λ route.
      walks_agree path route _ _ (λ end.
      parent_agree route.last (move_on route.last route.slash (path_at 2 (Fd number) new).base (parent_route new)) (move_on route.last route.slash (path_at 2 Cwd new).base (parent_route new)) (λ from.
      on_ok_agree (parent_route new) _ _ (λ other.
      walks_agree new other _ _ (λ end.
      apart_agree (parent_plan other.last (move_plan from route.last (route.slash || other.slash) other.last) end) (parent_apart other.last (move_plan from route.last (route.slash || other.slash) other.last) (move_apart from route.last (route.slash || other.slash) other.last) end)))) end))

-- a number that was free and is reserved is none that names a directory
still_named : (store : Store) (number free : ℕ) (spot : Spot) → slot_at store.descriptors number ≡ slot.Dir spot.backend spot.directory → lowest_free store.descriptors ≡ Some free → slot_at (held store free).descriptors number ≡ slot.Dir spot.backend spot.directory
still_named store number free spot named lowest =
    ap (λ (found : Option Slot). unwrap_or found slot.Free) (set_other store.descriptors.slots free number slot.Reserved apart) ∙ named
  where
    apart : number ≢ free
    apart same =
        let clash : slot.Free ≡ slot.Dir spot.backend spot.directory = sym (ap (λ (found : Option Slot). unwrap_or found slot.Free) (lowest_is_free store.descriptors free lowest)) ∙ sym (ap (slot_at store.descriptors) same) ∙ named in cc

opens_agree : (store : Store) (number : ℕ) (spot : Spot) (named : slot_at store.descriptors number ≡ slot.Dir spot.backend spot.directory) (path : List ℕ) (flags : OpenFlags) → Agree store number spot named (opens (path_at 2 (Fd number) path) flags) (opens (path_at 2 Cwd path) flags)
opens_agree store number spot named path flags = by_fault (flags_fault flags)
  where
    by_route : (free : ℕ) → slot_at (held store free).descriptors number ≡ slot.Dir spot.backend spot.directory → (route : Result OpenRoute Errno) → at_once (held store free) (opens_by free flags (path_at 2 (Fd number) path).base route) ≡ outcome_in (current_spot store) (at_once (held (in_directory spot store) free) (opens_by free flags (path_at 2 Cwd path).base route))
    by_route free there (Err error) = plans_apart spot (held store free) (drops free error) (drops_apart free error)
    by_route free there (Ok route) =
        let request = request_of free flags route.route.slash in
        bases_agree (held store free) number spot there path (opens_in request route) (opens_in request route) (λ start. apart_agree (held store free) number spot there (opens_in request route start) (in_apart request route start))

    by_place : (free : Option ℕ) → lowest_free store.descriptors ≡ free → at_once (record store { descriptors = (place_outcome store.descriptors slot.Reserved free).map }) (reserved_plan flags (path_at 2 (Fd number) path).base (open_route path) (Answered (DescriptorsAnswer (place_outcome store.descriptors slot.Reserved free).answer))) ≡ outcome_in (current_spot store) (at_once (record store { descriptors = (place_outcome (in_directory spot store).descriptors slot.Reserved free).map }) (reserved_plan flags (path_at 2 Cwd path).base (open_route path) (Answered (DescriptorsAnswer (place_outcome (in_directory spot store).descriptors slot.Reserved free).answer))))
    by_place None lowest = refl
    by_place (Some free) lowest = by_route free (still_named store number free spot named lowest) (open_route path)

    by_fault : (fault : Option Errno) → Agree store number spot named (unless_fault fault (steps DescriptorsCell (DescriptorsOp Reserve) (reserved_plan flags (path_at 2 (Fd number) path).base (open_route path)))) (unless_fault fault (steps DescriptorsCell (DescriptorsOp Reserve) (reserved_plan flags (path_at 2 Cwd path).base (open_route path))))
    by_fault (Some error) = refl
    by_fault None = by_place (lowest_free store.descriptors) refl

pub calls_start_at_descriptors : CallsStartAtDescriptors
calls_start_at_descriptors store number spot named = record {
  openat = λ path flags. opens_agree store number spot named path flags;
  mkdirat = λ path. changes_agree store number spot named change.Makedir path;
  rmdirat = λ path. changes_agree store number spot named change.Remdir path;
  unlinkat = λ path. changes_agree store number spot named change.Remfile path;
  fstatat = λ path. status_agree store number spot named path;
  renameat = λ path new. moves_agree store number spot named path new;
}
