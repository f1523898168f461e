-- A call relative to a number that names no directory.
use Rattle.std.proofs.Common.{◌≡◌, inl, inr, ℕ, ◌||◌, suc, Bool, false, if◌then◌else◌, List, Option, None, Some, Result, Err, sym, ap, ◌∙◌, slice_get, unwrap_or}
use Rattle.wf_core.specs.declared.errno.Errno.{Errno}
use Rattle.name_store.proofs.Changes.{same_id}
use Rattle.file_store.specs.declared.descriptor_operation.Slot.{Slot}
use Rattle.file_store.specs.declared.descriptor_operation.Slot.TheVariants as slot
use Rattle.file_store.specs.declared.descriptor_operation.FdOp.TheVariants.{Reserve}
use Rattle.file_store.specs.DescriptorMap.{look_answer, lowest_free, place_outcome, slot_at}
use Rattle.path_walk.specs.declared.part.Part.{Part}
use Rattle.path_walk.specs.declared.goal.Change.{Change}
use Rattle.path_walk.specs.declared.goal.Change.TheVariants as change
use Rattle.path_walk.specs.declared.open_request.OpenFlags.{OpenFlags}
use Rattle.path_walk.specs.declared.route.Manner.TheVariants.{Follows}
use Rattle.path_walk.specs.declared.route.Route.{Route}
use Rattle.path_walk.specs.declared.route.Spot.{Spot}
use Rattle.path_walk.specs.declared.route.End.{End}
use Rattle.path_walk.specs.declared.route.End.TheVariants.{Directory}
use Rattle.path_walk.specs.declared.step.CellId.TheVariants.{Descriptors as DescriptorsCell}
use Rattle.path_walk.specs.declared.step.StoreOp.TheVariants.{Descriptors as DescriptorsOp}
use Rattle.path_walk.specs.declared.step.StepAnswer.TheVariants.{Answered}
use Rattle.path_walk.specs.declared.step.StoreAnswer.TheVariants.{Descriptors as DescriptorsAnswer}
use Rattle.path_walk.specs.declared.call.Base.{Base}
use Rattle.path_walk.specs.declared.call.Base.TheVariants.{Cwd, Fd}
use Rattle.path_walk.specs.declared.call.Call.TheVariants.{Fstatat, Openat, Renameat}
use Rattle.path_walk.specs.declared.call.Reply.TheVariants.{Fault}
use Rattle.path_walk.specs.Paths.{is_absolute, last_of, parts_of, slash_of}
use Rattle.path_walk.specs.PathMeaning.{station}
use Rattle.path_walk.specs.Plans.{Plan, at_once, from_base, ok_unless, on_ok, parent_route, spot_in, steps, unless_fault, walks_from, walks_in}
use Rattle.path_walk.specs.Calls.{change_plan, changes, move_on, move_plan, parent_of, parent_plan, path_at, status_plan}
use Rattle.path_walk.specs.OpenPlan.{flags_fault, open_route, opens_by, opens_in, request_of, reserved_plan, route_to}
use Rattle.path_walk.specs.DescriptorCalls.{enters}
use Rattle.path_walk.specs.Posix.{posix}
use Rattle.path_walk.specs.Programs.{replied}
use Rattle.path_walk.specs.Store.{Store}
use Rattle.call_laws.specs.Entries.{NamesEntry}
use Rattle.call_laws.specs.StartLaws.{BasesAreDirectories, IsRelative, base_fault}
use Rattle.call_laws.proofs.ChangeLemmas.{parent_route_of, walks_at}
use Rattle.call_laws.proofs.OpenErrors.{drops_back, held, lowest_is_free}
use Rattle.call_laws.proofs.StoreLemmas.{set_here, set_other}

-- the step on such a number tells no start
no_start : (named : Slot) (error : Errno) → base_fault named ≡ Some error → spot_in (Answered (DescriptorsAnswer (look_answer named))) ≡ Err error
no_start slot.Free error h = cc
no_start slot.Reserved error h = cc
no_start (slot.File backend description) error h = cc
no_start (slot.Dir backend directory) error h = cc

module _ (store : Store) (number : ℕ) (error : Errno) (none : base_fault (slot_at store.descriptors number) ≡ Some error) where
  refused : (path : List ℕ) (next : Result Spot Errno → Plan) → is_absolute path ≡ false → at_once store (from_base (path_at 2 (Fd number) path).base next) ≡ at_once store (next (Err error))
  refused path next relative =
      ap (λ (rooted : Bool). at_once store (from_base (if rooted then None else Some (Fd number)) next)) relative
      ∙ ap (λ (start : Result Spot Errno). at_once store (next start)) (no_start (slot_at store.descriptors number) error none)

  changes_refuse : (change : Change) (path : List ℕ) → IsRelative path → at_once store (changes change (path_at 2 (Fd number) path)) ≡ replied store (Fault error)
  changes_refuse change path is =
      ap (λ (fault : Option Errno). at_once store (on_ok (ok_unless fault (parent_route_of path)) (λ route. walks_from (path_at 2 (Fd number) path).base route (parent_plan route.last (change_plan change route.last route.slash))))) is.walked
      ∙ refused path (walks_in (parent_route_of path) (parent_plan (last_of (parts_of path)) (change_plan change (last_of (parts_of path)) (slash_of path)))) is.relative

  status_refuses : (path : List ℕ) → IsRelative path → posix 2 store (Fstatat (Fd number) path) ≡ replied store (Fault error)
  status_refuses path is =
      let whole : Route = record { parts = parts_of path; last = None; manner = Follows; slash = slash_of path } in
      ap (λ (fault : Option Errno). at_once store (on_ok (ok_unless fault whole) (λ route. walks_from (path_at 2 (Fd number) path).base route status_plan))) is.walked
      ∙ refused path (walks_in whole status_plan) is.relative

  -- where the second path of a move starts
  move_on_refuses : (last : Option Part) (slash : Bool) (new : List ℕ) (from : Spot) → IsRelative new → at_once store (move_on last slash (path_at 2 (Fd number) new).base (ok_unless None (parent_route_of new)) from) ≡ replied store (Fault error)
  move_on_refuses last slash new from is =
      refused new (walks_in (parent_route_of new) (parent_plan (last_of (parts_of new)) (move_plan from last (slash || slash_of new) (last_of (parts_of new))))) is.relative

  from_refuses : (path : List ℕ) (new_base : Base) (new : List ℕ) → IsRelative path → posix 2 store (Renameat (Fd number) path new_base new) ≡ replied store (Fault error)
  from_refuses path new_base new is =
      ap (λ (fault : Option Errno). at_once store (on_ok (ok_unless fault (parent_route_of path)) (λ route. walks_from (path_at 2 (Fd number) path).base route (parent_plan route.last (move_on route.last route.slash (path_at 2 new_base new).base (parent_route new)))))) is.walked
      ∙ refused path (walks_in (parent_route_of path) (parent_plan (last_of (parts_of path)) (move_on (last_of (parts_of path)) (slash_of path) (path_at 2 new_base new).base (parent_route new)))) is.relative

  to_refuses : (path new : List ℕ) (here : Spot) (name : List ℕ) → NamesEntry 2 store path here name → IsRelative new → posix 2 store (Renameat Cwd path (Fd number) new) ≡ replied store (Fault error)
  to_refuses path new here name names is =
      let base = (path_at 2 (Fd number) new).base in
      let last = last_of (parts_of path) in
      ap (λ (fault : Option Errno). at_once store (on_ok (ok_unless fault (parent_route_of path)) (λ route. walks_from (path_at 2 Cwd path).base route (parent_plan route.last (move_on route.last route.slash base (parent_route new)))))) names.walked
      ∙ walks_at 2 store path (parent_route_of path) (parent_plan last (move_on last (slash_of path) base (parent_route new)))
      ∙ ap (λ (end : Result End Errno). at_once store (parent_plan last (move_on last (slash_of path) base (parent_route new)) end)) names.prefix
      ∙ ap (λ (l : Option Part). at_once store (on_ok (parent_of l (Directory (station (suc names.left) names.links here))) (move_on last (slash_of path) base (parent_route new)))) names.last
      ∙ ap (λ (fault : Option Errno). at_once store (move_on last (slash_of path) base (ok_unless fault (parent_route_of new)) here)) is.walked
      ∙ move_on_refuses last (slash_of path) new here is

-- once a free number is reserved, the other is no base still, also where it is that one
no_base_still : (store : Store) (number free : ℕ) (error : Errno) → base_fault (slot_at store.descriptors number) ≡ Some error → slice_get store.descriptors.slots free ≡ Some slot.Free → base_fault (slot_at (held store free).descriptors number) ≡ Some error
no_base_still store number free error none is_free = elim (same_id number free) as (λ _. base_fault (slot_at (held store free).descriptors number) ≡ Some error) [
  | inl same ↦
      ap (λ (n : ℕ). base_fault (slot_at (held store free).descriptors n)) same
      ∙ ap (λ (s : Option Slot). base_fault (unwrap_or s slot.Free)) (set_here store.descriptors.slots free slot.Free slot.Reserved is_free)
      ∙ sym (ap (λ (s : Option Slot). base_fault (unwrap_or s slot.Free)) is_free)
      ∙ sym (ap (λ (n : ℕ). base_fault (slot_at store.descriptors n)) same)
      ∙ none
  | inr apart ↦ ap (λ (s : Option Slot). base_fault (unwrap_or s slot.Free)) (set_other store.descriptors.slots free number slot.Reserved apart) ∙ none
]

open_refuses : (store : Store) (number : ℕ) (error : Errno) (none : base_fault (slot_at store.descriptors number) ≡ Some error) (path : List ℕ) (flags : OpenFlags) (free : ℕ) → IsRelative path → flags_fault flags ≡ None → lowest_free store.descriptors ≡ Some free → posix 2 store (Openat (Fd number) path flags) ≡ replied store (Fault error)
open_refuses store number error none path flags free is together lowest =
    let base = (path_at 2 (Fd number) path).base in
    let is_free = lowest_is_free store.descriptors free lowest in
    ap (λ (fault : Option Errno). at_once store (unless_fault fault (steps DescriptorsCell (DescriptorsOp Reserve) (reserved_plan flags base (open_route path))))) together
    ∙ ap (λ (place : Option ℕ). at_once (record store { descriptors = (place_outcome store.descriptors slot.Reserved place).map }) (reserved_plan flags base (open_route path) (Answered (DescriptorsAnswer (place_outcome store.descriptors slot.Reserved place).answer)))) lowest
    ∙ ap (λ (fault : Option Errno). at_once (held store free) (opens_by free flags base (ok_unless fault (route_to path)))) is.walked
    ∙ refused (held store free) number error (no_base_still store number free error none is_free) path (opens_in (request_of free flags (slash_of path)) (route_to path)) is.relative
    ∙ ap (λ (s : Store). replied s (Fault error)) (drops_back store free is_free error)

pub bases_are_directories : BasesAreDirectories
bases_are_directories store number error none = record {
  openat = λ path flags free. open_refuses store number error none path flags free;
  mkdirat = λ path. changes_refuse store number error none change.Makedir path;
  rmdirat = λ path. changes_refuse store number error none change.Remdir path;
  unlinkat = λ path. changes_refuse store number error none change.Remfile path;
  fstatat = λ path. status_refuses store number error none path;
  renameat = λ path new_base new. from_refuses store number error none path new_base new;
  renameat_to = λ path new here name. to_refuses store number error none path new here name;
  fchdir = ap (λ (start : Result Spot Errno). at_once store (enters start)) (no_start (slot_at store.descriptors number) error none);
}
