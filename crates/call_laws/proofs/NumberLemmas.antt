-- The number that `open` and `dup` give.
use Rattle.path_walk.specs.Calls.{path_at}
use Rattle.path_walk.specs.declared.call.Base.{Base}
use Rattle.path_walk.specs.declared.call.Base.TheVariants.{Cwd}
use Rattle.path_walk.specs.declared.act.PathAt.{PathAt}
use Rattle.std.proofs.Common.{◌≡◌, ℕ, zero, suc, Bool, true, false, if◌then◌else◌, List, Option, None, Some, Result, Ok, Err, sym, ap}
use Rattle.wf_core.specs.declared.errno.Errno.{Errno}
use Rattle.wf_core.specs.declared.errno.Errno.TheVariants.{Enoent, Eloop, Enotdir, Enametoolong, Ebadf}
use Rattle.name_store.specs.declared.operation.Node.{Node}
use Rattle.name_store.specs.declared.operation.Node.TheVariants.{Dir, Link, File as FileNode, Mount}
use Rattle.name_store.specs.declared.operation.NameAnswer.TheVariants as answer
use Rattle.file_store.specs.declared.descriptor_operation.Slot.TheVariants as slot
use Rattle.file_store.specs.declared.descriptor_operation.FdOp.{FdOp}
use Rattle.file_store.specs.declared.descriptor_operation.FdOp.TheVariants.{Reserve}
use Rattle.file_store.specs.declared.descriptor_operation.FdAnswer.TheVariants as fd_answer
use Rattle.file_store.specs.DescriptorMap.{is_named, lowest_free, outcome_of, place_outcome, slot_at}
use Rattle.path_walk.specs.declared.route.Spot.{Spot}
use Rattle.path_walk.specs.declared.route.Station.{Station}
use Rattle.path_walk.specs.declared.route.Route.{Route}
use Rattle.path_walk.specs.declared.route.End.{End}
use Rattle.path_walk.specs.declared.route.End.TheVariants.{Directory, File, LinkText}
use Rattle.path_walk.specs.declared.open_request.OpenFlags.{OpenFlags}
use Rattle.path_walk.specs.declared.open_request.OpenRequest.{OpenRequest}
use Rattle.path_walk.specs.declared.open_request.OpenRoute.{OpenRoute}
use Rattle.path_walk.specs.declared.step.CellId.{CellId}
use Rattle.path_walk.specs.declared.step.CellId.TheVariants.{Descriptors as DescriptorsCell}
use Rattle.path_walk.specs.declared.step.StoreOp.{StoreOp}
use Rattle.path_walk.specs.declared.step.StoreOp.TheVariants.{Descriptors as DescriptorsOp}
use Rattle.path_walk.specs.declared.step.StoreAnswer.TheVariants.{Names as NamesAnswer, Files as FilesAnswer, Descriptors as DescriptorsAnswer}
use Rattle.path_walk.specs.declared.step.StepAnswer.{StepAnswer}
use Rattle.path_walk.specs.declared.step.StepAnswer.TheVariants.{Answered, Cancelled, Closed}
use Rattle.path_walk.specs.declared.call.Reply.TheVariants as reply
use Rattle.path_walk.specs.Store.{Store, cstep}
use Rattle.path_walk.specs.PathMeaning.{resolve, root_of, spot_beside, start_of, station, start_in}
use Rattle.path_walk.specs.Walk.{node_in}
use Rattle.path_walk.specs.Plans.{Plan, replies, steps, walks, at_once, fault_in, unless_fault, from_base, op_of_base, spot_in}
use Rattle.path_walk.specs.OpenPlan.{absent_fault, added_plan, attached_by, attached_plan, description_in, directory_fault, drops, file_fault, file_in, fills, flags_fault, follows, found_plan, link_fault, looked_plan, looks, made_by, made_plan, meant_plan, open_end, open_route, open_walks_max, opens_along, opens_by, opens_directory, opens_file, request_of, reserved_plan, route_to, unless_drops, unlinked_plan, unmakes, opens_in}
use Rattle.call_laws.specs.OpenLaws.{NumbersAreLowest}
use Rattle.call_laws.proofs.SharingLemmas.{after_numbers}

-- the plan gives no other number
record Gives (number : ℕ) (p : Plan) : Type 0 where
  only : (store : Store) (given : ℕ) → (at_once store p).reply ≡ reply.Fd given → given ≡ number

step_gives : (number : ℕ) (cell : CellId) (op : StoreOp) (next : StepAnswer → Plan) → ((told : StepAnswer) → Gives number (next told)) → Gives number (steps cell op next)
step_gives number cell op next each = record { only = λ store given e. (each (Answered (cstep store cell op).answer)).only (cstep store cell op).store given e }

walk_gives : (number : ℕ) (from : Station) (route : Route) (next : Result End Errno → Plan) → ((end : Result End Errno) → Gives number (next end)) → Gives number (walks from route next)
walk_gives number from route next each = record { only = λ store given e. (each (resolve store from.names route.parts route.manner route.slash from.links from.spot)).only store given e }

module _ (number : ℕ) where
  drops_give : (error : Errno) → Gives number (drops number error)
  drops_give error = record { only = λ store given e. cc }

  replies_give : Gives number (replies (reply.Fd number))
  replies_give = record { only = λ store given e. cc }

  unless_give : (fault : Option Errno) (p : Plan) → Gives number p → Gives number (unless_drops number fault p)
  unless_give (Some error) p h = drops_give error
  unless_give None p h = h

  fills_give : (op : FdOp) → Gives number (fills number op)
  fills_give op = step_gives number DescriptorsCell (DescriptorsOp op) _ (λ told. unless_give (fault_in told) (replies (reply.Fd number)) replies_give)

  attached_gives : (backend : ℕ) (told : StepAnswer) (found : Option ℕ) → Gives number (attached_by number backend told found)
  attached_gives backend told None = drops_give _
  attached_gives backend told (Some description) = fills_give _

directory_gives : (request : OpenRequest) (there : Spot) → Gives request.number (opens_directory request there)
directory_gives request there = unless_give request.number (directory_fault request.flags) _ (fills_give request.number _)

file_gives : (request : OpenRequest) (backend file : ℕ) → Gives request.number (opens_file request backend file)
file_gives request backend file = unless_give request.number (file_fault request.flags request.slash) _ (step_gives request.number _ _ (attached_plan request.number backend) (λ told. attached_gives request.number backend told (description_in told)))

module _ (follow : OpenRequest → Station → OpenRoute → Plan) (on : (request : OpenRequest) (from : Station) (route : OpenRoute) → Gives request.number (follow request from route)) where
  follows_give : (links : ℕ) (request : OpenRequest) (names : ℕ) (here : Spot) (text : List ℕ) → Gives request.number (follows follow links request names here text)
  follows_give zero request names here text = drops_give request.number Eloop
  follows_give (suc links) request names here text = on _ (station names links (start_of text here)) (route_to text)

  found_gives : (request : OpenRequest) (here : Station) (node : Node) → Gives request.number (found_plan follow request here node)
  found_gives request here (Dir id) = directory_gives request (spot_beside here.spot id)
  found_gives request here (Mount backend) = directory_gives request (root_of backend)
  found_gives request here (FileNode file) = file_gives request here.spot.backend file
  found_gives request here (Link id text) = unless_give request.number (link_fault request.flags request.slash) _ (follows_give here.links request here.names here.spot text)

  meant_gives : (request : OpenRequest) (here : Station) (found : Result Node Errno) → Gives request.number (meant_plan follow request here found)
  meant_gives request here (Ok node) = found_gives request here node
  meant_gives request here (Err error) = drops_give request.number error

  unmakes_give : (request : OpenRequest) (here : Station) (file description : ℕ) (found : Result Node Errno) → Gives request.number (unmakes follow request here file description found)
  unmakes_give request here file description found =
      step_gives request.number _ _ (unlinked_plan follow request here description found) (λ told. unless_give request.number (fault_in told) _ (step_gives request.number _ _ _ (λ freed. unless_give request.number (fault_in freed) _ (meant_gives request here found))))

  added_gives : (request : OpenRequest) (here : Station) (file description : ℕ) (told : StepAnswer) → Gives request.number (added_plan follow request here file description told)
  added_gives request here file description (Answered (NamesAnswer answer.Done)) = fills_give request.number _
  added_gives request here file description (Answered (NamesAnswer (answer.Taken node))) = unmakes_give request here file description (Ok node)
  added_gives request here file description (Answered (NamesAnswer answer.Gone)) = unmakes_give request here file description (Err Enoent)
  added_gives request here file description (Answered (NamesAnswer answer.Absent)) = drops_give request.number _
  added_gives request here file description (Answered (NamesAnswer (answer.Found node))) = drops_give request.number _
  added_gives request here file description (Answered (NamesAnswer (answer.MadeDir id))) = drops_give request.number _
  added_gives request here file description (Answered (NamesAnswer (answer.MadeLink id))) = drops_give request.number _
  added_gives request here file description (Answered (NamesAnswer (answer.RemovedFile other))) = drops_give request.number _
  added_gives request here file description (Answered (NamesAnswer answer.RemovedLink)) = drops_give request.number _
  added_gives request here file description (Answered (NamesAnswer answer.Same)) = drops_give request.number _
  added_gives request here file description (Answered (NamesAnswer (answer.Over other))) = drops_give request.number _
  added_gives request here file description (Answered (NamesAnswer answer.Moved)) = drops_give request.number _
  added_gives request here file description (Answered (NamesAnswer (answer.Names names))) = drops_give request.number _
  added_gives request here file description (Answered (NamesAnswer (answer.Fault error))) = drops_give request.number _
  added_gives request here file description (Answered (FilesAnswer told)) = drops_give request.number _
  added_gives request here file description (Answered (DescriptorsAnswer told)) = drops_give request.number _
  added_gives request here file description Cancelled = drops_give request.number _
  added_gives request here file description Closed = drops_give request.number _

  made_gives : (request : OpenRequest) (here : Station) (name : List ℕ) (told : StepAnswer) (made : Option (ℕ × ℕ)) → Gives request.number (made_by follow request here name told made)
  made_gives request here name told None = drops_give request.number _
  made_gives request here name told (Some ids) = step_gives request.number _ _ _ (λ added. added_gives request here ids.0 ids.1 added)

  looked_gives : (request : OpenRequest) (here : Station) (name : List ℕ) (found : Result (Option Node) Errno) → Gives request.number (looked_plan follow request here name found)
  looked_gives request here name (Err error) = drops_give request.number error
  looked_gives request here name (Ok None) = unless_give request.number (absent_fault request.flags request.slash) _ (step_gives request.number _ _ (made_plan follow request here name) (λ told. made_gives request here name told (file_in told)))
  looked_gives request here name (Ok (Some node)) = found_gives request here node

  looks_give : (request : OpenRequest) (names links : ℕ) (here : Spot) (name : List ℕ) → Gives request.number (looks follow request names links here name)
  looks_give request zero links here name = drops_give request.number Enametoolong
  looks_give request (suc names) links here name = step_gives request.number _ _ _ (λ told. looked_gives request (station names links here) name (node_in told))

  end_gives : (request : OpenRequest) (name : Option (List ℕ)) (end : Result End Errno) → Gives request.number (open_end follow request name end)
  end_gives request name (Err error) = drops_give request.number error
  end_gives request None (Ok (Directory there)) = directory_gives request there.spot
  end_gives request (Some name) (Ok (Directory there)) = looks_give request there.names there.links there.spot name
  end_gives request name (Ok (File backend file)) = drops_give request.number Enotdir
  end_gives request name (Ok (LinkText text)) = drops_give request.number Enotdir

along_gives : (walks_left : ℕ) (request : OpenRequest) (from : Station) (route : OpenRoute) → Gives request.number (opens_along walks_left request from route)
unfolding opens_along
along_gives zero request from route = drops_give request.number Eloop
along_gives (suc walks_left) request from route = walk_gives request.number from route.route (open_end (opens_along walks_left) request route.name) (λ end. end_gives (opens_along walks_left) (along_gives walks_left) request route.name end)

in_gives : (request : OpenRequest) (route : OpenRoute) (start : Result Spot Errno) → Gives request.number (opens_in request route start)
in_gives request route (Ok spot) = along_gives open_walks_max request (start_in spot) route
in_gives request route (Err error) = drops_give request.number error

from_gives : (number : ℕ) (origin : Option Base) (next : Result Spot Errno → Plan) → ((start : Result Spot Errno) → Gives number (next start)) → Gives number (from_base origin next)
from_gives number None next each = each (Ok (root_of 0))
from_gives number (Some base) next each = step_gives number DescriptorsCell (DescriptorsOp (op_of_base base)) _ (λ told. each (spot_in told))

by_gives : (number : ℕ) (flags : OpenFlags) (origin : Option Base) (route : Result OpenRoute Errno) → Gives number (opens_by number flags origin route)
by_gives number flags origin (Err error) = drops_give number error
by_gives number flags origin (Ok route) = from_gives number origin (opens_in (request_of number flags route.route.slash) route) (in_gives (request_of number flags route.route.slash) route)

module _ (store : Store) where
  reserved_gives : (flags : OpenFlags) (origin : Option Base) (route : Result OpenRoute Errno) (free : Option ℕ) (given : ℕ) → (at_once (record store { descriptors = (place_outcome store.descriptors slot.Reserved free).map }) (reserved_plan flags origin route (Answered (DescriptorsAnswer (place_outcome store.descriptors slot.Reserved free).answer)))).reply ≡ reply.Fd given → free ≡ Some given
  reserved_gives flags origin route None given e = cc
  reserved_gives flags origin route (Some number) given e = ap (λ (n : ℕ). Some n) (sym ((by_gives number flags origin route).only _ given e))

  opens_lowest : (at : PathAt) (flags : OpenFlags) (fault : Option Errno) (given : ℕ) → (at_once store (unless_fault fault (steps DescriptorsCell (DescriptorsOp Reserve) (reserved_plan flags at.base (open_route at.path))))).reply ≡ reply.Fd given → lowest_free store.descriptors ≡ Some given
  opens_lowest at flags (Some error) given e = cc
  opens_lowest at flags None given e = reserved_gives flags at.base (open_route at.path) (lowest_free store.descriptors) given e

  copy_gives : (number : ℕ) (named : Bool) (free : Option ℕ) (copy : ℕ) → (after_numbers store (if named then place_outcome store.descriptors (slot_at store.descriptors number) free else outcome_of store.descriptors (fd_answer.Fault Ebadf))).reply ≡ reply.Fd copy → free ≡ Some copy
  copy_gives number true None copy e = cc
  copy_gives number true (Some place) copy e = cc
  copy_gives number false free copy e = cc

pub numbers_are_lowest : NumbersAreLowest
numbers_are_lowest = record {
  opens = λ version store path flags number e. opens_lowest store (path_at version Cwd path) flags (flags_fault flags) number e;
  openat = λ version store base path flags given e. opens_lowest store (path_at version base path) flags (flags_fault flags) given e;
  dup = λ version store number copy e. copy_gives store number (is_named (slot_at store.descriptors number)) (lowest_free store.descriptors) copy e;
}
