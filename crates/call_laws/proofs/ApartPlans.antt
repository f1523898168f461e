-- From the start on, no step of the calls that have a base is on the current directory.
use Rattle.std.proofs.Common.{ℕ, ◌==◌, zero, suc, Bool, true, false, if◌then◌else◌, List, Option, None, Some, Result, Ok, Err, unwrap_or}
use Rattle.wf_core.specs.declared.errno.Errno.{Errno}
use Rattle.wf_core.specs.declared.errno.Errno.TheVariants.{Enoent, Enotdir, Eloop, Enametoolong, Exdev}
use Rattle.name_store.specs.declared.operation.Node.{Node}
use Rattle.name_store.specs.declared.operation.Node.TheVariants.{Dir, Link, File as FileNode, Mount}
use Rattle.name_store.specs.declared.operation.NameOp.{NameOp}
use Rattle.name_store.specs.declared.operation.NameOp.TheVariants.{Move, List as ListOp}
use Rattle.name_store.specs.declared.operation.NameAnswer.TheVariants as answer
use Rattle.file_store.specs.declared.descriptor_operation.FdOp.{FdOp}
use Rattle.file_store.specs.declared.descriptor_operation.FdOp.TheVariants as fd
use Rattle.file_store.specs.declared.descriptor_operation.FdAnswer.TheVariants as fd_answer
use Rattle.path_walk.specs.declared.descriptor_call.DataCall.{DataCall}
use Rattle.path_walk.specs.DescriptorCalls.{changes_numbers, data_plan, data_step_plan, number_plan}
use Rattle.path_walk.specs.declared.part.Part.{Part}
use Rattle.path_walk.specs.declared.route.Spot.{Spot}
use Rattle.path_walk.specs.declared.route.Station.{Station}
use Rattle.path_walk.specs.declared.route.End.{End}
use Rattle.path_walk.specs.declared.route.End.TheVariants.{Directory, File, LinkText}
use Rattle.path_walk.specs.declared.goal.Change.{Change}
use Rattle.path_walk.specs.declared.open_request.OpenRequest.{OpenRequest}
use Rattle.path_walk.specs.declared.open_request.OpenRoute.{OpenRoute}
use Rattle.path_walk.specs.declared.step.StoreOp.TheVariants.{Descriptors as DescriptorsOp}
use Rattle.path_walk.specs.declared.step.StoreAnswer.TheVariants.{Names as NamesAnswer, Descriptors as DescriptorsAnswer}
use Rattle.path_walk.specs.declared.step.StepAnswer.{StepAnswer}
use Rattle.path_walk.specs.declared.step.StepAnswer.TheVariants.{Answered}
use Rattle.path_walk.specs.declared.call.Reply.TheVariants as reply
use Rattle.path_walk.specs.PathMeaning.{root_of, spot_beside, start_in, start_of, station}
use Rattle.path_walk.specs.Walk.{node_in}
use Rattle.path_walk.specs.Plans.{Plan, replies, fails, fault_in, on_ok, unless_fault}
use Rattle.path_walk.specs.Calls.{change_plan, faults_of, last_step, list_plan, text_plan, move_faults, move_plan, move_step, name_of, op_of, parent_of, parent_plan, plan_after, slash_fault, status_plan, unlinked_by}
use Rattle.path_walk.specs.OpenPlan.{absent_fault, added_plan, attached_by, description_in, directory_fault, drops, file_fault, file_in, fills, follows, found_plan, link_fault, looked_plan, looks, made_by, makes, meant_plan, open_end, open_walks_max, opens_along, opens_directory, opens_file, opens_in, route_to, unless_drops, unlinked_plan, unmakes}
use Rattle.call_laws.proofs.ApartLemmas.{Apart, IsApart}

on_ok_apart : {A : Type 0} (r : Result A Errno) (next : A → Plan) → ((x : A) → Apart (next x)) → Apart (on_ok r next)
on_ok_apart (Ok x) next each = each x
on_ok_apart (Err error) next each = tt

unless_apart : (fault : Option Errno) (p : Plan) → Apart p → Apart (unless_fault fault p)
unless_apart (Some error) p h = tt
unless_apart None p h = h

-- Calls on names.

after_apart : (backend : ℕ) (given : StepAnswer) (file : Option ℕ) → Apart (plan_after backend given file)
after_apart backend given (Some file) = (tt, λ told. tt)
after_apart backend given None = tt

last_apart : (backend : ℕ) (op : NameOp) → Apart (last_step backend op)
last_apart backend op = (tt, λ given. after_apart backend given (unlinked_by given))

pub status_apart : (end : Result End Errno) → Apart (status_plan end)
status_apart (Err error) = tt
status_apart (Ok (Directory there)) = tt
status_apart (Ok (File backend file)) = (tt, λ given. tt)
status_apart (Ok (LinkText text)) = tt

pub text_apart : (end : Result End Errno) → Apart (text_plan end)
text_apart (Err error) = tt
text_apart (Ok (Directory there)) = tt
text_apart (Ok (File backend file)) = tt
text_apart (Ok (LinkText text)) = tt

pub list_apart : (start : ℕ) (end : Result End Errno) → Apart (list_plan start end)
list_apart start (Err error) = tt
list_apart start (Ok (Directory there)) = last_apart there.spot.backend (ListOp there.spot.directory start)
list_apart start (Ok (File backend file)) = tt
list_apart start (Ok (LinkText text)) = tt

pub parent_apart : (last : Option Part) (next : Spot → Plan) → ((spot : Spot) → Apart (next spot)) → (end : Result End Errno) → Apart (parent_plan last next end)
parent_apart last next each (Err error) = tt
parent_apart last next each (Ok end) = on_ok_apart (parent_of last end) next each

pub change_apart : (change : Change) (last : Option Part) (slash : Bool) (spot : Spot) → Apart (change_plan change last slash spot)
change_apart change last slash spot =
    on_ok_apart (name_of (faults_of change) last) (λ name. unless_fault (slash_fault change slash) (last_step spot.backend (op_of change spot.directory name slash))) (λ name.
    unless_apart (slash_fault change slash) _ (last_apart spot.backend (op_of change spot.directory name slash)))

step_apart : (backend : ℕ) (op : NameOp) (is_one : Bool) → Apart (if is_one then last_step backend op else fails Exdev)
step_apart backend op true = last_apart backend op
step_apart backend op false = tt

pub move_apart : (from : Spot) (last : Option Part) (slash : Bool) (new_last : Option Part) (to : Spot) → Apart (move_plan from last slash new_last to)
move_apart from last slash new_last to =
    on_ok_apart (name_of move_faults last) (λ name. on_ok (name_of move_faults new_last) (λ new_name. move_step from name slash to new_name)) (λ name.
    on_ok_apart (name_of move_faults new_last) (λ new_name. move_step from name slash to new_name) (λ new_name.
    step_apart from.backend (Move from.directory name to.directory new_name slash) (from.backend == to.backend)))

-- Calls by a descriptor.

use_apart : (purpose : DataCall) (given : StepAnswer) → Apart (data_step_plan purpose given)
use_apart purpose (Answered (DescriptorsAnswer (fd_answer.File backend description))) = (tt, λ told. tt)
use_apart purpose (Answered (DescriptorsAnswer (fd_answer.Dir backend directory))) = tt
use_apart purpose given = tt

pub data_apart : (number : ℕ) (purpose : DataCall) → Apart (data_plan number purpose)
data_apart number purpose = (tt, use_apart purpose)

number_apart : (given : StepAnswer) → Apart (number_plan given)
number_apart (Answered (DescriptorsAnswer (fd_answer.Last backend description))) = (tt, λ told. tt)
number_apart (Answered (DescriptorsAnswer (fd_answer.FdLast number backend description))) = (tt, λ told. tt)
number_apart given = tt

pub numbers_apart : (op : FdOp) → IsApart (DescriptorsOp op) → Apart (changes_numbers op)
numbers_apart op h = (h, number_apart)

-- `open`.

pub drops_apart : (number : ℕ) (error : Errno) → Apart (drops number error)
drops_apart number error = (tt, λ given. tt)

unless_drops_apart : (number : ℕ) (fault : Option Errno) (p : Plan) → Apart p → Apart (unless_drops number fault p)
unless_drops_apart number (Some error) p h = drops_apart number error
unless_drops_apart number None p h = h

fills_apart : (number : ℕ) (op : FdOp) → IsApart (DescriptorsOp op) → Apart (fills number op)
fills_apart number op h = (h, λ given. unless_drops_apart number (fault_in given) (replies (reply.Fd number)) tt)

directory_apart : (request : OpenRequest) (there : Spot) → Apart (opens_directory request there)
directory_apart request there = unless_drops_apart request.number (directory_fault request.flags) _ (fills_apart request.number (fd.FillDir request.number there.backend there.directory) tt)

attached_apart : (number backend : ℕ) (given : StepAnswer) (found : Option ℕ) → Apart (attached_by number backend given found)
attached_apart number backend given (Some description) = fills_apart number (fd.FillFile number backend description) tt
attached_apart number backend given None = drops_apart number (unwrap_or (fault_in given) Enoent)

file_apart : (request : OpenRequest) (backend file : ℕ) → Apart (opens_file request backend file)
file_apart request backend file = unless_drops_apart request.number (file_fault request.flags request.slash) _ (tt, λ given. attached_apart request.number backend given (description_in given))

module _ (follow : OpenRequest → Station → OpenRoute → Plan) (on : (request : OpenRequest) (from : Station) (route : OpenRoute) → Apart (follow request from route)) where
  follows_apart : (links : ℕ) (request : OpenRequest) (names : ℕ) (here : Spot) (text : List ℕ) → Apart (follows follow links request names here text)
  follows_apart zero request names here text = drops_apart request.number Eloop
  follows_apart (suc links) request names here text = on _ (station names links (start_of text here)) (route_to text)

  found_apart : (request : OpenRequest) (here : Station) (node : Node) → Apart (found_plan follow request here node)
  found_apart request here (Dir id) = directory_apart request (spot_beside here.spot id)
  found_apart request here (Mount backend) = directory_apart request (root_of backend)
  found_apart request here (FileNode file) = file_apart request here.spot.backend file
  found_apart request here (Link id text) = unless_drops_apart request.number (link_fault request.flags request.slash) _ (follows_apart here.links request here.names here.spot text)

  meant_apart : (request : OpenRequest) (here : Station) (found : Result Node Errno) → Apart (meant_plan follow request here found)
  meant_apart request here (Ok node) = found_apart request here node
  meant_apart request here (Err error) = drops_apart request.number error

  unlinked_apart : (request : OpenRequest) (here : Station) (description : ℕ) (found : Result Node Errno) (given : StepAnswer) → Apart (unlinked_plan follow request here description found given)
  unlinked_apart request here description found given =
      unless_drops_apart request.number (fault_in given) _
      (tt, λ told. unless_drops_apart request.number (fault_in told) _ (meant_apart request here found))

  unmakes_apart : (request : OpenRequest) (here : Station) (file description : ℕ) (found : Result Node Errno) → Apart (unmakes follow request here file description found)
  unmakes_apart request here file description found = (tt, λ given. unlinked_apart request here description found given)

  added_apart : (request : OpenRequest) (here : Station) (file description : ℕ) (given : StepAnswer) → Apart (added_plan follow request here file description given)
  added_apart request here file description (Answered (NamesAnswer answer.Done)) = fills_apart request.number (fd.FillFile request.number here.spot.backend description) tt
  added_apart request here file description (Answered (NamesAnswer (answer.Taken node))) = unmakes_apart request here file description (Ok node)
  added_apart request here file description (Answered (NamesAnswer answer.Gone)) = unmakes_apart request here file description (Err Enoent)
  added_apart request here file description given = (tt, λ told. tt)

  made_apart : (request : OpenRequest) (here : Station) (name : List ℕ) (given : StepAnswer) (made : Option (ℕ × ℕ)) → Apart (made_by follow request here name given made)
  made_apart request here name given (Some (file, description)) = (tt, λ told. added_apart request here file description told)
  made_apart request here name given None = drops_apart request.number (unwrap_or (fault_in given) Enoent)

  makes_apart : (request : OpenRequest) (here : Station) (name : List ℕ) → Apart (makes follow request here name)
  makes_apart request here name = (tt, λ given. made_apart request here name given (file_in given))

  looked_apart : (request : OpenRequest) (here : Station) (name : List ℕ) (found : Result (Option Node) Errno) → Apart (looked_plan follow request here name found)
  looked_apart request here name (Err error) = drops_apart request.number error
  looked_apart request here name (Ok None) = unless_drops_apart request.number (absent_fault request.flags request.slash) _ (makes_apart request here name)
  looked_apart request here name (Ok (Some node)) = found_apart request here node

  looks_apart : (request : OpenRequest) (names links : ℕ) (here : Spot) (name : List ℕ) → Apart (looks follow request names links here name)
  looks_apart request zero links here name = drops_apart request.number Enametoolong
  looks_apart request (suc names) links here name = (tt, λ given. looked_apart request (station names links here) name (node_in given))

  end_apart : (request : OpenRequest) (name : Option (List ℕ)) (end : Result End Errno) → Apart (open_end follow request name end)
  end_apart request name (Err error) = drops_apart request.number error
  end_apart request None (Ok (Directory there)) = directory_apart request there.spot
  end_apart request (Some name) (Ok (Directory there)) = looks_apart request there.names there.links there.spot name
  end_apart request name (Ok (File backend file)) = drops_apart request.number Enotdir
  end_apart request name (Ok (LinkText text)) = drops_apart request.number Enotdir

along_apart : (walks_left : ℕ) (request : OpenRequest) (from : Station) (route : OpenRoute) → Apart (opens_along walks_left request from route)
unfolding opens_along
along_apart zero request from route = drops_apart request.number Eloop
along_apart (suc walks_left) request from route = λ end. end_apart (opens_along walks_left) (along_apart walks_left) request route.name end

pub in_apart : (request : OpenRequest) (route : OpenRoute) (start : Result Spot Errno) → Apart (opens_in request route start)
in_apart request route (Ok spot) = along_apart open_walks_max request (start_in spot) route
in_apart request route (Err error) = drops_apart request.number error
