-- A call owes at most one number, one description and one file.
use Rattle.path_walk.specs.declared.call.Base.{Base}
use Rattle.path_walk.specs.declared.call.Base.TheVariants.{Cwd, Fd}
use Rattle.path_walk.specs.declared.act.PathAt.{PathAt}
use Rattle.std.proofs.Common.{arith, ◌≡◌, ℕ, ◌==◌, ◌≤◌, ◌&&◌, not, filter, length, zero, suc, Bool, true, false, cond, if◌then◌else◌, List, [], ◌∷◌, Option, None, Some, Result, Ok, Err, sym, ap, subst, ◌∙◌}
use Rattle.std.proofs.lemmas.Bool.Decides.{nat_tests}
use Rattle.std.specs.declared.alloc.AllocError.{AllocError}
use Rattle.wf_core.specs.declared.errno.Errno.{Errno}
use Rattle.wf_core.specs.declared.errno.Errno.TheVariants.{Enoent, Eloop, Enotdir, Enametoolong}
use Rattle.name_store.specs.declared.operation.Node.{Node}
use Rattle.name_store.specs.declared.operation.Node.TheVariants.{Dir, Link, File as FileNode, Mount}
use Rattle.name_store.specs.declared.operation.NameOp.{NameOp}
use Rattle.name_store.specs.declared.operation.NameOp.TheVariants as name_op
use Rattle.name_store.specs.declared.operation.NameAnswer.TheVariants as answer
use Rattle.file_store.specs.declared.file_operation.FileOp.TheVariants as file_op
use Rattle.file_store.specs.declared.descriptor_operation.FdOp.TheVariants as fd
use Rattle.file_store.specs.declared.descriptor_operation.FdAnswer.TheVariants as fd_answer
use Rattle.path_walk.specs.declared.part.Part.{Part}
use Rattle.path_walk.specs.declared.part.Part.TheVariants.{Here, Up, Down, TooLong}
use Rattle.path_walk.specs.declared.route.Manner.{Manner}
use Rattle.path_walk.specs.declared.route.Spot.{Spot}
use Rattle.path_walk.specs.declared.route.Station.{Station}
use Rattle.path_walk.specs.declared.route.Route.{Route}
use Rattle.path_walk.specs.declared.route.End.{End}
use Rattle.path_walk.specs.declared.route.End.TheVariants.{Directory, File, LinkText}
use Rattle.path_walk.specs.declared.open_request.OpenFlags.{OpenFlags}
use Rattle.path_walk.specs.declared.open_request.OpenRequest.{OpenRequest}
use Rattle.path_walk.specs.declared.open_request.OpenRoute.{OpenRoute}
use Rattle.path_walk.specs.declared.descriptor_call.DataCall.{DataCall}
use Rattle.path_walk.specs.declared.descriptor_call.DataCall.TheVariants as on_file
use Rattle.path_walk.specs.declared.step.CellId.{CellId}
use Rattle.path_walk.specs.declared.step.CellId.TheVariants.{Names as NamesCell, Files as FilesCell, Descriptors as DescriptorsCell}
use Rattle.path_walk.specs.declared.step.StoreOp.{StoreOp}
use Rattle.path_walk.specs.declared.step.StoreOp.TheVariants.{Names as NamesOp, Files as FilesOp, Descriptors as DescriptorsOp}
use Rattle.path_walk.specs.declared.step.StoreAnswer.TheVariants.{Names as NamesAnswer, Files as FilesAnswer, Descriptors as DescriptorsAnswer}
use Rattle.path_walk.specs.declared.step.StepAnswer.{StepAnswer}
use Rattle.path_walk.specs.declared.step.StepAnswer.TheVariants.{Answered, Cancelled, Closed}
use Rattle.path_walk.specs.declared.call.Reply.{Reply}
use Rattle.path_walk.specs.declared.call.Reply.TheVariants as reply
use Rattle.path_walk.specs.PathMeaning.{Way, Course, ends, goes, root_of, spot_beside, start_of, station, start_in}
use Rattle.path_walk.specs.Programs.{Begins, Program, finished, asks, Step}
use Rattle.path_walk.specs.Walk.{course_on, node_in, program_on, walk}
use Rattle.path_walk.specs.Plans.{Plan, replies, steps, walks, cell_of_id, fails, fault_in, program_of, reply_to, unless_fault, from_base, spot_in, walks_in}
use Rattle.path_walk.specs.DescriptorCalls.{number_plan, op_of_data, releases, data_step_plan, enters}
use Rattle.path_walk.specs.OpenPlan.{absent_fault, added_plan, attached_by, attached_plan, description_in, directory_fault, drops, file_fault, file_in, fills, flags_fault, follows, found_plan, link_fault, looked_plan, looks, made_by, made_plan, makes, meant_plan, open_end, open_route, open_walks_max, opens_along, opens_by, opens_directory, opens_file, request_of, reserved_plan, route_to, unless_drops, unlinked_plan, unmakes, opens_in}
use Rattle.path_walk.specs.Calls.{last_step, plan_after, unlinked_by}
use Rattle.path_walk.specs.Posix.{program}
use Rattle.path_walk.proofs.Plans.{Holds, any_end, each_call}
use Rattle.call_laws.specs.DebtLaws.{Debt, DebtsAreSmall, IsSmall, but_of, debt_after, debt_along, debt_by, is_answered, is_entered, last_in, no_debt, number_in, of_backend, unless_told_fault, with_description, with_file, with_made, with_number, without_description, without_file, without_number}

-- What a program may owe.

abbrev Few : Debt → Program → Type 0
Few debt (finished given) = IsSmall debt
Few debt (asks cell op next) = IsSmall debt × ((told : StepAnswer) → Few (debt_after debt cell op told) (next told))

record OwesFew (debt : Debt) (p : Plan) : Type 0 where
  few : Few debt (program_of p)

reply_few : (debt : Debt) (given : Reply) → IsSmall debt → OwesFew debt (replies given)
reply_few debt given small = record { few = small }

step_few : (debt : Debt) (cell : CellId) (op : StoreOp) (next : StepAnswer → Plan) → IsSmall debt → ((told : StepAnswer) → OwesFew (debt_after debt cell op told) (next told)) → OwesFew debt (steps cell op next)
step_few debt cell op next small each = record { few = (small, λ told. (each told).few) }

course_few : (debt : Debt) (c : Course) (next : Way → Program) (over : Result End Errno → Program) → ((w : Way) → Few debt (next w)) → ((end : Result End Errno) → Few debt (over end)) → Few debt (program_on c next over)
course_few debt (ends end) next over on stop = stop end
course_few debt (goes w) next over on stop = on w

-- `..` takes no step in the root
up_few : (debt : Debt) (is_root : Bool) (rooted asked : Program) → Few debt rooted → Few debt asked → Few debt (if is_root then rooted else asked)
up_few debt true rooted asked h k = h
up_few debt false rooted asked h k = k

walk_few : (debt : Debt) → IsSmall debt → (names : ℕ) (parts : List Part) (manner : Manner) (slash : Bool) (links : ℕ) (here : Spot) (over : Result End Errno → Program) → ((end : Result End Errno) → Few debt (over end)) → Few debt (walk names parts manner slash links here over)
walk_few debt small names [] manner slash links here over stop = stop _
walk_few debt small names (Here ∷ rest) manner slash links here over stop = walk_few debt small names rest manner slash links here over stop
walk_few debt small names (TooLong ∷ rest) manner slash links here over stop = stop _
walk_few debt small zero (Up ∷ rest) manner slash links here over stop = stop _
walk_few debt small zero (Down name ∷ rest) manner slash links here over stop = stop _
walk_few debt small (suc names) (Up ∷ rest) manner slash links here over stop =
    up_few debt (here.directory == 0) (walk names rest manner slash links (root_of 0) over) (asks (NamesCell here.backend) (NamesOp (name_op.Parent here.directory)) (λ told. program_on (course_on manner (node_in told) rest slash links here) (λ w. walk names w.rest manner w.slash w.links w.spot over) over)) (walk_few debt small names rest manner slash links (root_of 0) over stop)
    (small, λ told. course_few debt (course_on manner (node_in told) rest slash links here) (λ w. walk names w.rest manner w.slash w.links w.spot over) over (λ w. walk_few debt small names w.rest manner w.slash w.links w.spot over stop) stop)
walk_few debt small (suc names) (Down name ∷ rest) manner slash links here over stop =
    (small, λ told. course_few debt (course_on manner (node_in told) rest slash links here) (λ w. walk names w.rest manner w.slash w.links w.spot over) over (λ w. walk_few debt small names w.rest manner w.slash w.links w.spot over stop) stop)

walks_few : (debt : Debt) → IsSmall debt → (from : Station) (route : Route) (next : Result End Errno → Plan) → ((end : Result End Errno) → OwesFew debt (next end)) → OwesFew debt (walks from route next)
walks_few debt small from route next each = record { few = walk_few debt small from.names route.parts route.manner route.slash from.links from.spot (λ end. program_of (next end)) (λ end. (each end).few) }

-- What is owed in turn.

abbrev owed : List ℕ → List (ℕ × ℕ) → List (ℕ × ℕ) → Debt
owed numbers descriptions files = record { numbers = numbers; descriptions = descriptions; files = files }

small_none : IsSmall no_debt
small_none = record { numbers = omega arith; descriptions = omega arith; files = omega arith }

module _ (number backend file description : ℕ) where
  small_number : IsSmall (owed (number ∷ []) [] [])
  small_number = record { numbers = omega arith; descriptions = omega arith; files = omega arith }

  small_open : IsSmall (owed (number ∷ []) ((backend, description) ∷ []) [])
  small_open = record { numbers = omega arith; descriptions = omega arith; files = omega arith }

  small_made : IsSmall (owed (number ∷ []) ((backend, description) ∷ []) ((backend, file) ∷ []))
  small_made = record { numbers = omega arith; descriptions = omega arith; files = omega arith }

  small_description : IsSmall (owed [] ((backend, description) ∷ []) [])
  small_description = record { numbers = omega arith; descriptions = omega arith; files = omega arith }

  small_file : IsSmall (owed [] [] ((backend, file) ∷ []))
  small_file = record { numbers = omega arith; descriptions = omega arith; files = omega arith }

-- to settle leaves no more
filtered : {X : Type 0} (test : X → Bool) (xs : List X) → length (filter test xs) ≤ length xs
filtered test [] = omega arith
filtered test (x ∷ xs) = by_test (test x) (filtered test xs) where
  by_test : (keep : Bool) → length (filter test xs) ≤ length xs → length (cond keep (x ∷ filter test xs) (filter test xs)) ≤ length (x ∷ xs)
  by_test true h = omega (arith, h)
  by_test false h = omega (arith, h)

module _ (debt : Debt) (small : IsSmall debt) where
  small_but : (number : ℕ) → IsSmall (without_number debt number)
  small_but number = record { numbers = omega (arith, small.numbers, filtered (λ (n : ℕ). not (n == number)) debt.numbers); descriptions = small.descriptions; files = small.files }

  small_released : (backend id : ℕ) → IsSmall (without_description debt backend id)
  small_released backend id = record { numbers = small.numbers; descriptions = omega (arith, small.descriptions, filtered (λ (o : ℕ × ℕ). not (o.0 == backend && o.1 == id)) debt.descriptions); files = small.files }

  small_unlinked : (backend id : ℕ) → IsSmall (without_file debt backend id)
  small_unlinked backend id = record { numbers = small.numbers; descriptions = small.descriptions; files = omega (arith, small.files, filtered (λ (o : ℕ × ℕ). not (o.0 == backend && o.1 == id)) debt.files) }

  small_if : (b : Bool) (other : Debt) → IsSmall other → IsSmall (if b then other else debt)
  small_if true other h = h
  small_if false other h = small

  -- A failure frees the number, and leaves what else is owed.
  drops_few : (number : ℕ) (error : Errno) → OwesFew debt (drops number error)
  drops_few number error = step_few debt DescriptorsCell (DescriptorsOp (fd.Drop number)) (λ told. fails error) small (λ told. reply_few _ _ (small_if (is_answered told) (without_number debt number) (small_but number)))

  unless_few : (number : ℕ) (fault : Option Errno) (p : Plan) → OwesFew debt p → OwesFew debt (unless_drops number fault p)
  unless_few number (Some error) p h = drops_few number error
  unless_few number None p h = h

  released_few : (backend description : ℕ) (given : Reply) → OwesFew debt (releases backend description given)
  released_few backend description given = step_few debt (cell_of_id backend description) (FilesOp (file_op.Release description)) _ small (λ told. reply_few _ _ (small_if (is_answered told) (without_description debt backend description) (small_released backend description)))

-- the number is filled, or freed
filled_few : (debt paid : Debt) → IsSmall debt → IsSmall paid → (number : ℕ) (fault : Option Errno) → OwesFew (unless_told_fault fault debt paid) (unless_drops number fault (replies (reply.Fd number)))
filled_few debt paid small paid_small number (Some error) = drops_few debt small number error
filled_few debt paid small paid_small number None = reply_few paid (reply.Fd number) paid_small

module _ (number : ℕ) where
  abbrev holds : Debt
  holds = owed (number ∷ []) [] []

  holds_small : IsSmall holds
  holds_small = small_number number 0 0 0

  fills_file_few : (backend description : ℕ) → OwesFew (owed (number ∷ []) ((backend, description) ∷ []) []) (fills number (fd.FillFile number backend description))
  fills_file_few backend description =
      let debt : Debt = owed (number ∷ []) ((backend, description) ∷ []) [] in
      let small : IsSmall debt = small_open number backend 0 description in
      step_few debt DescriptorsCell (DescriptorsOp (fd.FillFile number backend description)) (λ told. unless_drops number (fault_in told) (replies (reply.Fd number))) small (λ told.
      filled_few debt (without_description (without_number debt number) backend description) small (small_released (without_number debt number) (small_but debt small number) backend description) number (fault_in told))

  fills_directory_few : (backend id : ℕ) → OwesFew holds (fills number (fd.FillDir number backend id))
  fills_directory_few backend id =
      step_few holds DescriptorsCell (DescriptorsOp (fd.FillDir number backend id)) (λ told. unless_drops number (fault_in told) (replies (reply.Fd number))) holds_small (λ told.
      filled_few holds (without_number holds number) holds_small (small_but holds holds_small number) number (fault_in told))

  attached_few : (backend : ℕ) (told : StepAnswer) (found : Option ℕ) → OwesFew (with_description holds (of_backend backend found)) (attached_by number backend told found)
  attached_few backend told None = drops_few holds holds_small number _
  attached_few backend told (Some description) = fills_file_few backend description

directory_few : (request : OpenRequest) (there : Spot) → OwesFew (holds request.number) (opens_directory request there)
directory_few request there = unless_few (holds request.number) (holds_small request.number) request.number (directory_fault request.flags) (fills request.number (fd.FillDir request.number there.backend there.directory)) (fills_directory_few request.number there.backend there.directory)

file_few : (request : OpenRequest) (backend file : ℕ) → OwesFew (holds request.number) (opens_file request backend file)
file_few request backend file =
    unless_few (holds request.number) (holds_small request.number) request.number (file_fault request.flags request.slash) _
    (step_few (holds request.number) (cell_of_id backend file) (FilesOp (file_op.Attach file _ request.flags.trunc)) (attached_plan request.number backend) (holds_small request.number) (λ told. attached_few request.number backend told (description_in told)))

same : (n : ℕ) → (n == n) ≡ true
same n = grind (arith, nat_tests)

but_of_one : (backend id : ℕ) → but_of backend id ((backend, id) ∷ []) ≡ []
but_of_one backend id =
    ap (λ (b : Bool). cond (not (b && (id == id))) ((backend, id) ∷ []) []) (same backend)
    ∙ ap (λ (b : Bool). cond (not b) ((backend, id) ∷ []) []) (same id)

few_as : (p : Plan) (debt other : Debt) → debt ≡ other → OwesFew other p → OwesFew debt p
few_as p debt other e h = subst (λ (d : Debt). OwesFew d p) (sym e) h

module _ (follow : OpenRequest → Station → OpenRoute → Plan) (on : (request : OpenRequest) (from : Station) (route : OpenRoute) → OwesFew (holds request.number) (follow request from route)) where
  follows_few : (links : ℕ) (request : OpenRequest) (names : ℕ) (here : Spot) (text : List ℕ) → OwesFew (holds request.number) (follows follow links request names here text)
  follows_few zero request names here text = drops_few (holds request.number) (holds_small request.number) request.number Eloop
  follows_few (suc links) request names here text = on _ (station names links (start_of text here)) (route_to text)

  found_few : (request : OpenRequest) (here : Station) (node : Node) → OwesFew (holds request.number) (found_plan follow request here node)
  found_few request here (Dir id) = directory_few request (spot_beside here.spot id)
  found_few request here (Mount backend) = directory_few request (root_of backend)
  found_few request here (FileNode file) = file_few request here.spot.backend file
  found_few request here (Link id text) = unless_few (holds request.number) (holds_small request.number) request.number (link_fault request.flags request.slash) _ (follows_few here.links request here.names here.spot text)

  meant_few : (request : OpenRequest) (here : Station) (found : Result Node Errno) → OwesFew (holds request.number) (meant_plan follow request here found)
  meant_few request here (Ok node) = found_few request here node
  meant_few request here (Err error) = drops_few (holds request.number) (holds_small request.number) request.number error

  module _ (request : OpenRequest) (here : Station) (file description : ℕ) where
    abbrev of_here : ℕ
    of_here = here.spot.backend

    abbrev opened : Debt
    opened = owed (request.number ∷ []) ((of_here, description) ∷ []) []

    abbrev made : Debt
    made = owed (request.number ∷ []) ((of_here, description) ∷ []) ((of_here, file) ∷ [])

    opened_small : IsSmall opened
    opened_small = small_open request.number of_here file description

    made_is_small : IsSmall made
    made_is_small = small_made request.number of_here file description

    module _ (found : Result Node Errno) where
      abbrev released_plan : StepAnswer → Plan
      released_plan told = unless_drops request.number (fault_in told) (meant_plan follow request here found)

      freed_few : (told : StepAnswer) → OwesFew (debt_after opened (cell_of_id of_here description) (FilesOp (file_op.Release description)) told) (released_plan told)
      freed_few (Answered given) = few_as (released_plan (Answered given)) _ (holds request.number) (ap (λ (ds : List (ℕ × ℕ)). owed (request.number ∷ []) ds []) (but_of_one of_here description)) (unless_few (holds request.number) (holds_small request.number) request.number (fault_in (Answered given)) _ (meant_few request here found))
      freed_few Cancelled = drops_few opened opened_small request.number _
      freed_few Closed = drops_few opened opened_small request.number _

      abbrev release_plan : Plan
      release_plan = steps (cell_of_id of_here description) (FilesOp (file_op.Release description)) released_plan

      release_few : OwesFew opened release_plan
      release_few = step_few opened (cell_of_id of_here description) (FilesOp (file_op.Release description)) released_plan opened_small freed_few

      unlinked_few : (told : StepAnswer) → OwesFew (debt_after made (cell_of_id of_here file) (FilesOp (file_op.Unlinked file)) told) (unlinked_plan follow request here description found told)
      unlinked_few (Answered given) = few_as (unlinked_plan follow request here description found (Answered given)) _ opened (ap (λ (fs : List (ℕ × ℕ)). owed (request.number ∷ []) ((of_here, description) ∷ []) fs) (but_of_one of_here file)) (unless_few opened opened_small request.number (fault_in (Answered given)) release_plan release_few)
      unlinked_few Cancelled = drops_few made made_is_small request.number _
      unlinked_few Closed = drops_few made made_is_small request.number _

      unmakes_few : OwesFew made (unmakes follow request here file description found)
      unmakes_few = step_few made (cell_of_id of_here file) (FilesOp (file_op.Unlinked file)) (unlinked_plan follow request here description found) made_is_small unlinked_few

    module _ (name : List ℕ) where
      abbrev adding : StoreOp
      adding = NamesOp (name_op.Addfile here.spot.directory name file)

      added_few : (told : StepAnswer) → OwesFew (debt_after made (NamesCell of_here) adding told) (added_plan follow request here file description told)
      added_few (Answered (NamesAnswer answer.Gone)) = unmakes_few (Err Enoent)
      added_few (Answered (NamesAnswer answer.Absent)) = drops_few made made_is_small request.number _
      added_few (Answered (NamesAnswer (answer.Found node))) = drops_few made made_is_small request.number _
      added_few (Answered (NamesAnswer (answer.MadeDir id))) = drops_few made made_is_small request.number _
      added_few (Answered (NamesAnswer (answer.MadeLink id))) = drops_few made made_is_small request.number _
      added_few (Answered (NamesAnswer (answer.Taken node))) = unmakes_few (Ok node)
      added_few (Answered (NamesAnswer answer.Done)) = few_as (fills request.number (fd.FillFile request.number of_here description)) _ opened (ap (λ (fs : List (ℕ × ℕ)). owed (request.number ∷ []) ((of_here, description) ∷ []) fs) (but_of_one of_here file)) (fills_file_few request.number of_here description)
      added_few (Answered (NamesAnswer (answer.RemovedFile other))) = drops_few made made_is_small request.number _
      added_few (Answered (NamesAnswer answer.RemovedLink)) = drops_few made made_is_small request.number _
      added_few (Answered (NamesAnswer answer.Same)) = drops_few made made_is_small request.number _
      added_few (Answered (NamesAnswer (answer.Over other))) = drops_few made made_is_small request.number _
      added_few (Answered (NamesAnswer answer.Moved)) = drops_few made made_is_small request.number _
      added_few (Answered (NamesAnswer (answer.Names names))) = drops_few made made_is_small request.number _
      added_few (Answered (NamesAnswer (answer.Fault error))) = drops_few made made_is_small request.number _
      added_few (Answered (FilesAnswer given)) = drops_few made made_is_small request.number _
      added_few (Answered (DescriptorsAnswer given)) = drops_few made made_is_small request.number _
      added_few Cancelled = drops_few made made_is_small request.number _
      added_few Closed = drops_few made made_is_small request.number _

  made_few : (request : OpenRequest) (here : Station) (name : List ℕ) (told : StepAnswer) (given : Option (ℕ × ℕ)) → OwesFew (with_made (holds request.number) here.spot.backend given) (made_by follow request here name told given)
  made_few request here name told None = drops_few (holds request.number) (holds_small request.number) request.number _
  made_few request here name told (Some ids) = step_few (made request here ids.0 ids.1) (NamesCell here.spot.backend) (NamesOp (name_op.Addfile here.spot.directory name ids.0)) (added_plan follow request here ids.0 ids.1) (made_is_small request here ids.0 ids.1) (added_few request here ids.0 ids.1 name)

  makes_few : (request : OpenRequest) (here : Station) (name : List ℕ) → OwesFew (holds request.number) (makes follow request here name)
  makes_few request here name = step_few (holds request.number) (FilesCell here.spot.backend _) (FilesOp (file_op.Make _)) (made_plan follow request here name) (holds_small request.number) (λ told. made_few request here name told (file_in told))

  looked_few : (request : OpenRequest) (here : Station) (name : List ℕ) (found : Result (Option Node) Errno) → OwesFew (holds request.number) (looked_plan follow request here name found)
  looked_few request here name (Err error) = drops_few (holds request.number) (holds_small request.number) request.number error
  looked_few request here name (Ok None) = unless_few (holds request.number) (holds_small request.number) request.number (absent_fault request.flags request.slash) (makes follow request here name) (makes_few request here name)
  looked_few request here name (Ok (Some node)) = found_few request here node

  looks_few : (request : OpenRequest) (names links : ℕ) (here : Spot) (name : List ℕ) → OwesFew (holds request.number) (looks follow request names links here name)
  looks_few request zero links here name = drops_few (holds request.number) (holds_small request.number) request.number Enametoolong
  looks_few request (suc names) links here name = step_few (holds request.number) (NamesCell here.backend) (NamesOp (name_op.Look here.directory name)) (λ told. looked_plan follow request (station names links here) name (node_in told)) (holds_small request.number) (λ told. looked_few request (station names links here) name (node_in told))

  end_few : (request : OpenRequest) (name : Option (List ℕ)) (end : Result End Errno) → OwesFew (holds request.number) (open_end follow request name end)
  end_few request name (Err error) = drops_few (holds request.number) (holds_small request.number) request.number error
  end_few request None (Ok (Directory there)) = directory_few request there.spot
  end_few request (Some name) (Ok (Directory there)) = looks_few request there.names there.links there.spot name
  end_few request name (Ok (File backend file)) = drops_few (holds request.number) (holds_small request.number) request.number Enotdir
  end_few request name (Ok (LinkText text)) = drops_few (holds request.number) (holds_small request.number) request.number Enotdir

opens_along_few : (walks_left : ℕ) (request : OpenRequest) (from : Station) (route : OpenRoute) → OwesFew (holds request.number) (opens_along walks_left request from route)
unfolding opens_along
opens_along_few zero request from route = drops_few (holds request.number) (holds_small request.number) request.number Eloop
opens_along_few (suc walks_left) request from route = walks_few (holds request.number) (holds_small request.number) from route.route (open_end (opens_along walks_left) request route.name) (λ end. end_few (opens_along walks_left) (opens_along_few walks_left) request route.name end)

from_few : (debt : Debt) (small : IsSmall debt) (origin : Option Base) (next : Result Spot Errno → Plan) → ((start : Result Spot Errno) → OwesFew debt (next start)) → OwesFew debt (from_base origin next)
from_few debt small None next each = each (Ok (root_of 0))
from_few debt small (Some Cwd) next each = step_few debt DescriptorsCell (DescriptorsOp fd.Cwd) _ small (λ told. each (spot_in told))
from_few debt small (Some (Fd number)) next each = step_few debt DescriptorsCell (DescriptorsOp (fd.Look number)) _ small (λ told. each (spot_in told))

walks_in_few : (debt : Debt) (small : IsSmall debt) (route : Route) (next : Result End Errno → Plan) → ((end : Result End Errno) → OwesFew debt (next end)) → (start : Result Spot Errno) → OwesFew debt (walks_in route next start)
walks_in_few debt small route next each (Ok spot) = walks_few debt small (start_in spot) route next each
walks_in_few debt small route next each (Err error) = each (Err error)

in_few : (request : OpenRequest) (route : OpenRoute) (start : Result Spot Errno) → OwesFew (holds request.number) (opens_in request route start)
in_few request route (Ok spot) = opens_along_few open_walks_max request (start_in spot) route
in_few request route (Err error) = drops_few (holds request.number) (holds_small request.number) request.number error

by_few : (number : ℕ) (flags : OpenFlags) (origin : Option Base) (route : Result OpenRoute Errno) → OwesFew (holds number) (opens_by number flags origin route)
by_few number flags origin (Err error) = drops_few (holds number) (holds_small number) number error
by_few number flags origin (Ok route) = from_few (holds number) (holds_small number) origin (opens_in (request_of number flags route.route.slash) route) (in_few (request_of number flags route.route.slash) route)

reserved_few : (flags : OpenFlags) (origin : Option Base) (route : Result OpenRoute Errno) (told : StepAnswer) → OwesFew (with_number no_debt (number_in told)) (reserved_plan flags origin route told)
reserved_few flags origin route (Answered (NamesAnswer given)) = reply_few _ _ small_none
reserved_few flags origin route (Answered (FilesAnswer given)) = reply_few _ _ small_none
reserved_few flags origin route (Answered (DescriptorsAnswer (fd_answer.Fd given))) = by_few given flags origin route
reserved_few flags origin route (Answered (DescriptorsAnswer (fd_answer.File home named))) = reply_few _ _ small_none
reserved_few flags origin route (Answered (DescriptorsAnswer (fd_answer.Dir home named))) = reply_few _ _ small_none
reserved_few flags origin route (Answered (DescriptorsAnswer fd_answer.Done)) = reply_few _ _ small_none
reserved_few flags origin route (Answered (DescriptorsAnswer (fd_answer.Last home named))) = reply_few _ _ small_none
reserved_few flags origin route (Answered (DescriptorsAnswer (fd_answer.FdLast given home named))) = reply_few _ _ small_none
reserved_few flags origin route (Answered (DescriptorsAnswer (fd_answer.Fault error))) = reply_few _ _ small_none
reserved_few flags origin route Cancelled = reply_few _ _ small_none
reserved_few flags origin route Closed = reply_few _ _ small_none

opens_few : (at : PathAt) (flags : OpenFlags) (fault : Option Errno) → OwesFew no_debt (unless_fault fault (steps DescriptorsCell (DescriptorsOp fd.Reserve) (reserved_plan flags at.base (open_route at.path))))
opens_few at flags (Some error) = reply_few _ _ small_none
opens_few at flags None = step_few no_debt DescriptorsCell (DescriptorsOp fd.Reserve) (reserved_plan flags at.base (open_route at.path)) small_none (λ told. reserved_few flags at.base (open_route at.path) told)

-- Numbers.

numbers_few : (told : StepAnswer) → OwesFew (with_description no_debt (last_in told)) (number_plan told)
numbers_few (Answered (NamesAnswer given)) = reply_few _ _ small_none
numbers_few (Answered (FilesAnswer given)) = reply_few _ _ small_none
numbers_few (Answered (DescriptorsAnswer (fd_answer.Fd given))) = reply_few _ _ small_none
numbers_few (Answered (DescriptorsAnswer (fd_answer.File home named))) = reply_few _ _ small_none
numbers_few (Answered (DescriptorsAnswer (fd_answer.Dir home named))) = reply_few _ _ small_none
numbers_few (Answered (DescriptorsAnswer fd_answer.Done)) = reply_few _ _ small_none
numbers_few (Answered (DescriptorsAnswer (fd_answer.Last home named))) = released_few _ (small_description 0 home 0 named) home named _
numbers_few (Answered (DescriptorsAnswer (fd_answer.FdLast given home named))) = released_few _ (small_description 0 home 0 named) home named _
numbers_few (Answered (DescriptorsAnswer (fd_answer.Fault error))) = reply_few _ _ small_none
numbers_few Cancelled = reply_few _ _ small_none
numbers_few Closed = reply_few _ _ small_none

copies_few : (told : StepAnswer) → OwesFew no_debt (number_plan told)
copies_few (Answered (NamesAnswer given)) = reply_few _ _ small_none
copies_few (Answered (FilesAnswer given)) = reply_few _ _ small_none
copies_few (Answered (DescriptorsAnswer (fd_answer.Fd given))) = reply_few _ _ small_none
copies_few (Answered (DescriptorsAnswer (fd_answer.File home named))) = reply_few _ _ small_none
copies_few (Answered (DescriptorsAnswer (fd_answer.Dir home named))) = reply_few _ _ small_none
copies_few (Answered (DescriptorsAnswer fd_answer.Done)) = reply_few _ _ small_none
copies_few (Answered (DescriptorsAnswer (fd_answer.Last home named))) = released_few no_debt small_none home named _
copies_few (Answered (DescriptorsAnswer (fd_answer.FdLast given home named))) = released_few no_debt small_none home named _
copies_few (Answered (DescriptorsAnswer (fd_answer.Fault error))) = reply_few _ _ small_none
copies_few Cancelled = reply_few _ _ small_none
copies_few Closed = reply_few _ _ small_none

-- The file of a descriptor.

file_use_few : (backend description : ℕ) (purpose : DataCall) → OwesFew no_debt (steps (cell_of_id backend description) (FilesOp (op_of_data purpose description)) (λ told. replies (reply_to told)))
file_use_few backend description (on_file.Read count) = step_few no_debt (cell_of_id backend description) (FilesOp (op_of_data (on_file.Read count) description)) (λ told. replies (reply_to told)) small_none (λ told. reply_few _ _ small_none)
file_use_few backend description (on_file.Pread count offset) = step_few no_debt (cell_of_id backend description) (FilesOp (op_of_data (on_file.Pread count offset) description)) (λ told. replies (reply_to told)) small_none (λ told. reply_few _ _ small_none)
file_use_few backend description (on_file.Write bytes) = step_few no_debt (cell_of_id backend description) (FilesOp (op_of_data (on_file.Write bytes) description)) (λ told. replies (reply_to told)) small_none (λ told. reply_few _ _ small_none)
file_use_few backend description (on_file.Pwrite bytes offset) = step_few no_debt (cell_of_id backend description) (FilesOp (op_of_data (on_file.Pwrite bytes offset) description)) (λ told. replies (reply_to told)) small_none (λ told. reply_few _ _ small_none)
file_use_few backend description (on_file.Seek offset whence) = step_few no_debt (cell_of_id backend description) (FilesOp (op_of_data (on_file.Seek offset whence) description)) (λ told. replies (reply_to told)) small_none (λ told. reply_few _ _ small_none)
file_use_few backend description (on_file.Ftruncate size) = step_few no_debt (cell_of_id backend description) (FilesOp (op_of_data (on_file.Ftruncate size) description)) (λ told. replies (reply_to told)) small_none (λ told. reply_few _ _ small_none)
file_use_few backend description on_file.Fstat = step_few no_debt (cell_of_id backend description) (FilesOp (op_of_data on_file.Fstat description)) (λ told. replies (reply_to told)) small_none (λ told. reply_few _ _ small_none)

use_few : (purpose : DataCall) (told : StepAnswer) → OwesFew no_debt (data_step_plan purpose told)
use_few purpose (Answered (NamesAnswer given)) = reply_few _ _ small_none
use_few purpose (Answered (FilesAnswer given)) = reply_few _ _ small_none
use_few purpose (Answered (DescriptorsAnswer (fd_answer.Fd given))) = reply_few _ _ small_none
use_few purpose (Answered (DescriptorsAnswer (fd_answer.File home named))) = file_use_few home named purpose
use_few purpose (Answered (DescriptorsAnswer (fd_answer.Dir home named))) = reply_few _ _ small_none
use_few purpose (Answered (DescriptorsAnswer fd_answer.Done)) = reply_few _ _ small_none
use_few purpose (Answered (DescriptorsAnswer (fd_answer.Last home named))) = reply_few _ _ small_none
use_few purpose (Answered (DescriptorsAnswer (fd_answer.FdLast given home named))) = reply_few _ _ small_none
use_few purpose (Answered (DescriptorsAnswer (fd_answer.Fault error))) = reply_few _ _ small_none
use_few purpose Cancelled = reply_few _ _ small_none
use_few purpose Closed = reply_few _ _ small_none

-- Names.

module _ (backend : ℕ) where
  after_few : (debt : Debt) → IsSmall debt → (told : StepAnswer) (lost : Option ℕ) → OwesFew debt (plan_after backend told lost)
  after_few debt small told None = reply_few _ _ small
  after_few debt small told (Some file) = step_few debt (cell_of_id backend file) (FilesOp (file_op.Unlinked file)) _ small (λ given. reply_few _ _ (small_if debt small (is_answered given) (without_file debt backend file) (small_unlinked debt small backend file)))

  lost_small : (lost : Option ℕ) → IsSmall (with_file no_debt backend lost)
  lost_small None = small_none
  lost_small (Some file) = small_file 0 backend file 0

  abbrev next_of : StepAnswer → Plan
  next_of told = plan_after backend told (unlinked_by told)

  last_few : (op : NameOp) → OwesFew no_debt (last_step backend op)
  last_few (name_op.Look id name) = step_few no_debt (NamesCell backend) (NamesOp (name_op.Look id name)) next_of small_none (λ told. after_few no_debt small_none told (unlinked_by told))
  last_few (name_op.Parent id) = step_few no_debt (NamesCell backend) (NamesOp (name_op.Parent id)) next_of small_none (λ told. after_few no_debt small_none told (unlinked_by told))
  last_few (name_op.Makedir id name) = step_few no_debt (NamesCell backend) (NamesOp (name_op.Makedir id name)) next_of small_none (λ told. after_few no_debt small_none told (unlinked_by told))
  last_few (name_op.Addlink id name text) = step_few no_debt (NamesCell backend) (NamesOp (name_op.Addlink id name text)) next_of small_none (λ told. after_few no_debt small_none told (unlinked_by told))
  last_few (name_op.Addfile id name file) = step_few no_debt (NamesCell backend) (NamesOp (name_op.Addfile id name file)) next_of small_none (λ told. after_few _ (small_if no_debt small_none (is_entered told) (without_file no_debt backend file) (small_unlinked no_debt small_none backend file)) told (unlinked_by told))
  last_few (name_op.Remfile id name slash) = step_few no_debt (NamesCell backend) (NamesOp (name_op.Remfile id name slash)) next_of small_none (λ told. after_few _ (lost_small (unlinked_by told)) told (unlinked_by told))
  last_few (name_op.Remdir id name) = step_few no_debt (NamesCell backend) (NamesOp (name_op.Remdir id name)) next_of small_none (λ told. after_few no_debt small_none told (unlinked_by told))
  last_few (name_op.Move from name to new_name slash) = step_few no_debt (NamesCell backend) (NamesOp (name_op.Move from name to new_name slash)) next_of small_none (λ told. after_few _ (lost_small (unlinked_by told)) told (unlinked_by told))
  last_few (name_op.List id start) = step_few no_debt (NamesCell backend) (NamesOp (name_op.List id start)) next_of small_none (λ told. after_few no_debt small_none told (unlinked_by told))

enters_few : (start : Result Spot Errno) → OwesFew no_debt (enters start)
enters_few (Ok there) = step_few no_debt DescriptorsCell (DescriptorsOp (fd.Setcwd there.backend there.directory)) _ small_none (λ told. reply_few _ _ small_none)
enters_few (Err error) = reply_few _ _ small_none

-- Calls.

abbrev IsFew : ℕ → Plan → Type 0
IsFew count p = OwesFew no_debt p

few_holds : Holds IsFew (λ backend. Unit {0})
few_holds = record {
  over = λ count given. reply_few _ given small_none;
  size = λ count backend file so. step_few no_debt (cell_of_id backend file) (FilesOp (file_op.Sizeof file)) _ small_none (λ told. reply_few _ _ small_none);
  last = λ count backend op so. last_few backend op;
  uses_files = λ number purpose. step_few no_debt DescriptorsCell (DescriptorsOp (fd.Look number)) (data_step_plan purpose) small_none (λ told. use_few purpose told);
  takes_numbers = λ number. step_few no_debt DescriptorsCell (DescriptorsOp (fd.Take number)) number_plan small_none (λ told. numbers_few told);
  copies_numbers = λ number. step_few no_debt DescriptorsCell (DescriptorsOp (fd.Copy number)) number_plan small_none (λ told. copies_few told);
  copies_onto = λ number target. step_few no_debt DescriptorsCell (DescriptorsOp (fd.Copyto number target)) number_plan small_none (λ told. numbers_few told);
  opens_paths = λ at flags. opens_few at flags (flags_fault flags);
  along = λ count origin route next each. from_few no_debt small_none origin (walks_in route next) (walks_in_few no_debt small_none route next (λ end. each end (any_end end)));
  sets = λ count there so. enters_few (Ok there);
  enters_numbers = λ number. from_few no_debt small_none (Some (Fd number)) enters enters_few;
}

few_now : (p : Program) (debt : Debt) → Few debt p → IsSmall debt
few_now (finished given) debt few = few
few_now (asks cell op next) debt few = few.0

few_along : (p : Program) (debt : Debt) (taken : List Step) → Few debt p → Begins p taken → IsSmall (debt_along debt taken)
few_along (finished over) debt [] few begins = few
few_along (finished over) debt (step ∷ taken) few begins = absurd begins
few_along (asks cell op next) debt [] few begins = few.0
few_along (asks cell op next) debt (step ∷ []) few (outcome, is) = subst (λ (s : Step). IsSmall (debt_by debt s.cell s.op s.outcome)) (sym is) (by_outcome outcome) where
  by_outcome : (outcome : Result StepAnswer AllocError) → IsSmall (debt_by debt cell op outcome)
  by_outcome (Ok told) = few_now (next told) (debt_after debt cell op told) (few.1 told)
  by_outcome (Err error) = few.0
few_along (asks cell op next) debt (step ∷ other ∷ taken) few (told, is, rest) =
    subst (λ (s : Step). IsSmall (debt_along (debt_by debt s.cell s.op s.outcome) (other ∷ taken))) (sym is) (few_along (next told) (debt_after debt cell op told) (other ∷ taken) (few.1 told) rest)

pub debts_are_small : DebtsAreSmall
debts_are_small version c taken begins = few_along (program version c) no_debt taken (each_call IsFew (λ backend. Unit {0}) few_holds version c).few begins
