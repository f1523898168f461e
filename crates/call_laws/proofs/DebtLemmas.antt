-- A call that has ended owes nothing.
use Rattle.path_walk.specs.declared.call.Base.{Base}
use Rattle.path_walk.specs.declared.call.Base.TheVariants.{Cwd, Fd}
use Rattle.path_walk.specs.declared.act.PathAt.{PathAt}
use Rattle.std.proofs.Common.{arith, ◌≡◌, ℕ, ◌==◌, ◌&&◌, not, zero, suc, Bool, true, false, cond, if◌then◌else◌, List, [], ◌∷◌, Option, None, Some, Result, Ok, Err, refl, sym, ap, subst, ◌∙◌}
use Rattle.std.proofs.lemmas.Bool.Decides.{nat_tests}
use Rattle.wf_core.specs.declared.errno.Errno.{Errno}
use Rattle.wf_core.specs.declared.errno.Errno.TheVariants.{Enoent, Eloop, Enotdir, Enametoolong}
use Rattle.name_store.specs.declared.operation.Node.{Node}
use Rattle.name_store.specs.declared.operation.Node.TheVariants.{Dir, Link, File as FileNode, Mount}
use Rattle.name_store.specs.declared.operation.NameOp.{NameOp}
use Rattle.name_store.specs.declared.operation.NameOp.TheVariants as name_op
use Rattle.name_store.specs.declared.operation.NameAnswer.TheVariants as answer
use Rattle.file_store.specs.declared.file_operation.FileOp.TheVariants as file_op
use Rattle.file_store.specs.declared.file_operation.FileAnswer.TheVariants as file_answer
use Rattle.file_store.specs.declared.descriptor_operation.FdOp.TheVariants as fd
use Rattle.file_store.specs.declared.descriptor_operation.FdAnswer.TheVariants as fd_answer
use Rattle.path_walk.specs.declared.part.Part.{Part}
use Rattle.path_walk.specs.declared.part.Part.TheVariants.{Here, Up, Down, TooLong}
use Rattle.path_walk.specs.declared.route.Manner.{Manner}
use Rattle.path_walk.specs.declared.route.Spot.{Spot}
use Rattle.path_walk.specs.declared.route.Station.{Station}
use Rattle.path_walk.specs.declared.route.Route.{Route}
use Rattle.path_walk.specs.declared.route.End.{End}
use Rattle.path_walk.specs.declared.route.End.TheVariants.{Directory, File, LinkText}
use Rattle.path_walk.specs.declared.open_request.OpenFlags.{OpenFlags}
use Rattle.path_walk.specs.declared.open_request.OpenRequest.{OpenRequest}
use Rattle.path_walk.specs.declared.open_request.OpenRoute.{OpenRoute}
use Rattle.path_walk.specs.declared.descriptor_call.DataCall.{DataCall}
use Rattle.path_walk.specs.declared.descriptor_call.DataCall.TheVariants as on_file
use Rattle.path_walk.specs.declared.step.CellId.{CellId}
use Rattle.path_walk.specs.declared.step.CellId.TheVariants.{Names as NamesCell, Files as FilesCell, Descriptors as DescriptorsCell}
use Rattle.path_walk.specs.declared.step.StoreOp.{StoreOp}
use Rattle.path_walk.specs.declared.step.StoreOp.TheVariants.{Names as NamesOp, Files as FilesOp, Descriptors as DescriptorsOp}
use Rattle.path_walk.specs.declared.step.StoreAnswer.TheVariants.{Names as NamesAnswer, Files as FilesAnswer, Descriptors as DescriptorsAnswer}
use Rattle.path_walk.specs.declared.step.StepAnswer.{StepAnswer}
use Rattle.path_walk.specs.declared.step.StepAnswer.TheVariants.{Answered, Cancelled, Closed}
use Rattle.path_walk.specs.declared.call.Reply.{Reply}
use Rattle.path_walk.specs.declared.call.Reply.TheVariants as reply
use Rattle.path_walk.specs.PathMeaning.{Way, Course, ends, goes, root_of, spot_beside, start_of, station, start_in}
use Rattle.path_walk.specs.Programs.{Program, finished, asks, Step, Takes}
use Rattle.path_walk.specs.Walk.{course_on, node_in, program_on, walk}
use Rattle.path_walk.specs.Plans.{Plan, replies, steps, walks, cell_of_id, fails, fault_in, program_of, reply_to, unless_fault, from_base, spot_in, walks_in}
use Rattle.path_walk.specs.DescriptorCalls.{number_plan, op_of_data, releases, data_step_plan, enters}
use Rattle.path_walk.specs.OpenPlan.{absent_fault, added_plan, attached_by, attached_plan, description_in, directory_fault, drops, file_fault, file_in, fills, flags_fault, follows, found_plan, link_fault, looked_plan, looks, made_by, made_plan, makes, meant_plan, open_end, open_route, open_walks_max, opens_along, opens_by, opens_directory, opens_file, request_of, reserved_plan, route_to, unless_drops, unlinked_plan, unmakes, opens_in}
use Rattle.path_walk.specs.Calls.{last_step, plan_after, unlinked_by}
use Rattle.path_walk.specs.Posix.{program}
use Rattle.path_walk.proofs.Plans.{Holds, any_end, each_call}
use Rattle.call_laws.specs.DebtLaws.{AreOrdinary, Debt, DebtsArePaid, IsOrdinary, IsOrdinaryOutcome, but, but_of, debt_after, debt_along, debt_by, is_entered, last_in, no_debt, number_in, of_backend, unless_told_fault, with_description, with_file, with_made, with_number, without_description, without_file, without_number}

-- What a program pays.

abbrev Pays : Debt → Program → Type 0
Pays debt (finished given) = debt ≡ no_debt
Pays debt (asks cell op next) = (told : StepAnswer) → IsOrdinary op told → Pays (debt_after debt cell op told) (next told)

record Paid (debt : Debt) (p : Plan) : Type 0 where
  pays : Pays debt (program_of p)

paid_as : (p : Plan) (debt other : Debt) → debt ≡ other → Paid other p → Paid debt p
paid_as p debt other e h = subst (λ (d : Debt). Paid d p) (sym e) h

reply_paid : (given : Reply) → Paid no_debt (replies given)
reply_paid given = record { pays = refl }

reply_pays : (given : Reply) (debt : Debt) → debt ≡ no_debt → Paid debt (replies given)
reply_pays given debt e = record { pays = e }

step_pays : (debt : Debt) (cell : CellId) (op : StoreOp) (next : StepAnswer → Plan) → ((told : StepAnswer) → IsOrdinary op told → Paid (debt_after debt cell op told) (next told)) → Paid debt (steps cell op next)
step_pays debt cell op next each = record { pays = λ told h. (each told h).pays }

course_pays : (debt : Debt) (c : Course) (next : Way → Program) (over : Result End Errno → Program) → ((w : Way) → Pays debt (next w)) → ((end : Result End Errno) → Pays debt (over end)) → Pays debt (program_on c next over)
course_pays debt (ends end) next over on stop = stop end
course_pays debt (goes w) next over on stop = on w

-- `..` takes no step in the root
up_pays : (debt : Debt) (is_root : Bool) (rooted asked : Program) → Pays debt rooted → Pays debt asked → Pays debt (if is_root then rooted else asked)
up_pays debt true rooted asked h k = h
up_pays debt false rooted asked h k = k

walk_pays : (debt : Debt) (names : ℕ) (parts : List Part) (manner : Manner) (slash : Bool) (links : ℕ) (here : Spot) (over : Result End Errno → Program) → ((end : Result End Errno) → Pays debt (over end)) → Pays debt (walk names parts manner slash links here over)
walk_pays debt names [] manner slash links here over stop = stop _
walk_pays debt names (Here ∷ rest) manner slash links here over stop = walk_pays debt names rest manner slash links here over stop
walk_pays debt names (TooLong ∷ rest) manner slash links here over stop = stop _
walk_pays debt zero (Up ∷ rest) manner slash links here over stop = stop _
walk_pays debt zero (Down name ∷ rest) manner slash links here over stop = stop _
walk_pays debt (suc names) (Up ∷ rest) manner slash links here over stop =
    up_pays debt (here.directory == 0) (walk names rest manner slash links (root_of 0) over) (asks (NamesCell here.backend) (NamesOp (name_op.Parent here.directory)) (λ told. program_on (course_on manner (node_in told) rest slash links here) (λ w. walk names w.rest manner w.slash w.links w.spot over) over)) (walk_pays debt names rest manner slash links (root_of 0) over stop)
    (λ told h. course_pays debt (course_on manner (node_in told) rest slash links here) (λ w. walk names w.rest manner w.slash w.links w.spot over) over (λ w. walk_pays debt names w.rest manner w.slash w.links w.spot over stop) stop)
walk_pays debt (suc names) (Down name ∷ rest) manner slash links here over stop =
    λ told h. course_pays debt (course_on manner (node_in told) rest slash links here) (λ w. walk names w.rest manner w.slash w.links w.spot over) over (λ w. walk_pays debt names w.rest manner w.slash w.links w.spot over stop) stop

along_pays : (debt : Debt) (from : Station) (route : Route) (next : Result End Errno → Plan) → ((end : Result End Errno) → Paid debt (next end)) → Paid debt (walks from route next)
along_pays debt from route next each = record { pays = walk_pays debt from.names route.parts route.manner route.slash from.links from.spot (λ end. program_of (next end)) (λ end. (each end).pays) }

-- What is owed in turn.

same : (n : ℕ) → (n == n) ≡ true
same n = grind (arith, nat_tests)

but_one : (n : ℕ) → but n (n ∷ []) ≡ []
but_one n = ap (λ (b : Bool). cond (not b) (n ∷ []) []) (same n)

but_of_one : (backend id : ℕ) → but_of backend id ((backend, id) ∷ []) ≡ []
but_of_one backend id =
    ap (λ (b : Bool). cond (not (b && (id == id))) ((backend, id) ∷ []) []) (same backend)
    ∙ ap (λ (b : Bool). cond (not b) ((backend, id) ∷ []) []) (same id)

abbrev owed : List ℕ → List (ℕ × ℕ) → List (ℕ × ℕ) → Debt
owed numbers descriptions files = record { numbers = numbers; descriptions = descriptions; files = files }

abbrev holds : ℕ → Debt
holds number = owed (number ∷ []) [] []

abbrev holds_open : ℕ → ℕ → ℕ → Debt
holds_open number backend description = owed (number ∷ []) ((backend, description) ∷ []) []

abbrev holds_made : ℕ → ℕ → ℕ → ℕ → Debt
holds_made number backend file description = owed (number ∷ []) ((backend, description) ∷ []) ((backend, file) ∷ [])

number_paid : (number : ℕ) → without_number (holds number) number ≡ no_debt
number_paid number = ap (λ (ns : List ℕ). owed ns [] []) (but_one number)

description_paid : (number backend description : ℕ) → without_description (holds_open number backend description) backend description ≡ holds number
description_paid number backend description = ap (λ (ds : List (ℕ × ℕ)). owed (number ∷ []) ds []) (but_of_one backend description)

both_paid : (number backend description : ℕ) → without_description (without_number (holds_open number backend description) number) backend description ≡ no_debt
both_paid number backend description =
    ap (λ (ns : List ℕ). owed ns (but_of backend description ((backend, description) ∷ [])) []) (but_one number)
    ∙ ap (λ (ds : List (ℕ × ℕ)). owed [] ds []) (but_of_one backend description)

file_paid : (number backend file description : ℕ) → without_file (holds_made number backend file description) backend file ≡ holds_open number backend description
file_paid number backend file description = ap (λ (fs : List (ℕ × ℕ)). owed (number ∷ []) ((backend, description) ∷ []) fs) (but_of_one backend file)

-- A reserved number.

module _ (number : ℕ) where
  dropped_pays : (error : Errno) (told : StepAnswer) → IsOrdinary (DescriptorsOp (fd.Drop number)) told → Paid (debt_after (holds number) DescriptorsCell (DescriptorsOp (fd.Drop number)) told) (fails error)
  dropped_pays error (Answered given) h = reply_pays (reply.Fault error) (without_number (holds number) number) (number_paid number)
  dropped_pays error Cancelled h = absurd h
  dropped_pays error Closed h = absurd h

  drops_pay : (error : Errno) → Paid (holds number) (drops number error)
  drops_pay error = step_pays (holds number) DescriptorsCell (DescriptorsOp (fd.Drop number)) (λ told. fails error) (dropped_pays error)

  unless_pay : (fault : Option Errno) (p : Plan) → Paid (holds number) p → Paid (holds number) (unless_drops number fault p)
  unless_pay (Some error) p h = drops_pay error
  unless_pay None p h = h

  file_filled : (backend description : ℕ) (told : StepAnswer) → IsOrdinary (DescriptorsOp (fd.FillFile number backend description)) told → fault_in told ≡ None
  file_filled backend description (Answered (NamesAnswer given)) h = absurd h
  file_filled backend description (Answered (FilesAnswer given)) h = absurd h
  file_filled backend description (Answered (DescriptorsAnswer (fd_answer.Fd given))) h = refl
  file_filled backend description (Answered (DescriptorsAnswer (fd_answer.File home named))) h = refl
  file_filled backend description (Answered (DescriptorsAnswer (fd_answer.Dir home named))) h = refl
  file_filled backend description (Answered (DescriptorsAnswer fd_answer.Done)) h = refl
  file_filled backend description (Answered (DescriptorsAnswer (fd_answer.Last home named))) h = refl
  file_filled backend description (Answered (DescriptorsAnswer (fd_answer.FdLast given home named))) h = refl
  file_filled backend description (Answered (DescriptorsAnswer (fd_answer.Fault error))) h = absurd h
  file_filled backend description Cancelled h = absurd h
  file_filled backend description Closed h = absurd h

  directory_filled : (backend id : ℕ) (told : StepAnswer) → IsOrdinary (DescriptorsOp (fd.FillDir number backend id)) told → fault_in told ≡ None
  directory_filled backend id (Answered (NamesAnswer given)) h = absurd h
  directory_filled backend id (Answered (FilesAnswer given)) h = absurd h
  directory_filled backend id (Answered (DescriptorsAnswer (fd_answer.Fd given))) h = refl
  directory_filled backend id (Answered (DescriptorsAnswer (fd_answer.File home named))) h = refl
  directory_filled backend id (Answered (DescriptorsAnswer (fd_answer.Dir home named))) h = refl
  directory_filled backend id (Answered (DescriptorsAnswer fd_answer.Done)) h = refl
  directory_filled backend id (Answered (DescriptorsAnswer (fd_answer.Last home named))) h = refl
  directory_filled backend id (Answered (DescriptorsAnswer (fd_answer.FdLast given home named))) h = refl
  directory_filled backend id (Answered (DescriptorsAnswer (fd_answer.Fault error))) h = absurd h
  directory_filled backend id Cancelled h = absurd h
  directory_filled backend id Closed h = absurd h

  fills_file_pay : (backend description : ℕ) → Paid (holds_open number backend description) (fills number (fd.FillFile number backend description))
  fills_file_pay backend description =
      let debt : Debt = holds_open number backend description in
      let paid : Debt = without_description (without_number debt number) backend description in
      step_pays debt DescriptorsCell (DescriptorsOp (fd.FillFile number backend description)) (λ told. unless_drops number (fault_in told) (replies (reply.Fd number))) (λ told h.
      subst (λ (f : Option Errno). Paid (unless_told_fault f debt paid) (unless_drops number f (replies (reply.Fd number)))) (sym (file_filled backend description told h)) (reply_pays (reply.Fd number) paid (both_paid number backend description)))

  fills_directory_pay : (backend id : ℕ) → Paid (holds number) (fills number (fd.FillDir number backend id))
  fills_directory_pay backend id =
      step_pays (holds number) DescriptorsCell (DescriptorsOp (fd.FillDir number backend id)) (λ told. unless_drops number (fault_in told) (replies (reply.Fd number))) (λ told h.
      subst (λ (f : Option Errno). Paid (unless_told_fault f (holds number) (without_number (holds number) number)) (unless_drops number f (replies (reply.Fd number)))) (sym (directory_filled backend id told h)) (reply_pays (reply.Fd number) (without_number (holds number) number) (number_paid number)))

  attached_pays : (backend : ℕ) (told : StepAnswer) (found : Option ℕ) → Paid (with_description (holds number) (of_backend backend found)) (attached_by number backend told found)
  attached_pays backend told None = drops_pay _
  attached_pays backend told (Some description) = fills_file_pay backend description

directory_pays : (request : OpenRequest) (there : Spot) → Paid (holds request.number) (opens_directory request there)
directory_pays request there = unless_pay request.number (directory_fault request.flags) (fills request.number (fd.FillDir request.number there.backend there.directory)) (fills_directory_pay request.number there.backend there.directory)

file_pays : (request : OpenRequest) (backend file : ℕ) → Paid (holds request.number) (opens_file request backend file)
file_pays request backend file =
    unless_pay request.number (file_fault request.flags request.slash) _
    (step_pays (holds request.number) (cell_of_id backend file) (FilesOp (file_op.Attach file _ request.flags.trunc)) (attached_plan request.number backend) (λ told h. attached_pays request.number backend told (description_in told)))

file_unlinked : (file : ℕ) (told : StepAnswer) → IsOrdinary (FilesOp (file_op.Unlinked file)) told → fault_in told ≡ None
file_unlinked file (Answered (NamesAnswer given)) h = absurd h
file_unlinked file (Answered (FilesAnswer file_answer.Gone)) h = absurd h
file_unlinked file (Answered (FilesAnswer (file_answer.Size size))) h = absurd h
file_unlinked file (Answered (FilesAnswer (file_answer.Fault error))) h = absurd h
file_unlinked file (Answered (FilesAnswer (file_answer.Count count))) h = absurd h
file_unlinked file (Answered (FilesAnswer (file_answer.File other made))) h = absurd h
file_unlinked file (Answered (FilesAnswer (file_answer.Desc made))) h = absurd h
file_unlinked file (Answered (FilesAnswer file_answer.Done)) h = refl
file_unlinked file (Answered (FilesAnswer (file_answer.Bytes bytes))) h = absurd h
file_unlinked file (Answered (FilesAnswer (file_answer.At at))) h = absurd h
file_unlinked file (Answered (DescriptorsAnswer given)) h = absurd h
file_unlinked file Cancelled h = absurd h
file_unlinked file Closed h = absurd h

module _ (follow : OpenRequest → Station → OpenRoute → Plan) (on : (request : OpenRequest) (from : Station) (route : OpenRoute) → Paid (holds request.number) (follow request from route)) where
  follows_pay : (links : ℕ) (request : OpenRequest) (names : ℕ) (here : Spot) (text : List ℕ) → Paid (holds request.number) (follows follow links request names here text)
  follows_pay zero request names here text = drops_pay request.number Eloop
  follows_pay (suc links) request names here text = on _ (station names links (start_of text here)) (route_to text)

  found_pays : (request : OpenRequest) (here : Station) (node : Node) → Paid (holds request.number) (found_plan follow request here node)
  found_pays request here (Dir id) = directory_pays request (spot_beside here.spot id)
  found_pays request here (Mount backend) = directory_pays request (root_of backend)
  found_pays request here (FileNode file) = file_pays request here.spot.backend file
  found_pays request here (Link id text) = unless_pay request.number (link_fault request.flags request.slash) _ (follows_pay here.links request here.names here.spot text)

  meant_pays : (request : OpenRequest) (here : Station) (found : Result Node Errno) → Paid (holds request.number) (meant_plan follow request here found)
  meant_pays request here (Ok node) = found_pays request here node
  meant_pays request here (Err error) = drops_pay request.number error

  module _ (request : OpenRequest) (here : Station) (file description : ℕ) (found : Result Node Errno) where
    abbrev released_plan : StepAnswer → Plan
    released_plan told = unless_drops request.number (fault_in told) (meant_plan follow request here found)

    released_pays : (told : StepAnswer) → IsOrdinary (FilesOp (file_op.Release description)) told → Paid (debt_after (holds_open request.number here.spot.backend description) (cell_of_id here.spot.backend description) (FilesOp (file_op.Release description)) told) (released_plan told)
    released_pays (Answered given) h = paid_as (released_plan (Answered given)) _ (holds request.number) (description_paid request.number here.spot.backend description) (unless_pay request.number (fault_in (Answered given)) (meant_plan follow request here found) (meant_pays request here found))
    released_pays Cancelled h = absurd h
    released_pays Closed h = absurd h

    abbrev release_plan : Plan
    release_plan = steps (cell_of_id here.spot.backend description) (FilesOp (file_op.Release description)) released_plan

    release_pays : Paid (holds_open request.number here.spot.backend description) release_plan
    release_pays = step_pays (holds_open request.number here.spot.backend description) (cell_of_id here.spot.backend description) (FilesOp (file_op.Release description)) released_plan released_pays

    unlinked_pays : (told : StepAnswer) → IsOrdinary (FilesOp (file_op.Unlinked file)) told → Paid (debt_after (holds_made request.number here.spot.backend file description) (cell_of_id here.spot.backend file) (FilesOp (file_op.Unlinked file)) told) (unlinked_plan follow request here description found told)
    unlinked_pays (Answered given) h =
        subst (λ (f : Option Errno). Paid (without_file (holds_made request.number here.spot.backend file description) here.spot.backend file) (unless_drops request.number f release_plan)) (sym (file_unlinked file (Answered given) h))
        (paid_as release_plan _ (holds_open request.number here.spot.backend description) (file_paid request.number here.spot.backend file description) release_pays)
    unlinked_pays Cancelled h = absurd h
    unlinked_pays Closed h = absurd h

    unmakes_pay : Paid (holds_made request.number here.spot.backend file description) (unmakes follow request here file description found)
    unmakes_pay = step_pays (holds_made request.number here.spot.backend file description) (cell_of_id here.spot.backend file) (FilesOp (file_op.Unlinked file)) (unlinked_plan follow request here description found) unlinked_pays

  module _ (request : OpenRequest) (here : Station) (name : List ℕ) (file description : ℕ) where
    abbrev adding : StoreOp
    adding = NamesOp (name_op.Addfile here.spot.directory name file)

    entered_pays : Paid (without_file (holds_made request.number here.spot.backend file description) here.spot.backend file) (fills request.number (fd.FillFile request.number here.spot.backend description))
    entered_pays = paid_as (fills request.number (fd.FillFile request.number here.spot.backend description)) _ (holds_open request.number here.spot.backend description) (file_paid request.number here.spot.backend file description) (fills_file_pay request.number here.spot.backend description)

    added_pays : (told : StepAnswer) → IsOrdinary adding told → Paid (debt_after (holds_made request.number here.spot.backend file description) (NamesCell here.spot.backend) adding told) (added_plan follow request here file description told)
    added_pays (Answered (NamesAnswer answer.Gone)) h = unmakes_pay request here file description (Err Enoent)
    added_pays (Answered (NamesAnswer answer.Absent)) h = absurd h
    added_pays (Answered (NamesAnswer (answer.Found node))) h = absurd h
    added_pays (Answered (NamesAnswer (answer.MadeDir id))) h = absurd h
    added_pays (Answered (NamesAnswer (answer.MadeLink id))) h = absurd h
    added_pays (Answered (NamesAnswer (answer.Taken node))) h = unmakes_pay request here file description (Ok node)
    added_pays (Answered (NamesAnswer answer.Done)) h = entered_pays
    added_pays (Answered (NamesAnswer (answer.RemovedFile other))) h = absurd h
    added_pays (Answered (NamesAnswer answer.RemovedLink)) h = absurd h
    added_pays (Answered (NamesAnswer answer.Same)) h = absurd h
    added_pays (Answered (NamesAnswer (answer.Over other))) h = absurd h
    added_pays (Answered (NamesAnswer answer.Moved)) h = absurd h
    added_pays (Answered (NamesAnswer (answer.Names names))) h = absurd h
    added_pays (Answered (NamesAnswer (answer.Fault error))) h = absurd h
    added_pays (Answered (FilesAnswer given)) h = absurd h
    added_pays (Answered (DescriptorsAnswer given)) h = absurd h
    added_pays Cancelled h = absurd h
    added_pays Closed h = absurd h

  made_pays : (request : OpenRequest) (here : Station) (name : List ℕ) (told : StepAnswer) (made : Option (ℕ × ℕ)) → Paid (with_made (holds request.number) here.spot.backend made) (made_by follow request here name told made)
  made_pays request here name told None = drops_pay request.number _
  made_pays request here name told (Some ids) = step_pays (holds_made request.number here.spot.backend ids.0 ids.1) (NamesCell here.spot.backend) (NamesOp (name_op.Addfile here.spot.directory name ids.0)) (added_plan follow request here ids.0 ids.1) (added_pays request here name ids.0 ids.1)

  makes_pay : (request : OpenRequest) (here : Station) (name : List ℕ) → Paid (holds request.number) (makes follow request here name)
  makes_pay request here name = step_pays (holds request.number) (FilesCell here.spot.backend _) (FilesOp (file_op.Make _)) (made_plan follow request here name) (λ told h. made_pays request here name told (file_in told))

  looked_pays : (request : OpenRequest) (here : Station) (name : List ℕ) (found : Result (Option Node) Errno) → Paid (holds request.number) (looked_plan follow request here name found)
  looked_pays request here name (Err error) = drops_pay request.number error
  looked_pays request here name (Ok None) = unless_pay request.number (absent_fault request.flags request.slash) (makes follow request here name) (makes_pay request here name)
  looked_pays request here name (Ok (Some node)) = found_pays request here node

  looks_pay : (request : OpenRequest) (names links : ℕ) (here : Spot) (name : List ℕ) → Paid (holds request.number) (looks follow request names links here name)
  looks_pay request zero links here name = drops_pay request.number Enametoolong
  looks_pay request (suc names) links here name = step_pays (holds request.number) (NamesCell here.backend) (NamesOp (name_op.Look here.directory name)) (λ told. looked_plan follow request (station names links here) name (node_in told)) (λ told h. looked_pays request (station names links here) name (node_in told))

  end_pays : (request : OpenRequest) (name : Option (List ℕ)) (end : Result End Errno) → Paid (holds request.number) (open_end follow request name end)
  end_pays request name (Err error) = drops_pay request.number error
  end_pays request None (Ok (Directory there)) = directory_pays request there.spot
  end_pays request (Some name) (Ok (Directory there)) = looks_pay request there.names there.links there.spot name
  end_pays request name (Ok (File backend file)) = drops_pay request.number Enotdir
  end_pays request name (Ok (LinkText text)) = drops_pay request.number Enotdir

opens_along_pay : (walks_left : ℕ) (request : OpenRequest) (from : Station) (route : OpenRoute) → Paid (holds request.number) (opens_along walks_left request from route)
unfolding opens_along
opens_along_pay zero request from route = drops_pay request.number Eloop
opens_along_pay (suc walks_left) request from route = along_pays (holds request.number) from route.route (open_end (opens_along walks_left) request route.name) (λ end. end_pays (opens_along walks_left) (opens_along_pay walks_left) request route.name end)

from_pays : (debt : Debt) (origin : Option Base) (next : Result Spot Errno → Plan) → ((start : Result Spot Errno) → Paid debt (next start)) → Paid debt (from_base origin next)
from_pays debt None next each = each (Ok (root_of 0))
from_pays debt (Some Cwd) next each = step_pays debt DescriptorsCell (DescriptorsOp fd.Cwd) _ (λ told h. each (spot_in told))
from_pays debt (Some (Fd number)) next each = step_pays debt DescriptorsCell (DescriptorsOp (fd.Look number)) _ (λ told h. each (spot_in told))

walks_in_pay : (debt : Debt) (route : Route) (next : Result End Errno → Plan) → ((end : Result End Errno) → Paid debt (next end)) → (start : Result Spot Errno) → Paid debt (walks_in route next start)
walks_in_pay debt route next each (Ok spot) = along_pays debt (start_in spot) route next each
walks_in_pay debt route next each (Err error) = each (Err error)

in_pays : (request : OpenRequest) (route : OpenRoute) (start : Result Spot Errno) → Paid (holds request.number) (opens_in request route start)
in_pays request route (Ok spot) = opens_along_pay open_walks_max request (start_in spot) route
in_pays request route (Err error) = drops_pay request.number error

by_pays : (number : ℕ) (flags : OpenFlags) (origin : Option Base) (route : Result OpenRoute Errno) → Paid (holds number) (opens_by number flags origin route)
by_pays number flags origin (Err error) = drops_pay number error
by_pays number flags origin (Ok route) = from_pays (holds number) origin (opens_in (request_of number flags route.route.slash) route) (in_pays (request_of number flags route.route.slash) route)

reserved_pays : (flags : OpenFlags) (origin : Option Base) (route : Result OpenRoute Errno) (told : StepAnswer) → Paid (with_number no_debt (number_in told)) (reserved_plan flags origin route told)
reserved_pays flags origin route (Answered (NamesAnswer given)) = reply_paid _
reserved_pays flags origin route (Answered (FilesAnswer given)) = reply_paid _
reserved_pays flags origin route (Answered (DescriptorsAnswer (fd_answer.Fd given))) = by_pays given flags origin route
reserved_pays flags origin route (Answered (DescriptorsAnswer (fd_answer.File home named))) = reply_paid _
reserved_pays flags origin route (Answered (DescriptorsAnswer (fd_answer.Dir home named))) = reply_paid _
reserved_pays flags origin route (Answered (DescriptorsAnswer fd_answer.Done)) = reply_paid _
reserved_pays flags origin route (Answered (DescriptorsAnswer (fd_answer.Last home named))) = reply_paid _
reserved_pays flags origin route (Answered (DescriptorsAnswer (fd_answer.FdLast given home named))) = reply_paid _
reserved_pays flags origin route (Answered (DescriptorsAnswer (fd_answer.Fault error))) = reply_paid _
reserved_pays flags origin route Cancelled = reply_paid _
reserved_pays flags origin route Closed = reply_paid _

opens_pay : (at : PathAt) (flags : OpenFlags) (fault : Option Errno) → Paid no_debt (unless_fault fault (steps DescriptorsCell (DescriptorsOp fd.Reserve) (reserved_plan flags at.base (open_route at.path))))
opens_pay at flags (Some error) = reply_paid _
opens_pay at flags None = step_pays no_debt DescriptorsCell (DescriptorsOp fd.Reserve) (reserved_plan flags at.base (open_route at.path)) (λ told h. reserved_pays flags at.base (open_route at.path) told)

-- Numbers.

module _ (backend description : ℕ) (given : Reply) where
  freed_pays : (told : StepAnswer) (after : Reply) → IsOrdinary (FilesOp (file_op.Release description)) told → Paid (debt_after (owed [] ((backend, description) ∷ []) []) (cell_of_id backend description) (FilesOp (file_op.Release description)) told) (replies after)
  freed_pays (Answered given) after h = reply_pays after _ (ap (λ (ds : List (ℕ × ℕ)). owed [] ds []) (but_of_one backend description))
  freed_pays Cancelled after h = absurd h
  freed_pays Closed after h = absurd h

  releases_pay : Paid (owed [] ((backend, description) ∷ []) []) (releases backend description given)
  releases_pay = step_pays (owed [] ((backend, description) ∷ []) []) (cell_of_id backend description) (FilesOp (file_op.Release description)) _ (λ told h. freed_pays told _ h)

  nothing_freed : (told : StepAnswer) (after : Reply) → Paid (debt_after no_debt (cell_of_id backend description) (FilesOp (file_op.Release description)) told) (replies after)
  nothing_freed (Answered given) after = reply_paid after
  nothing_freed Cancelled after = reply_paid after
  nothing_freed Closed after = reply_paid after

  releases_nothing : Paid no_debt (releases backend description given)
  releases_nothing = step_pays no_debt (cell_of_id backend description) (FilesOp (file_op.Release description)) _ (λ told h. nothing_freed told _)

numbers_pay : (told : StepAnswer) → Paid (with_description no_debt (last_in told)) (number_plan told)
numbers_pay (Answered (NamesAnswer given)) = reply_paid _
numbers_pay (Answered (FilesAnswer given)) = reply_paid _
numbers_pay (Answered (DescriptorsAnswer (fd_answer.Fd given))) = reply_paid _
numbers_pay (Answered (DescriptorsAnswer (fd_answer.File home named))) = reply_paid _
numbers_pay (Answered (DescriptorsAnswer (fd_answer.Dir home named))) = reply_paid _
numbers_pay (Answered (DescriptorsAnswer fd_answer.Done)) = reply_paid _
numbers_pay (Answered (DescriptorsAnswer (fd_answer.Last home named))) = releases_pay home named _
numbers_pay (Answered (DescriptorsAnswer (fd_answer.FdLast given home named))) = releases_pay home named _
numbers_pay (Answered (DescriptorsAnswer (fd_answer.Fault error))) = reply_paid _
numbers_pay Cancelled = reply_paid _
numbers_pay Closed = reply_paid _

copies_pay : (told : StepAnswer) → Paid no_debt (number_plan told)
copies_pay (Answered (NamesAnswer given)) = reply_paid _
copies_pay (Answered (FilesAnswer given)) = reply_paid _
copies_pay (Answered (DescriptorsAnswer (fd_answer.Fd given))) = reply_paid _
copies_pay (Answered (DescriptorsAnswer (fd_answer.File home named))) = reply_paid _
copies_pay (Answered (DescriptorsAnswer (fd_answer.Dir home named))) = reply_paid _
copies_pay (Answered (DescriptorsAnswer fd_answer.Done)) = reply_paid _
copies_pay (Answered (DescriptorsAnswer (fd_answer.Last home named))) = releases_nothing home named _
copies_pay (Answered (DescriptorsAnswer (fd_answer.FdLast given home named))) = releases_nothing home named _
copies_pay (Answered (DescriptorsAnswer (fd_answer.Fault error))) = reply_paid _
copies_pay Cancelled = reply_paid _
copies_pay Closed = reply_paid _

-- The file of a descriptor.

file_use_pays : (backend description : ℕ) (purpose : DataCall) → Paid no_debt (steps (cell_of_id backend description) (FilesOp (op_of_data purpose description)) (λ told. replies (reply_to told)))
file_use_pays backend description (on_file.Read count) = step_pays no_debt (cell_of_id backend description) (FilesOp (op_of_data (on_file.Read count) description)) (λ told. replies (reply_to told)) (λ told h. reply_paid _)
file_use_pays backend description (on_file.Pread count offset) = step_pays no_debt (cell_of_id backend description) (FilesOp (op_of_data (on_file.Pread count offset) description)) (λ told. replies (reply_to told)) (λ told h. reply_paid _)
file_use_pays backend description (on_file.Write bytes) = step_pays no_debt (cell_of_id backend description) (FilesOp (op_of_data (on_file.Write bytes) description)) (λ told. replies (reply_to told)) (λ told h. reply_paid _)
file_use_pays backend description (on_file.Pwrite bytes offset) = step_pays no_debt (cell_of_id backend description) (FilesOp (op_of_data (on_file.Pwrite bytes offset) description)) (λ told. replies (reply_to told)) (λ told h. reply_paid _)
file_use_pays backend description (on_file.Seek offset whence) = step_pays no_debt (cell_of_id backend description) (FilesOp (op_of_data (on_file.Seek offset whence) description)) (λ told. replies (reply_to told)) (λ told h. reply_paid _)
file_use_pays backend description (on_file.Ftruncate size) = step_pays no_debt (cell_of_id backend description) (FilesOp (op_of_data (on_file.Ftruncate size) description)) (λ told. replies (reply_to told)) (λ told h. reply_paid _)
file_use_pays backend description on_file.Fstat = step_pays no_debt (cell_of_id backend description) (FilesOp (op_of_data on_file.Fstat description)) (λ told. replies (reply_to told)) (λ told h. reply_paid _)

use_pays : (purpose : DataCall) (told : StepAnswer) → Paid no_debt (data_step_plan purpose told)
use_pays purpose (Answered (NamesAnswer given)) = reply_paid _
use_pays purpose (Answered (FilesAnswer given)) = reply_paid _
use_pays purpose (Answered (DescriptorsAnswer (fd_answer.Fd given))) = reply_paid _
use_pays purpose (Answered (DescriptorsAnswer (fd_answer.File home named))) = file_use_pays home named purpose
use_pays purpose (Answered (DescriptorsAnswer (fd_answer.Dir home named))) = reply_paid _
use_pays purpose (Answered (DescriptorsAnswer fd_answer.Done)) = reply_paid _
use_pays purpose (Answered (DescriptorsAnswer (fd_answer.Last home named))) = reply_paid _
use_pays purpose (Answered (DescriptorsAnswer (fd_answer.FdLast given home named))) = reply_paid _
use_pays purpose (Answered (DescriptorsAnswer (fd_answer.Fault error))) = reply_paid _
use_pays purpose Cancelled = reply_paid _
use_pays purpose Closed = reply_paid _

-- Names.

module _ (backend : ℕ) where
  told_unlinked : (file : ℕ) (told : StepAnswer) (after : Reply) → IsOrdinary (FilesOp (file_op.Unlinked file)) told → Paid (debt_after (with_file no_debt backend (Some file)) (cell_of_id backend file) (FilesOp (file_op.Unlinked file)) told) (replies after)
  told_unlinked file (Answered given) after h = reply_pays after _ (ap (λ (fs : List (ℕ × ℕ)). owed [] [] fs) (but_of_one backend file))
  told_unlinked file Cancelled after h = absurd h
  told_unlinked file Closed after h = absurd h

  nothing_unlinked : (file : ℕ) (told : StepAnswer) (after : Reply) → Paid (debt_after no_debt (cell_of_id backend file) (FilesOp (file_op.Unlinked file)) told) (replies after)
  nothing_unlinked file (Answered given) after = reply_paid after
  nothing_unlinked file Cancelled after = reply_paid after
  nothing_unlinked file Closed after = reply_paid after

  lost_pays : (told : StepAnswer) (lost : Option ℕ) → Paid (with_file no_debt backend lost) (plan_after backend told lost)
  lost_pays told None = reply_paid _
  lost_pays told (Some file) = step_pays (with_file no_debt backend (Some file)) (cell_of_id backend file) (FilesOp (file_op.Unlinked file)) _ (λ given h. told_unlinked file given _ h)

  kept_pays : (told : StepAnswer) (lost : Option ℕ) → Paid no_debt (plan_after backend told lost)
  kept_pays told None = reply_paid _
  kept_pays told (Some file) = step_pays no_debt (cell_of_id backend file) (FilesOp (file_op.Unlinked file)) _ (λ given h. nothing_unlinked file given _)

  entry_pays : (is : Bool) (file : ℕ) (told : StepAnswer) (lost : Option ℕ) → Paid (if is then without_file no_debt backend file else no_debt) (plan_after backend told lost)
  entry_pays true file told lost = kept_pays told lost
  entry_pays false file told lost = kept_pays told lost

  abbrev next_of : StepAnswer → Plan
  next_of told = plan_after backend told (unlinked_by told)

  last_pays : (op : NameOp) → Paid no_debt (last_step backend op)
  last_pays (name_op.Look id name) = step_pays no_debt (NamesCell backend) (NamesOp (name_op.Look id name)) next_of (λ told h. kept_pays told (unlinked_by told))
  last_pays (name_op.Parent id) = step_pays no_debt (NamesCell backend) (NamesOp (name_op.Parent id)) next_of (λ told h. kept_pays told (unlinked_by told))
  last_pays (name_op.Makedir id name) = step_pays no_debt (NamesCell backend) (NamesOp (name_op.Makedir id name)) next_of (λ told h. kept_pays told (unlinked_by told))
  last_pays (name_op.Addlink id name text) = step_pays no_debt (NamesCell backend) (NamesOp (name_op.Addlink id name text)) next_of (λ told h. kept_pays told (unlinked_by told))
  last_pays (name_op.Addfile id name file) = step_pays no_debt (NamesCell backend) (NamesOp (name_op.Addfile id name file)) next_of (λ told h. entry_pays (is_entered told) file told (unlinked_by told))
  last_pays (name_op.Remfile id name slash) = step_pays no_debt (NamesCell backend) (NamesOp (name_op.Remfile id name slash)) next_of (λ told h. lost_pays told (unlinked_by told))
  last_pays (name_op.Remdir id name) = step_pays no_debt (NamesCell backend) (NamesOp (name_op.Remdir id name)) next_of (λ told h. kept_pays told (unlinked_by told))
  last_pays (name_op.Move from name to new_name slash) = step_pays no_debt (NamesCell backend) (NamesOp (name_op.Move from name to new_name slash)) next_of (λ told h. lost_pays told (unlinked_by told))
  last_pays (name_op.List id start) = step_pays no_debt (NamesCell backend) (NamesOp (name_op.List id start)) next_of (λ told h. kept_pays told (unlinked_by told))

enters_pay : (start : Result Spot Errno) → Paid no_debt (enters start)
enters_pay (Ok there) = step_pays no_debt DescriptorsCell (DescriptorsOp (fd.Setcwd there.backend there.directory)) _ (λ told h. reply_paid _)
enters_pay (Err error) = reply_paid _

-- Calls.

abbrev IsPaid : ℕ → Plan → Type 0
IsPaid count p = Paid no_debt p

paid_holds : Holds IsPaid (λ backend. Unit {0})
paid_holds = record {
  over = λ count given. reply_paid given;
  size = λ count backend file so. step_pays no_debt (cell_of_id backend file) (FilesOp (file_op.Sizeof file)) _ (λ told h. reply_paid _);
  last = λ count backend op so. last_pays backend op;
  uses_files = λ number purpose. step_pays no_debt DescriptorsCell (DescriptorsOp (fd.Look number)) (data_step_plan purpose) (λ told h. use_pays purpose told);
  takes_numbers = λ number. step_pays no_debt DescriptorsCell (DescriptorsOp (fd.Take number)) number_plan (λ told h. numbers_pay told);
  copies_numbers = λ number. step_pays no_debt DescriptorsCell (DescriptorsOp (fd.Copy number)) number_plan (λ told h. copies_pay told);
  copies_onto = λ number target. step_pays no_debt DescriptorsCell (DescriptorsOp (fd.Copyto number target)) number_plan (λ told h. numbers_pay told);
  opens_paths = λ at flags. opens_pay at flags (flags_fault flags);
  along = λ count origin route next each. from_pays no_debt origin (walks_in route next) (walks_in_pay no_debt route next (λ end. each end (any_end end)));
  sets = λ count there so. enters_pay (Ok there);
  enters_numbers = λ number. from_pays no_debt (Some (Fd number)) enters enters_pay;
}

pays_along : (p : Program) (debt : Debt) (taken : List Step) (given : Reply) → Pays debt p → Takes p taken given → AreOrdinary taken → debt_along debt taken ≡ no_debt
pays_along (finished over) debt [] given pays takes ordinary = pays
pays_along (finished over) debt (step ∷ taken) given pays takes ordinary = absurd takes
pays_along (asks cell op next) debt [] given pays takes ordinary = absurd takes
pays_along (asks cell op next) debt (step ∷ taken) given pays (told, is, rest) (one, more) =
    subst (λ (s : Step). IsOrdinaryOutcome s.op s.outcome → debt_along (debt_by debt s.cell s.op s.outcome) taken ≡ no_debt) (sym is) (λ h. pays_along (next told) (debt_after debt cell op told) taken given (pays told h) rest more) one

pub debts_are_paid : DebtsArePaid
debts_are_paid version c taken given takes ordinary = pays_along (program version c) no_debt taken given (each_call IsPaid (λ backend. Unit {0}) paid_holds version c).pays takes ordinary
