-- A call with `creat` and `excl` that replies a number has made its file.
use Rattle.path_walk.specs.Calls.{path_at}
use Rattle.path_walk.specs.declared.call.Base.{Base}
use Rattle.path_walk.specs.declared.call.Base.TheVariants.{Cwd}
use Rattle.path_walk.specs.declared.act.PathAt.{PathAt}
use Rattle.std.proofs.Common.{◌≡◌, ◌⊎◌, inl, inr, ℕ, ◌==◌, ◌||◌, not, zero, suc, Bool, true, false, if◌then◌else◌, List, [], ◌∷◌, Option, None, Some, Result, Ok, Err, refl, sym, ap, subst}
use Rattle.wf_core.specs.declared.errno.Errno.{Errno}
use Rattle.wf_core.specs.declared.errno.Errno.TheVariants.{Enoent, Eexist, Eisdir, Eloop, Enotdir, Enametoolong}
use Rattle.name_store.specs.declared.operation.Node.{Node}
use Rattle.name_store.specs.declared.operation.Node.TheVariants.{Dir, Link, File as FileNode, Mount}
use Rattle.name_store.specs.declared.operation.NameOp.TheVariants.{Look, Parent}
use Rattle.name_store.specs.declared.operation.NameAnswer.TheVariants as answer
use Rattle.file_store.specs.declared.file_operation.FileOp.TheVariants.{Make, Release, Unlinked}
use Rattle.file_store.specs.declared.file_operation.FileAnswer.TheVariants as file_answer
use Rattle.file_store.specs.declared.descriptor_operation.FdOp.TheVariants as fd
use Rattle.file_store.specs.declared.descriptor_operation.FdAnswer.TheVariants as fd_answer
use Rattle.path_walk.specs.declared.part.Part.{Part}
use Rattle.path_walk.specs.declared.part.Part.TheVariants.{Here, Up, Down, TooLong}
use Rattle.path_walk.specs.declared.route.Manner.{Manner}
use Rattle.path_walk.specs.declared.route.Spot.{Spot}
use Rattle.path_walk.specs.declared.route.Station.{Station}
use Rattle.path_walk.specs.declared.route.Route.{Route}
use Rattle.path_walk.specs.declared.route.End.{End}
use Rattle.path_walk.specs.declared.route.End.TheVariants.{Directory, File, LinkText}
use Rattle.path_walk.specs.declared.open_request.OpenFlags.{OpenFlags}
use Rattle.path_walk.specs.declared.open_request.OpenRequest.{OpenRequest}
use Rattle.path_walk.specs.declared.open_request.OpenRoute.{OpenRoute}
use Rattle.path_walk.specs.declared.step.CellId.{CellId}
use Rattle.path_walk.specs.declared.step.CellId.TheVariants.{Names as NamesCell, Files as FilesCell, Descriptors as DescriptorsCell}
use Rattle.path_walk.specs.declared.step.StoreOp.{StoreOp}
use Rattle.path_walk.specs.declared.step.StoreOp.TheVariants.{Names as NamesOp, Files as FilesOp, Descriptors as DescriptorsOp}
use Rattle.path_walk.specs.declared.step.StoreAnswer.TheVariants.{Names as NamesAnswer, Files as FilesAnswer, Descriptors as DescriptorsAnswer}
use Rattle.path_walk.specs.declared.step.StepAnswer.{StepAnswer}
use Rattle.path_walk.specs.declared.step.StepAnswer.TheVariants.{Answered, Cancelled, Closed}
use Rattle.path_walk.specs.declared.call.Reply.{Reply}
use Rattle.path_walk.specs.declared.call.Reply.TheVariants as reply
use Rattle.path_walk.specs.PathMeaning.{Way, Course, ends, goes, root_of, spot_beside, start_of, station, start_in}
use Rattle.path_walk.specs.Programs.{Program, finished, asks, Step, Takes}
use Rattle.path_walk.specs.Walk.{course_on, node_in, program_on, walk}
use Rattle.path_walk.specs.Plans.{Plan, replies, steps, walks, cell_of_id, fails, fault_in, program_of, unless_fault, from_base, op_of_base, spot_in}
use Rattle.path_walk.specs.OpenPlan.{absent_fault, added_plan, directory_fault, drops, file_fault, file_in, flags_fault, follows, found_plan, is_exclusive, link_fault, looked_plan, looks, made_by, made_plan, makes, meant_plan, open_end, open_route, open_walks_max, opens_along, reads_only, opens_by, opens_directory, opens_file, request_of, reserved_plan, route_to, unless_drops, unlinked_plan, unmakes, opens, opens_in}
use Rattle.call_laws.specs.DebtLaws.{is_entered}
use Rattle.call_laws.specs.ExclusiveLaws.{Enters, EntersBy, ExclusivesMake, MakesItself}

-- whatever it is told, the program enters a file before it replies a number
abbrev First : Program → Type 0
First (finished given) = (number : ℕ) → reply.Fd number ≡ given → ⊥
First (asks cell op next) = (told : StepAnswer) → EntersBy op (Ok told) ⊎ First (next told)

record EntersFirst (p : Plan) : Type 0 where
  first : First (program_of p)

fails_first : (error : Errno) → EntersFirst (fails error)
fails_first error = record { first = λ number e. cc }

step_first : (cell : CellId) (op : StoreOp) (next : StepAnswer → Plan) → ((told : StepAnswer) → EntersFirst (next told)) → EntersFirst (steps cell op next)
step_first cell op next each = record { first = λ told. inr (each told).first }

course_first : (c : Course) (next : Way → Program) (over : Result End Errno → Program) → ((w : Way) → First (next w)) → ((end : Result End Errno) → First (over end)) → First (program_on c next over)
course_first (ends end) next over on stop = stop end
course_first (goes w) next over on stop = on w

-- `..` takes no step in the root
up_first : (is_root : Bool) (rooted asked : Program) → First rooted → First asked → First (if is_root then rooted else asked)
up_first true rooted asked h k = h
up_first false rooted asked h k = k

walk_first : (names : ℕ) (parts : List Part) (manner : Manner) (slash : Bool) (links : ℕ) (here : Spot) (over : Result End Errno → Program) → ((end : Result End Errno) → First (over end)) → First (walk names parts manner slash links here over)
walk_first names [] manner slash links here over stop = stop _
walk_first names (Here ∷ rest) manner slash links here over stop = walk_first names rest manner slash links here over stop
walk_first names (TooLong ∷ rest) manner slash links here over stop = stop _
walk_first zero (Up ∷ rest) manner slash links here over stop = stop _
walk_first zero (Down name ∷ rest) manner slash links here over stop = stop _
walk_first (suc names) (Up ∷ rest) manner slash links here over stop =
    up_first (here.directory == 0) (walk names rest manner slash links (root_of 0) over) (asks (NamesCell here.backend) (NamesOp (Parent here.directory)) (λ told. program_on (course_on manner (node_in told) rest slash links here) (λ w. walk names w.rest manner w.slash w.links w.spot over) over)) (walk_first names rest manner slash links (root_of 0) over stop)
    (λ told. inr (course_first (course_on manner (node_in told) rest slash links here) (λ w. walk names w.rest manner w.slash w.links w.spot over) over (λ w. walk_first names w.rest manner w.slash w.links w.spot over stop) stop))
walk_first (suc names) (Down name ∷ rest) manner slash links here over stop =
    λ told. inr (course_first (course_on manner (node_in told) rest slash links here) (λ w. walk names w.rest manner w.slash w.links w.spot over) over (λ w. walk_first names w.rest manner w.slash w.links w.spot over stop) stop)

walks_first : (from : Station) (route : Route) (next : Result End Errno → Plan) → ((end : Result End Errno) → EntersFirst (next end)) → EntersFirst (walks from route next)
walks_first from route next each = record { first = walk_first from.names route.parts route.manner route.slash from.links from.spot (λ end. program_of (next end)) (λ end. (each end).first) }

drops_first : (number : ℕ) (error : Errno) → EntersFirst (drops number error)
drops_first number error = step_first DescriptorsCell (DescriptorsOp (fd.Drop number)) (λ told. fails error) (λ told. fails_first error)

unless_first : (number : ℕ) (fault : Option Errno) (p : Plan) → EntersFirst p → EntersFirst (unless_drops number fault p)
unless_first number (Some error) p h = drops_first number error
unless_first number None p h = h

-- what is refused is dropped, whatever would have followed
refused_first : (number : ℕ) (fault : Option Errno) (error : Errno) (p : Plan) → fault ≡ Some error → EntersFirst (unless_drops number fault p)
refused_first number fault error p e = subst (λ (f : Option Errno). EntersFirst (unless_drops number f p)) (sym e) (drops_first number error)

module _ (request : OpenRequest) (exclusive : is_exclusive request.flags ≡ true) where
  directory_first : (there : Spot) → EntersFirst (opens_directory request there)
  directory_first there = refused_first request.number (directory_fault request.flags) Eexist _ (ap (λ (b : Bool). let f : Option Errno = if b then Some Eexist else if request.flags.creat || not (reads_only request.flags.access) then Some Eisdir else None in f) exclusive)

  file_first : (backend file : ℕ) → EntersFirst (opens_file request backend file)
  file_first backend file = refused_first request.number (file_fault request.flags request.slash) Eexist _ (ap (λ (b : Bool). let f : Option Errno = if b then Some Eexist else if request.slash || request.flags.directory then Some Enotdir else None in f) exclusive)

module _ (follow : OpenRequest → Station → OpenRoute → Plan) (on : (request : OpenRequest) → is_exclusive request.flags ≡ true → (from : Station) (route : OpenRoute) → EntersFirst (follow request from route)) where
  follows_first : (links : ℕ) (request : OpenRequest) → is_exclusive request.flags ≡ true → (names : ℕ) (here : Spot) (text : List ℕ) → EntersFirst (follows follow links request names here text)
  follows_first zero request exclusive names here text = drops_first request.number Eloop
  follows_first (suc links) request exclusive names here text = on _ exclusive (station names links (start_of text here)) (route_to text)

  found_first : (request : OpenRequest) → is_exclusive request.flags ≡ true → (here : Station) (node : Node) → EntersFirst (found_plan follow request here node)
  found_first request exclusive here (Dir id) = directory_first request exclusive (spot_beside here.spot id)
  found_first request exclusive here (Mount backend) = directory_first request exclusive (root_of backend)
  found_first request exclusive here (FileNode file) = file_first request exclusive here.spot.backend file
  found_first request exclusive here (Link id text) = unless_first request.number (link_fault request.flags request.slash) _ (follows_first here.links request exclusive here.names here.spot text)

  meant_first : (request : OpenRequest) → is_exclusive request.flags ≡ true → (here : Station) (found : Result Node Errno) → EntersFirst (meant_plan follow request here found)
  meant_first request exclusive here (Ok node) = found_first request exclusive here node
  meant_first request exclusive here (Err error) = drops_first request.number error

  unmakes_first : (request : OpenRequest) → is_exclusive request.flags ≡ true → (here : Station) (file description : ℕ) (found : Result Node Errno) → EntersFirst (unmakes follow request here file description found)
  unmakes_first request exclusive here file description found =
      step_first (cell_of_id here.spot.backend file) (FilesOp (Unlinked file)) (unlinked_plan follow request here description found) (λ told. unless_first request.number (fault_in told) _
      (step_first (cell_of_id here.spot.backend description) (FilesOp (Release description)) _ (λ freed. unless_first request.number (fault_in freed) _ (meant_first request exclusive here found))))

  added_first : (request : OpenRequest) → is_exclusive request.flags ≡ true → (here : Station) (file description : ℕ) (told : StepAnswer) → (is_entered told ≡ true) ⊎ EntersFirst (added_plan follow request here file description told)
  added_first request exclusive here file description (Answered (NamesAnswer answer.Gone)) = inr (unmakes_first request exclusive here file description (Err Enoent))
  added_first request exclusive here file description (Answered (NamesAnswer answer.Absent)) = inr (drops_first request.number _)
  added_first request exclusive here file description (Answered (NamesAnswer (answer.Found node))) = inr (drops_first request.number _)
  added_first request exclusive here file description (Answered (NamesAnswer (answer.MadeDir id))) = inr (drops_first request.number _)
  added_first request exclusive here file description (Answered (NamesAnswer (answer.MadeLink id))) = inr (drops_first request.number _)
  added_first request exclusive here file description (Answered (NamesAnswer (answer.Taken node))) = inr (unmakes_first request exclusive here file description (Ok node))
  added_first request exclusive here file description (Answered (NamesAnswer answer.Done)) = inl refl
  added_first request exclusive here file description (Answered (NamesAnswer (answer.RemovedFile other))) = inr (drops_first request.number _)
  added_first request exclusive here file description (Answered (NamesAnswer answer.RemovedLink)) = inr (drops_first request.number _)
  added_first request exclusive here file description (Answered (NamesAnswer answer.Same)) = inr (drops_first request.number _)
  added_first request exclusive here file description (Answered (NamesAnswer (answer.Over other))) = inr (drops_first request.number _)
  added_first request exclusive here file description (Answered (NamesAnswer answer.Moved)) = inr (drops_first request.number _)
  added_first request exclusive here file description (Answered (NamesAnswer (answer.Names names))) = inr (drops_first request.number _)
  added_first request exclusive here file description (Answered (NamesAnswer (answer.Fault error))) = inr (drops_first request.number _)
  added_first request exclusive here file description (Answered (FilesAnswer given)) = inr (drops_first request.number _)
  added_first request exclusive here file description (Answered (DescriptorsAnswer given)) = inr (drops_first request.number _)
  added_first request exclusive here file description Cancelled = inr (drops_first request.number _)
  added_first request exclusive here file description Closed = inr (drops_first request.number _)

  first_of : (told : StepAnswer) (p : Plan) → (is_entered told ≡ true) ⊎ EntersFirst p → (is_entered told ≡ true) ⊎ First (program_of p)
  first_of told p (inl e) = inl e
  first_of told p (inr h) = inr h.first

  made_first : (request : OpenRequest) → is_exclusive request.flags ≡ true → (here : Station) (name : List ℕ) (told : StepAnswer) (made : Option (ℕ × ℕ)) → EntersFirst (made_by follow request here name told made)
  made_first request exclusive here name told None = drops_first request.number _
  made_first request exclusive here name told (Some ids) = record { first = λ added. first_of added (added_plan follow request here ids.0 ids.1 added) (added_first request exclusive here ids.0 ids.1 added) }

  looked_first : (request : OpenRequest) → is_exclusive request.flags ≡ true → (here : Station) (name : List ℕ) (found : Result (Option Node) Errno) → EntersFirst (looked_plan follow request here name found)
  looked_first request exclusive here name (Err error) = drops_first request.number error
  looked_first request exclusive here name (Ok None) = unless_first request.number (absent_fault request.flags request.slash) (makes follow request here name) (step_first (FilesCell here.spot.backend _) (FilesOp (Make _)) (made_plan follow request here name) (λ told. made_first request exclusive here name told (file_in told)))
  looked_first request exclusive here name (Ok (Some node)) = found_first request exclusive here node

  looks_first : (request : OpenRequest) → is_exclusive request.flags ≡ true → (names links : ℕ) (here : Spot) (name : List ℕ) → EntersFirst (looks follow request names links here name)
  looks_first request exclusive zero links here name = drops_first request.number Enametoolong
  looks_first request exclusive (suc names) links here name = step_first (NamesCell here.backend) (NamesOp (Look here.directory name)) (λ told. looked_plan follow request (station names links here) name (node_in told)) (λ told. looked_first request exclusive (station names links here) name (node_in told))

  end_first : (request : OpenRequest) → is_exclusive request.flags ≡ true → (name : Option (List ℕ)) (end : Result End Errno) → EntersFirst (open_end follow request name end)
  end_first request exclusive name (Err error) = drops_first request.number error
  end_first request exclusive None (Ok (Directory there)) = directory_first request exclusive there.spot
  end_first request exclusive (Some name) (Ok (Directory there)) = looks_first request exclusive there.names there.links there.spot name
  end_first request exclusive name (Ok (File backend file)) = drops_first request.number Enotdir
  end_first request exclusive name (Ok (LinkText text)) = drops_first request.number Enotdir

along_first : (walks_left : ℕ) (request : OpenRequest) → is_exclusive request.flags ≡ true → (from : Station) (route : OpenRoute) → EntersFirst (opens_along walks_left request from route)
unfolding opens_along
along_first zero request exclusive from route = drops_first request.number Eloop
along_first (suc walks_left) request exclusive from route = walks_first from route.route (open_end (opens_along walks_left) request route.name) (λ end. end_first (opens_along walks_left) (along_first walks_left) request exclusive route.name end)

from_first : (origin : Option Base) (next : Result Spot Errno → Plan) → ((start : Result Spot Errno) → EntersFirst (next start)) → EntersFirst (from_base origin next)
from_first None next each = each (Ok (root_of 0))
from_first (Some base) next each = step_first DescriptorsCell (DescriptorsOp (op_of_base base)) _ (λ told. each (spot_in told))

in_first : (request : OpenRequest) (exclusive : is_exclusive request.flags ≡ true) (route : OpenRoute) (start : Result Spot Errno) → EntersFirst (opens_in request route start)
in_first request exclusive route (Ok spot) = along_first open_walks_max request exclusive (start_in spot) route
in_first request exclusive route (Err error) = drops_first request.number error

by_first : (number : ℕ) (flags : OpenFlags) → is_exclusive flags ≡ true → (origin : Option Base) (route : Result OpenRoute Errno) → EntersFirst (opens_by number flags origin route)
by_first number flags exclusive origin (Err error) = drops_first number error
by_first number flags exclusive origin (Ok route) = from_first origin (opens_in (request_of number flags route.route.slash) route) (in_first (request_of number flags route.route.slash) exclusive route)

-- replies to what is no number
told_first : (given : Reply) → ((number : ℕ) → reply.Fd number ≡ given → ⊥) → EntersFirst (replies given)
told_first given h = record { first = h }

reserved_first : (flags : OpenFlags) → is_exclusive flags ≡ true → (origin : Option Base) (route : Result OpenRoute Errno) (told : StepAnswer) → EntersFirst (reserved_plan flags origin route told)
reserved_first flags exclusive origin route (Answered (NamesAnswer answer.Gone)) = told_first _ (λ number e. cc)
reserved_first flags exclusive origin route (Answered (NamesAnswer answer.Absent)) = told_first _ (λ number e. cc)
reserved_first flags exclusive origin route (Answered (NamesAnswer (answer.Found node))) = told_first _ (λ number e. cc)
reserved_first flags exclusive origin route (Answered (NamesAnswer (answer.MadeDir id))) = told_first _ (λ number e. cc)
reserved_first flags exclusive origin route (Answered (NamesAnswer (answer.MadeLink id))) = told_first _ (λ number e. cc)
reserved_first flags exclusive origin route (Answered (NamesAnswer (answer.Taken node))) = told_first _ (λ number e. cc)
reserved_first flags exclusive origin route (Answered (NamesAnswer answer.Done)) = told_first _ (λ number e. cc)
reserved_first flags exclusive origin route (Answered (NamesAnswer (answer.RemovedFile other))) = told_first _ (λ number e. cc)
reserved_first flags exclusive origin route (Answered (NamesAnswer answer.RemovedLink)) = told_first _ (λ number e. cc)
reserved_first flags exclusive origin route (Answered (NamesAnswer answer.Same)) = told_first _ (λ number e. cc)
reserved_first flags exclusive origin route (Answered (NamesAnswer (answer.Over other))) = told_first _ (λ number e. cc)
reserved_first flags exclusive origin route (Answered (NamesAnswer answer.Moved)) = told_first _ (λ number e. cc)
reserved_first flags exclusive origin route (Answered (NamesAnswer (answer.Names names))) = told_first _ (λ number e. cc)
reserved_first flags exclusive origin route (Answered (NamesAnswer (answer.Fault error))) = told_first _ (λ number e. cc)
reserved_first flags exclusive origin route (Answered (FilesAnswer file_answer.Gone)) = told_first _ (λ number e. cc)
reserved_first flags exclusive origin route (Answered (FilesAnswer (file_answer.Size size))) = told_first _ (λ number e. cc)
reserved_first flags exclusive origin route (Answered (FilesAnswer (file_answer.Fault error))) = told_first _ (λ number e. cc)
reserved_first flags exclusive origin route (Answered (FilesAnswer (file_answer.Count count))) = told_first _ (λ number e. cc)
reserved_first flags exclusive origin route (Answered (FilesAnswer (file_answer.File other made))) = told_first _ (λ number e. cc)
reserved_first flags exclusive origin route (Answered (FilesAnswer (file_answer.Desc made))) = told_first _ (λ number e. cc)
reserved_first flags exclusive origin route (Answered (FilesAnswer file_answer.Done)) = told_first _ (λ number e. cc)
reserved_first flags exclusive origin route (Answered (FilesAnswer (file_answer.Bytes bytes))) = told_first _ (λ number e. cc)
reserved_first flags exclusive origin route (Answered (FilesAnswer (file_answer.At at))) = told_first _ (λ number e. cc)
reserved_first flags exclusive origin route (Answered (DescriptorsAnswer (fd_answer.Fd given))) = by_first given flags exclusive origin route
reserved_first flags exclusive origin route (Answered (DescriptorsAnswer (fd_answer.File home named))) = told_first _ (λ number e. cc)
reserved_first flags exclusive origin route (Answered (DescriptorsAnswer (fd_answer.Dir home named))) = told_first _ (λ number e. cc)
reserved_first flags exclusive origin route (Answered (DescriptorsAnswer fd_answer.Done)) = told_first _ (λ number e. cc)
reserved_first flags exclusive origin route (Answered (DescriptorsAnswer (fd_answer.Last home named))) = told_first _ (λ number e. cc)
reserved_first flags exclusive origin route (Answered (DescriptorsAnswer (fd_answer.FdLast given home named))) = told_first _ (λ number e. cc)
reserved_first flags exclusive origin route (Answered (DescriptorsAnswer (fd_answer.Fault error))) = told_first _ (λ number e. cc)
reserved_first flags exclusive origin route Cancelled = told_first _ (λ number e. cc)
reserved_first flags exclusive origin route Closed = told_first _ (λ number e. cc)

opens_first : (at : PathAt) (flags : OpenFlags) → is_exclusive flags ≡ true → (fault : Option Errno) → EntersFirst (unless_fault fault (steps DescriptorsCell (DescriptorsOp fd.Reserve) (reserved_plan flags at.base (open_route at.path))))
opens_first at flags exclusive (Some error) = fails_first error
opens_first at flags exclusive None = step_first DescriptorsCell (DescriptorsOp fd.Reserve) (reserved_plan flags at.base (open_route at.path)) (λ told. reserved_first flags exclusive at.base (open_route at.path) told)

enters_along : (p : Program) (taken : List Step) (number : ℕ) → First p → Takes p taken (reply.Fd number) → Enters taken
enters_along (finished given) [] number first takes = absurd (first number takes)
enters_along (finished given) (step ∷ taken) number first takes = absurd takes
enters_along (asks cell op next) [] number first takes = absurd takes
enters_along (asks cell op next) (step ∷ taken) number first (told, is, rest) = by_first_step (first told) (λ h. enters_along (next told) taken number h rest) where
  by_first_step : EntersBy op (Ok told) ⊎ First (next told) → (First (next told) → Enters taken) → Enters (step ∷ taken)
  by_first_step (inl entered) later = inl (subst (λ (s : Step). EntersBy s.op s.outcome) (sym is) entered)
  by_first_step (inr goes_on) later = inr (later goes_on)

opens_make : (at : PathAt) (flags : OpenFlags) → MakesItself flags (program_of (opens at flags))
opens_make at flags taken number exclusive takes = enters_along (program_of (opens at flags)) taken number (opens_first at flags exclusive (flags_fault flags)).first takes

pub exclusives_make : ExclusivesMake
exclusives_make = record {
  opens = λ version path flags. opens_make (path_at version Cwd path) flags;
  openat = λ version base path flags. opens_make (path_at version base path) flags;
}
