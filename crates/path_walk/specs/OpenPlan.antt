-- `open` as a plan: POSIX.1-2017, XSH open(). A number is reserved first, and from then on each failure frees it. A row
-- marked (own) is this project's reading where POSIX leaves it open, or its own limit.
use Rattle.std.specs.Prelude.{ℕ, ◌%◌, ◌+◌, ◌&&◌, ◌||◌, not, zero, suc, if◌then◌else◌, Bool, true, false, List, Option, None, Some, Result, Ok, Err, unwrap_or}
use Rattle.wf_core.specs.Limits.{group_count, symloop_max}
use Rattle.wf_core.specs.declared.errno.Errno.{Errno}
use Rattle.wf_core.specs.declared.errno.Errno.TheVariants.{Enoent, Eexist, Enotdir, Eisdir, Einval, Eloop, Enametoolong}
use Rattle.name_store.specs.declared.operation.Node.{Node}
use Rattle.name_store.specs.declared.operation.Node.TheVariants.{Dir, Link, File as FileNode, Mount}
use Rattle.name_store.specs.declared.operation.NameOp.TheVariants.{Look, Addfile}
use Rattle.name_store.specs.declared.operation.NameAnswer.TheVariants as answer
use Rattle.file_store.specs.declared.descriptor_operation.FdOp.{FdOp}
use Rattle.file_store.specs.declared.descriptor_operation.FdOp.TheVariants.{Reserve, FillFile, FillDir, Drop}
use Rattle.file_store.specs.declared.descriptor_operation.FdAnswer.TheVariants as fd_answer
use Rattle.file_store.specs.declared.file_operation.Access.{Access}
use Rattle.file_store.specs.declared.file_operation.Access.TheVariants.{Read, Write, ReadWrite}
use Rattle.file_store.specs.declared.file_operation.Mode.{Mode}
use Rattle.file_store.specs.declared.file_operation.FileOp.TheVariants.{Make, Attach, Unlinked, Release}
use Rattle.file_store.specs.declared.file_operation.FileAnswer.TheVariants as file_answer
use Rattle.path_walk.specs.declared.route.Manner.TheVariants.{OnWay}
use Rattle.path_walk.specs.declared.route.Spot.{Spot}
use Rattle.path_walk.specs.declared.route.Station.{Station}
use Rattle.path_walk.specs.declared.route.End.{End}
use Rattle.path_walk.specs.declared.route.End.TheVariants.{Directory, File, LinkText}
use Rattle.path_walk.specs.declared.act.PathAt.{PathAt}
use Rattle.path_walk.specs.declared.open_request.OpenFlags.{OpenFlags}
use Rattle.path_walk.specs.declared.open_request.OpenRequest.{OpenRequest}
use Rattle.path_walk.specs.declared.open_request.OpenRoute.{OpenRoute}
use Rattle.path_walk.specs.declared.step.CellId.TheVariants.{Names as NamesCell, Files as FilesCell, Descriptors as DescriptorsCell}
use Rattle.path_walk.specs.declared.step.StoreOp.TheVariants.{Names as NamesOp, Files as FilesOp, Descriptors as DescriptorsOp}
use Rattle.path_walk.specs.declared.step.StoreAnswer.TheVariants.{Names as NamesAnswer, Files as FilesAnswer, Descriptors as DescriptorsAnswer}
use Rattle.path_walk.specs.declared.step.StepAnswer.{StepAnswer}
use Rattle.path_walk.specs.declared.step.StepAnswer.TheVariants.{Answered}
use Rattle.path_walk.specs.declared.call.Base.{Base}
use Rattle.path_walk.specs.declared.call.Reply.TheVariants as reply
use Rattle.path_walk.specs.Paths.{name_in, parts_before, parts_of, last_of, slash_of, path_fault}
use Rattle.path_walk.specs.PathMeaning.{start_in, station, root_of, spot_beside, start_of}
use Rattle.path_walk.specs.Walk.{node_in}
use Rattle.path_walk.specs.Plans.{Plan, replies, steps, walks, fails, ok_unless, unless_fault, cell_of_id, from_base, reply_to, fault_in}

-- The flags.

-- flags that do not go together, before any step (own)
abbrev pub reads_only : Access → Bool
reads_only Read = true
reads_only Write = false
reads_only ReadWrite = false

abbrev pub flags_fault : OpenFlags → Option Errno
flags_fault flags =
    if (flags.excl && not flags.creat) || (flags.trunc && reads_only flags.access) || (flags.creat && flags.directory) then Some Einval
    else None

abbrev pub mode_of : OpenFlags → Mode
mode_of flags = record { access = flags.access; append = flags.append }

-- what is there must not be
abbrev pub is_exclusive : OpenFlags → Bool
is_exclusive flags = flags.creat && flags.excl

-- why nothing is made where nothing is: it is not asked for, or a slash asks for a directory (own)
abbrev pub absent_fault : OpenFlags → Bool → Option Errno
absent_fault flags slash = if flags.creat && not slash then None else Some Enoent

-- why a directory is not opened
abbrev pub directory_fault : OpenFlags → Option Errno
directory_fault flags =
    if is_exclusive flags then Some Eexist
    else if flags.creat || not (reads_only flags.access) then Some Eisdir
    else None

-- why a link is not followed. A slash has it followed
abbrev pub link_fault : OpenFlags → Bool → Option Errno
link_fault flags true = None
link_fault flags false = if is_exclusive flags then Some Eexist else if flags.nofollow then Some Eloop else None

-- why a file is not opened
abbrev pub file_fault : OpenFlags → Bool → Option Errno
file_fault flags slash = if is_exclusive flags then Some Eexist else if slash || flags.directory then Some Enotdir else None

-- The path: a last name is kept apart, and where the last component is none, all of the path is walked.

abbrev pub route_to : List ℕ → OpenRoute
route_to path = record {
  route = record { parts = parts_before (last_of (parts_of path)) (parts_of path); last = None; manner = OnWay; slash = slash_of path };
  name = name_in (last_of (parts_of path));
}

abbrev pub open_route : List ℕ → Result OpenRoute Errno
open_route path = ok_unless (path_fault path) (route_to path)

-- The ends.

-- a failure frees the number
abbrev pub drops : ℕ → Errno → Plan
drops number error = steps DescriptorsCell (DescriptorsOp (Drop number)) (λ given. fails error)

abbrev pub unless_drops : ℕ → Option Errno → Plan → Plan
unless_drops number (Some error) plan = drops number error
unless_drops number None plan = plan

-- an answer that is not the one that is needed: its error
abbrev pub drops_by : ℕ → StepAnswer → Plan
drops_by number given = drops number (unwrap_or (fault_in given) Enoent)

-- the number names what was opened
abbrev pub fills : ℕ → FdOp → Plan
fills number op = steps DescriptorsCell (DescriptorsOp op) (λ given. unless_drops number (fault_in given) (replies (reply.Fd number)))

abbrev pub opens_directory : OpenRequest → Spot → Plan
opens_directory request there = unless_drops request.number (directory_fault request.flags) (fills request.number (FillDir request.number there.backend there.directory))

-- the new description of a file that is there
abbrev pub description_in : StepAnswer → Option ℕ
description_in (Answered (FilesAnswer (file_answer.Desc description))) = Some description
description_in given = None

abbrev pub attached_by : ℕ → ℕ → StepAnswer → Option ℕ → Plan
attached_by number backend given (Some description) = fills number (FillFile number backend description)
attached_by number backend given None = drops_by number given

abbrev pub attached_plan : ℕ → ℕ → StepAnswer → Plan
attached_plan number backend given = attached_by number backend given (description_in given)

abbrev pub opens_file : OpenRequest → ℕ → ℕ → Plan
opens_file request backend file =
    unless_drops request.number (file_fault request.flags request.slash)
    (steps (cell_of_id backend file) (FilesOp (Attach file (mode_of request.flags) request.flags.trunc)) (attached_plan request.number backend))

-- the file that was made, and its description
abbrev pub file_in : StepAnswer → Option (ℕ × ℕ)
file_in (Answered (FilesAnswer (file_answer.File file description))) = Some (file, description)
file_in given = None

-- The last name. How the walk goes on at a link there is `follow`.

module _ (follow : OpenRequest → Station → OpenRoute → Plan) where
  -- a link's text, from the directory in which it stands. Its own slash asks for a directory too
  abbrev pub follows : ℕ → OpenRequest → ℕ → Spot → List ℕ → Plan
  follows zero request names here text = drops request.number Eloop
  follows (suc links) request names here text = follow (record request { slash = request.slash || slash_of text }) (station names links (start_of text here)) (route_to text)

  -- what stands under the name, in a directory
  abbrev pub found_plan : OpenRequest → Station → Node → Plan
  found_plan request here (Dir id) = opens_directory request (spot_beside here.spot id)
  found_plan request here (Mount backend) = opens_directory request (root_of backend)
  found_plan request here (FileNode file) = opens_file request here.spot.backend file
  found_plan request here (Link id text) = unless_drops request.number (link_fault request.flags request.slash) (follows here.links request here.names here.spot text)

  abbrev pub meant_plan : OpenRequest → Station → Result Node Errno → Plan
  meant_plan request here (Ok node) = found_plan request here node
  meant_plan request here (Err error) = drops request.number error

  -- a file was made in vain: it is unlinked and its description is released
  abbrev pub unlinked_plan : OpenRequest → Station → ℕ → Result Node Errno → StepAnswer → Plan
  unlinked_plan request here description found given =
      unless_drops request.number (fault_in given)
      (steps (cell_of_id here.spot.backend description) (FilesOp (Release description)) (λ given.
      unless_drops request.number (fault_in given) (meant_plan request here found)))

  abbrev pub unmakes : OpenRequest → Station → ℕ → ℕ → Result Node Errno → Plan
  unmakes request here file description found = steps (cell_of_id here.spot.backend file) (FilesOp (Unlinked file)) (unlinked_plan request here description found)

  -- a file was made, and its name was to be added
  abbrev pub added_plan : OpenRequest → Station → ℕ → ℕ → StepAnswer → Plan
  added_plan request here file description (Answered (NamesAnswer answer.Done)) = fills request.number (FillFile request.number here.spot.backend description)
  added_plan request here file description (Answered (NamesAnswer (answer.Taken node))) = unmakes request here file description (Ok node)
  added_plan request here file description (Answered (NamesAnswer answer.Gone)) = unmakes request here file description (Err Enoent)
  added_plan request here file description given = drops_by request.number given

  abbrev pub made_by : OpenRequest → Station → List ℕ → StepAnswer → Option (ℕ × ℕ) → Plan
  made_by request here name given (Some (file, description)) = steps (NamesCell here.spot.backend) (NamesOp (Addfile here.spot.directory name file)) (added_plan request here file description)
  made_by request here name given None = drops_by request.number given

  abbrev pub made_plan : OpenRequest → Station → List ℕ → StepAnswer → Plan
  made_plan request here name given = made_by request here name given (file_in given)

  -- in the group that is the number modulo `group_count`, beside the directory
  abbrev pub makes : OpenRequest → Station → List ℕ → Plan
  makes request here name = steps (FilesCell here.spot.backend (request.number % group_count)) (FilesOp (Make (mode_of request.flags))) (made_plan request here name)

  abbrev pub looked_plan : OpenRequest → Station → List ℕ → Result (Option Node) Errno → Plan
  looked_plan request here name (Err error) = drops request.number error
  looked_plan request here name (Ok None) = unless_drops request.number (absent_fault request.flags request.slash) (makes request here name)
  looked_plan request here name (Ok (Some node)) = found_plan request here node

  abbrev pub looks : OpenRequest → ℕ → ℕ → Spot → List ℕ → Plan
  looks request zero links here name = drops request.number Enametoolong
  looks request (suc names) links here name = steps (NamesCell here.backend) (NamesOp (Look here.directory name)) (λ given. looked_plan request (station names links here) name (node_in given))

  -- at the end of the walk before the last name
  abbrev pub open_end : OpenRequest → Option (List ℕ) → Result End Errno → Plan
  open_end request name (Err error) = drops request.number error
  open_end request None (Ok (Directory there)) = opens_directory request there.spot
  open_end request (Some name) (Ok (Directory there)) = looks request there.names there.links there.spot name
  open_end request name (Ok (File backend file)) = drops request.number Enotdir
  open_end request name (Ok (LinkText text)) = drops request.number Enotdir

-- The walks: one along the path, and one along each link that was met under a last name. So many of them there are at most,
-- since each link may be followed once.
abbrev pub open_walks_max : ℕ
open_walks_max = symloop_max + 1

unfoldable pub opens_along : ℕ → OpenRequest → Station → OpenRoute → Plan
opens_along zero request from route = drops request.number Eloop
opens_along (suc walks_left) request from route = walks from route.route (open_end (opens_along walks_left) request route.name)

-- The call.

-- a reserved number
abbrev pub request_of : ℕ → OpenFlags → Bool → OpenRequest
request_of number flags slash = record { number = number; flags = flags; slash = slash }

-- in the directory in which the path starts
abbrev pub opens_in : OpenRequest → OpenRoute → Result Spot Errno → Plan
opens_in request route (Ok spot) = opens_along open_walks_max request (start_in spot) route
opens_in request route (Err error) = drops request.number error

abbrev pub opens_by : ℕ → OpenFlags → Option Base → Result OpenRoute Errno → Plan
opens_by number flags base (Err error) = drops number error
opens_by number flags base (Ok route) = from_base base (opens_in (request_of number flags route.route.slash) route)

abbrev pub reserved_plan : OpenFlags → Option Base → Result OpenRoute Errno → StepAnswer → Plan
reserved_plan flags base route (Answered (DescriptorsAnswer (fd_answer.Fd number))) = opens_by number flags base route
reserved_plan flags base route given = replies (reply_to given)

abbrev pub opens : PathAt → OpenFlags → Plan
opens at flags = unless_fault (flags_fault flags) (steps DescriptorsCell (DescriptorsOp Reserve) (reserved_plan flags at.base (open_route at.path)))
