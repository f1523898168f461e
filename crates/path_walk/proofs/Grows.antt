-- What holds of the plan of each call on files, since it holds of replies, of steps and of walks: how many steps it takes,
-- or which backends it asks.
use Rattle.std.proofs.Common.{ℕ, ◌+◌, ◌≤◌, zero, suc, Bool, true, false, if◌then◌else◌, List, [], ◌∷◌, Option, None, Some, Result, Ok, Err, arith}
use Rattle.wf_core.specs.Limits.{path_names_max}
use Rattle.wf_core.specs.declared.errno.Errno.{Errno}
use Rattle.wf_core.specs.declared.errno.Errno.TheVariants.{Enoent, Eloop, Enotdir, Enametoolong}
use Rattle.name_store.specs.declared.operation.Node.{Node}
use Rattle.name_store.specs.declared.operation.Node.TheVariants.{Dir, Link, File as FileNode, Mount}
use Rattle.name_store.specs.declared.operation.NameOp.{NameOp}
use Rattle.name_store.specs.declared.operation.NameOp.TheVariants.{Look, Addfile}
use Rattle.name_store.specs.declared.operation.NameAnswer.TheVariants as answer
use Rattle.file_store.specs.declared.descriptor_operation.FdOp.{FdOp}
use Rattle.file_store.specs.declared.descriptor_operation.FdOp.TheVariants as fd
use Rattle.file_store.specs.declared.descriptor_operation.FdAnswer.TheVariants as fd_answer
use Rattle.file_store.specs.declared.file_operation.FileOp.{FileOp}
use Rattle.file_store.specs.declared.file_operation.FileOp.TheVariants.{Make, Attach, Unlinked, Release}
use Rattle.path_walk.specs.declared.route.Spot.{Spot}
use Rattle.path_walk.specs.declared.route.Station.{Station}
use Rattle.path_walk.specs.declared.route.End.{End}
use Rattle.path_walk.specs.declared.route.End.TheVariants.{Directory, File, LinkText}
use Rattle.path_walk.specs.declared.route.Route.{Route}
use Rattle.path_walk.specs.declared.open_request.OpenFlags.{OpenFlags}
use Rattle.path_walk.specs.declared.open_request.OpenRequest.{OpenRequest}
use Rattle.path_walk.specs.declared.open_request.OpenRoute.{OpenRoute}
use Rattle.path_walk.specs.declared.descriptor_call.DataCall.{DataCall}
use Rattle.path_walk.specs.declared.step.CellId.TheVariants.{Names as NamesCell, Descriptors as DescriptorsCell}
use Rattle.path_walk.specs.declared.step.StoreOp.{StoreOp}
use Rattle.path_walk.specs.declared.step.StoreOp.TheVariants.{Names as NamesOp, Files as FilesOp, Descriptors as DescriptorsOp}
use Rattle.path_walk.specs.declared.step.StoreAnswer.TheVariants.{Names as NamesAnswer, Files as FilesAnswer, Descriptors as DescriptorsAnswer}
use Rattle.path_walk.specs.declared.step.StepAnswer.{StepAnswer}
use Rattle.path_walk.specs.declared.step.StepAnswer.TheVariants.{Answered, Cancelled, Closed}
use Rattle.path_walk.specs.declared.act.PathAt.{PathAt}
use Rattle.path_walk.specs.declared.call.Base.{Base}
use Rattle.path_walk.specs.declared.call.Base.TheVariants.{Cwd, Fd}
use Rattle.path_walk.specs.declared.call.Reply.{Reply}
use Rattle.path_walk.specs.declared.call.Reply.TheVariants as reply
use Rattle.path_walk.specs.Paths.{is_absolute}
use Rattle.path_walk.specs.PathMeaning.{station, root_of, spot_beside, start_in, start_of}
use Rattle.path_walk.specs.Walk.{node_in}
use Rattle.path_walk.specs.Plans.{Plan, replies, steps, walks, fails, cell_of_id, fault_in, from_base, op_of_base, reply_to, spot_in, unless_told, unless_fault, walks_from, walks_in}
use Rattle.path_walk.specs.DescriptorCalls.{op_of_data, data_step_plan, data_plan, releases, number_plan, changes_numbers, enters, enters_number}
use Rattle.path_walk.specs.OpenPlan.{flags_fault, directory_fault, file_fault, link_fault, absent_fault, mode_of, route_to, open_route, drops, unless_drops, fills, opens_directory, attached_by, description_in, file_in, made_by, opens_file, follows, found_plan, meant_plan, unlinked_plan, unmakes, added_plan, makes, looked_plan, looks, open_end, open_walks_max, opens_along, request_of, opens_in, opens_by, reserved_plan, opens}
use Rattle.path_walk.proofs.Plans.{EndIs}

-- a found node is of a backend that is so
abbrev pub NodeIs : (ℕ → Type 0) → Node → Type 0
NodeIs There (Mount backend) = There backend
NodeIs There node = Unit {0}

abbrev pub FoundIs : (ℕ → Type 0) → Result (Option Node) Errno → Type 0
FoundIs There (Ok (Some node)) = NodeIs There node
FoundIs There found = Unit {0}

-- the numbers are to name something of a backend that is so, or the current directory is to be of one
abbrev pub FillIs : (ℕ → Type 0) → FdOp → Type 0
FillIs There (fd.FillFile number backend description) = There backend
FillIs There (fd.FillDir number backend directory) = There backend
FillIs There (fd.Setcwd backend directory) = There backend
FillIs There op = Unit {0}

-- the names that are left at an end
abbrev pub names_left : Result End Errno → ℕ
names_left (Ok (Directory there)) = there.names
names_left end = 0

-- a fact of plans of so many steps, which grows with each step, where steps are on backends that are so and are told so
pub record Grows (P : ℕ → Plan → Type 0) (There : ℕ → Type 0) (Told : StoreOp → StepAnswer → Type 0) : Type 0 where
  pub over : (most : ℕ) (given : Reply) → P most (replies given)
  pub more : (few most : ℕ) (p : Plan) → few ≤ most → P few p → P most p
  pub on_names : (few backend : ℕ) (op : NameOp) (next : StepAnswer → Plan) → There backend → ((given : StepAnswer) → Told (NamesOp op) given → P few (next given)) → P (suc few) (steps (NamesCell backend) (NamesOp op) next)
  pub on_files : (few backend id : ℕ) (op : FileOp) (next : StepAnswer → Plan) → There backend → ((given : StepAnswer) → Told (FilesOp op) given → P few (next given)) → P (suc few) (steps (cell_of_id backend id) (FilesOp op) next)
  pub on_numbers : (few : ℕ) (op : FdOp) (next : StepAnswer → Plan) → FillIs There op → ((given : StepAnswer) → Told (DescriptorsOp op) given → P few (next given)) → P (suc few) (steps DescriptorsCell (DescriptorsOp op) next)
  pub along : (few : ℕ) (from : Station) (route : Route) (next : Result End Errno → Plan) → There from.spot.backend → ((end : Result End Errno) → EndIs There end → P (names_left end + few) (next end)) → P (from.names + few) (walks from route next)
  pub root : There 0
  pub found : (op : NameOp) (given : StepAnswer) → Told (NamesOp op) given → FoundIs There (node_in given)
  pub taken : (op : NameOp) (node : Node) → Told (NamesOp op) (Answered (NamesAnswer (answer.Taken node))) → NodeIs There node
  pub named : (op : FdOp) (backend description : ℕ) → Told (DescriptorsOp op) (Answered (DescriptorsAnswer (fd_answer.File backend description))) → There backend
  pub named_dir : (op : FdOp) (backend directory : ℕ) → Told (DescriptorsOp op) (Answered (DescriptorsAnswer (fd_answer.Dir backend directory))) → There backend
  pub last : (op : FdOp) (backend description : ℕ) → Told (DescriptorsOp op) (Answered (DescriptorsAnswer (fd_answer.Last backend description))) → There backend
  pub fd_last : (op : FdOp) (number backend description : ℕ) → Told (DescriptorsOp op) (Answered (DescriptorsAnswer (fd_answer.FdLast number backend description))) → There backend

module _ (P : ℕ → Plan → Type 0) (There : ℕ → Type 0) (Told : StoreOp → StepAnswer → Type 0) (grows : Grows P There Told) where
  -- Calls by a descriptor.

  use_so : (op : FdOp) (purpose : DataCall) (given : StepAnswer) → Told (DescriptorsOp op) given → P 1 (data_step_plan purpose given)
  use_so op purpose (Answered (DescriptorsAnswer (fd_answer.File backend description))) told = grows.on_files 0 backend description (op_of_data purpose description) _ (grows.named op backend description told) (λ given so. grows.over 0 (reply_to given))
  use_so op purpose (Answered (DescriptorsAnswer (fd_answer.Dir backend directory))) told = grows.over 1 _
  use_so op purpose (Answered (DescriptorsAnswer (fd_answer.Fd number))) told = grows.over 1 _
  use_so op purpose (Answered (DescriptorsAnswer (fd_answer.FdLast number backend description))) told = grows.over 1 _
  use_so op purpose (Answered (DescriptorsAnswer fd_answer.Done)) told = grows.over 1 _
  use_so op purpose (Answered (DescriptorsAnswer (fd_answer.Last backend description))) told = grows.over 1 _
  use_so op purpose (Answered (DescriptorsAnswer (fd_answer.Fault error))) told = grows.over 1 _
  use_so op purpose (Answered (NamesAnswer given)) told = grows.over 1 _
  use_so op purpose (Answered (FilesAnswer given)) told = grows.over 1 _
  use_so op purpose Cancelled told = grows.over 1 _
  use_so op purpose Closed told = grows.over 1 _

  pub uses_so : (number : ℕ) (purpose : DataCall) → P 2 (data_plan number purpose)
  uses_so number purpose = grows.on_numbers 1 (fd.Look number) (data_step_plan purpose) tt (λ given told. use_so (fd.Look number) purpose given told)

  releases_so : (backend description : ℕ) (given : Reply) → There backend → P 1 (releases backend description given)
  releases_so backend description given there = grows.on_files 0 backend description (Release description) _ there (λ told so. grows.over 0 (unless_told (fault_in told) given))

  number_so : (op : FdOp) (given : StepAnswer) → Told (DescriptorsOp op) given → P 1 (number_plan given)
  number_so op (Answered (DescriptorsAnswer (fd_answer.Last backend description))) told = releases_so backend description reply.Done (grows.last op backend description told)
  number_so op (Answered (DescriptorsAnswer (fd_answer.FdLast number backend description))) told = releases_so backend description (reply.Fd number) (grows.fd_last op number backend description told)
  number_so op (Answered (DescriptorsAnswer (fd_answer.File backend description))) told = grows.over 1 _
  number_so op (Answered (DescriptorsAnswer (fd_answer.Dir backend directory))) told = grows.over 1 _
  number_so op (Answered (DescriptorsAnswer (fd_answer.Fd number))) told = grows.over 1 _
  number_so op (Answered (DescriptorsAnswer fd_answer.Done)) told = grows.over 1 _
  number_so op (Answered (DescriptorsAnswer (fd_answer.Fault error))) told = grows.over 1 _
  number_so op (Answered (NamesAnswer given)) told = grows.over 1 _
  number_so op (Answered (FilesAnswer given)) told = grows.over 1 _
  number_so op Cancelled told = grows.over 1 _
  number_so op Closed told = grows.over 1 _

  pub changes_so : (op : FdOp) → FillIs There op → P 2 (changes_numbers op)
  changes_so op fill = grows.on_numbers 1 op number_plan fill (number_so op)

  -- Starts.

  -- a start is in a backend that is so
  abbrev pub StartIs : Result Spot Errno → Type 0
  StartIs (Ok spot) = There spot.backend
  StartIs (Err error) = Unit {0}

  start_told : (op : FdOp) (given : StepAnswer) → Told (DescriptorsOp op) given → StartIs (spot_in given)
  start_told op (Answered (DescriptorsAnswer (fd_answer.Dir backend directory))) told = grows.named_dir op backend directory told
  start_told op (Answered (DescriptorsAnswer (fd_answer.File backend description))) told = tt
  start_told op (Answered (DescriptorsAnswer (fd_answer.Fd number))) told = tt
  start_told op (Answered (DescriptorsAnswer (fd_answer.FdLast number backend description))) told = tt
  start_told op (Answered (DescriptorsAnswer fd_answer.Done)) told = tt
  start_told op (Answered (DescriptorsAnswer (fd_answer.Last backend description))) told = tt
  start_told op (Answered (DescriptorsAnswer (fd_answer.Fault error))) told = tt
  start_told op (Answered (NamesAnswer given)) told = tt
  start_told op (Answered (FilesAnswer given)) told = tt
  start_told op Cancelled told = tt
  start_told op Closed told = tt

  base_fills : (base : Base) → FillIs There (op_of_base base)
  base_fills Cwd = tt
  base_fills (Fd number) = tt

  -- from a base, one step more
  from_so : (few : ℕ) (base : Option Base) (next : Result Spot Errno → Plan) → ((start : Result Spot Errno) → StartIs start → P few (next start)) → P (suc few) (from_base base next)
  from_so few None next each = grows.more few (suc few) (next (Ok (root_of 0))) (omega arith) (each (Ok (root_of 0)) grows.root)
  from_so few (Some base) next each = grows.on_numbers few (op_of_base base) _ (base_fills base) (λ given told. each (spot_in given) (start_told (op_of_base base) given told))

  walks_in_so : (few : ℕ) (route : Route) (next : Result End Errno → Plan) → ((end : Result End Errno) → EndIs There end → P (names_left end + few) (next end)) → (start : Result Spot Errno) → StartIs start → P (path_names_max + few) (walks_in route next start)
  walks_in_so few route next each (Ok spot) there = grows.along few (start_in spot) route next there each
  walks_in_so few route next each (Err error) there = grows.more (0 + few) (path_names_max + few) (next (Err error)) (omega arith) (each (Err error) tt)

  pub walks_so : (few : ℕ) (base : Option Base) (route : Route) (next : Result End Errno → Plan) → ((end : Result End Errno) → EndIs There end → P (names_left end + few) (next end)) → P (suc (path_names_max + few)) (walks_from base route next)
  walks_so few base route next each = from_so (path_names_max + few) base (walks_in route next) (walks_in_so few route next each)

  enters_so : (start : Result Spot Errno) → StartIs start → P 1 (enters start)
  enters_so (Ok there) so = grows.on_numbers 0 (fd.Setcwd there.backend there.directory) _ so (λ given told. grows.over 0 (reply_to given))
  enters_so (Err error) so = grows.over 1 (reply.Fault error)

  pub sets_so : (there : Spot) → There there.backend → P 1 (enters (Ok there))
  sets_so there so = enters_so (Ok there) so

  pub enters_number_so : (number : ℕ) → P 2 (enters_number number)
  enters_number_so number = from_so 1 (Some (Fd number)) enters enters_so

  -- `open`.

  drops_so : (number : ℕ) (error : Errno) → P 1 (drops number error)
  drops_so number error = grows.on_numbers 0 (fd.Drop number) (λ given. fails error) tt (λ given so. grows.over 0 (reply.Fault error))

  drops_more : (most number : ℕ) (error : Errno) → 1 ≤ most → P most (drops number error)
  drops_more most number error le = grows.more 1 most (drops number error) le (drops_so number error)

  unless_so : (most number : ℕ) (fault : Option Errno) (p : Plan) → 1 ≤ most → P most p → P most (unless_drops number fault p)
  unless_so most number (Some error) p le h = drops_more most number error le
  unless_so most number None p le h = h

  fills_so : (number : ℕ) (op : FdOp) → FillIs There op → P 2 (fills number op)
  fills_so number op fill = grows.on_numbers 1 op _ fill (λ given so. unless_so 1 number (fault_in given) (replies (reply.Fd number)) (omega arith) (grows.over 1 (reply.Fd number)))

  directory_so : (request : OpenRequest) (there : Spot) → There there.backend → P 3 (opens_directory request there)
  directory_so request there so = unless_so 3 request.number (directory_fault request.flags) _ (omega arith) (grows.more 2 3 _ (omega arith) (fills_so request.number (fd.FillDir request.number there.backend there.directory) so))

  attached_so : (number backend : ℕ) (given : StepAnswer) (found : Option ℕ) → There backend → P 2 (attached_by number backend given found)
  attached_so number backend given (Some description) there = fills_so number (fd.FillFile number backend description) there
  attached_so number backend given None there = drops_more 2 number _ (omega arith)

  file_so : (request : OpenRequest) (backend file : ℕ) → There backend → P 3 (opens_file request backend file)
  file_so request backend file there = unless_so 3 request.number (file_fault request.flags request.slash) _ (omega arith) (grows.on_files 2 backend file (Attach file (mode_of request.flags) request.flags.trunc) _ there (λ given so. attached_so request.number backend given (description_in given) there))

  start_so : (text : List ℕ) (here : Spot) → There here.backend → There (start_of text here).backend
  start_so text here there = by_slash (is_absolute text)
    where
      by_slash : (slash : Bool) → There (if slash then root_of 0 else here).backend
      by_slash true = grows.root
      by_slash false = there

  module _ (follow : OpenRequest → Station → OpenRoute → Plan) (few : ℕ) (enough : 3 ≤ few) (on : (request : OpenRequest) (from : Station) (route : OpenRoute) → There from.spot.backend → P (from.names + few) (follow request from route)) where
    follows_so : (links : ℕ) (request : OpenRequest) (names : ℕ) (here : Spot) (text : List ℕ) → There here.backend → P (names + few) (follows follow links request names here text)
    follows_so zero request names here text there = drops_more (names + few) request.number Eloop (omega (arith, enough))
    follows_so (suc links) request names here text there = on _ (station names links (start_of text here)) (route_to text) (start_so text here there)

    found_so : (request : OpenRequest) (here : Station) (node : Node) → There here.spot.backend → NodeIs There node → P (here.names + few) (found_plan follow request here node)
    found_so request here (Dir id) there so = grows.more 3 (here.names + few) _ (omega (arith, enough)) (directory_so request (spot_beside here.spot id) there)
    found_so request here (Mount backend) there so = grows.more 3 (here.names + few) _ (omega (arith, enough)) (directory_so request (root_of backend) so)
    found_so request here (FileNode file) there so = grows.more 3 (here.names + few) _ (omega (arith, enough)) (file_so request here.spot.backend file there)
    found_so request here (Link id text) there so = unless_so (here.names + few) request.number (link_fault request.flags request.slash) _ (omega (arith, enough)) (follows_so here.links request here.names here.spot text there)

    abbrev MeantIs : Result Node Errno → Type 0
    MeantIs (Ok node) = NodeIs There node
    MeantIs (Err error) = Unit {0}

    meant_so : (request : OpenRequest) (here : Station) (found : Result Node Errno) → There here.spot.backend → MeantIs found → P (here.names + few) (meant_plan follow request here found)
    meant_so request here (Ok node) there so = found_so request here node there so
    meant_so request here (Err error) there so = drops_more (here.names + few) request.number error (omega (arith, enough))

    unlinked_so : (request : OpenRequest) (here : Station) (description : ℕ) (found : Result Node Errno) (given : StepAnswer) → There here.spot.backend → MeantIs found → P (suc (here.names + few)) (unlinked_plan follow request here description found given)
    unlinked_so request here description found given there so =
        unless_so (suc (here.names + few)) request.number (fault_in given) _ (omega arith)
        (grows.on_files (here.names + few) here.spot.backend description (Release description) _ there (λ told at.
        unless_so (here.names + few) request.number (fault_in told) _ (omega (arith, enough)) (meant_so request here found there so)))

    unmakes_so : (request : OpenRequest) (here : Station) (file description : ℕ) (found : Result Node Errno) → There here.spot.backend → MeantIs found → P (suc (suc (here.names + few))) (unmakes follow request here file description found)
    unmakes_so request here file description found there so = grows.on_files (suc (here.names + few)) here.spot.backend file (Unlinked file) _ there (λ given at. unlinked_so request here description found given there so)

    added_so : (op : NameOp) (request : OpenRequest) (here : Station) (file description : ℕ) (given : StepAnswer) → There here.spot.backend → Told (NamesOp op) given → P (suc (suc (here.names + few))) (added_plan follow request here file description given)
    added_so op request here file description (Answered (NamesAnswer answer.Done)) there told = grows.more 2 (suc (suc (here.names + few))) _ (omega arith) (fills_so request.number (fd.FillFile request.number here.spot.backend description) there)
    added_so op request here file description (Answered (NamesAnswer (answer.Taken node))) there told = unmakes_so request here file description (Ok node) there (grows.taken op node told)
    added_so op request here file description (Answered (NamesAnswer answer.Gone)) there told = unmakes_so request here file description (Err Enoent) there tt
    added_so op request here file description (Answered (NamesAnswer (answer.Fault error))) there told = drops_more _ request.number _ (omega arith)
    added_so op request here file description (Answered (NamesAnswer answer.Absent)) there told = drops_more _ request.number _ (omega arith)
    added_so op request here file description (Answered (NamesAnswer (answer.Found node))) there told = drops_more _ request.number _ (omega arith)
    added_so op request here file description (Answered (NamesAnswer (answer.MadeDir id))) there told = drops_more _ request.number _ (omega arith)
    added_so op request here file description (Answered (NamesAnswer (answer.MadeLink id))) there told = drops_more _ request.number _ (omega arith)
    added_so op request here file description (Answered (NamesAnswer (answer.RemovedFile other))) there told = drops_more _ request.number _ (omega arith)
    added_so op request here file description (Answered (NamesAnswer answer.RemovedLink)) there told = drops_more _ request.number _ (omega arith)
    added_so op request here file description (Answered (NamesAnswer answer.Same)) there told = drops_more _ request.number _ (omega arith)
    added_so op request here file description (Answered (NamesAnswer (answer.Over other))) there told = drops_more _ request.number _ (omega arith)
    added_so op request here file description (Answered (NamesAnswer answer.Moved)) there told = drops_more _ request.number _ (omega arith)
    added_so op request here file description (Answered (NamesAnswer (answer.Names names))) there told = drops_more _ request.number _ (omega arith)
    added_so op request here file description (Answered (FilesAnswer given)) there told = drops_more _ request.number _ (omega arith)
    added_so op request here file description (Answered (DescriptorsAnswer given)) there told = drops_more _ request.number _ (omega arith)
    added_so op request here file description Cancelled there told = drops_more _ request.number _ (omega arith)
    added_so op request here file description Closed there told = drops_more _ request.number _ (omega arith)

    made_so : (request : OpenRequest) (here : Station) (name : List ℕ) (given : StepAnswer) (made : Option (ℕ × ℕ)) → There here.spot.backend → P (suc (suc (suc (here.names + few)))) (made_by follow request here name given made)
    made_so request here name given (Some (file, description)) there = grows.on_names (suc (suc (here.names + few))) here.spot.backend (Addfile here.spot.directory name file) _ there (λ given told. added_so (Addfile here.spot.directory name file) request here file description given there told)
    made_so request here name given None there = drops_more _ request.number _ (omega arith)

    makes_so : (request : OpenRequest) (here : Station) (name : List ℕ) → There here.spot.backend → P (suc (suc (suc (suc (here.names + few))))) (makes follow request here name)
    makes_so request here name there = grows.on_files (suc (suc (suc (here.names + few)))) here.spot.backend request.number (Make (mode_of request.flags)) _ there (λ given told. made_so request here name given (file_in given) there)

    looked_so : (request : OpenRequest) (here : Station) (name : List ℕ) (found : Result (Option Node) Errno) → There here.spot.backend → FoundIs There found → P (suc (suc (suc (suc (here.names + few))))) (looked_plan follow request here name found)
    looked_so request here name (Err error) there so = drops_more _ request.number error (omega arith)
    looked_so request here name (Ok None) there so = unless_so _ request.number (absent_fault request.flags request.slash) _ (omega arith) (makes_so request here name there)
    looked_so request here name (Ok (Some node)) there so = grows.more (here.names + few) _ _ (omega arith) (found_so request here node there so)

    looks_so : (request : OpenRequest) (names links : ℕ) (here : Spot) (name : List ℕ) → There here.backend → P (names + (4 + few)) (looks follow request names links here name)
    looks_so request zero links here name there = drops_more _ request.number Enametoolong (omega arith)
    looks_so request (suc names) links here name there =
        grows.more (suc (suc (suc (suc (suc (names + few)))))) (suc names + (4 + few)) _ (omega arith)
        (grows.on_names (suc (suc (suc (suc (names + few))))) here.backend (Look here.directory name) _ there (λ given told.
        looked_so request (station names links here) name (node_in given) there (grows.found (Look here.directory name) given told)))

    end_so : (request : OpenRequest) (name : Option (List ℕ)) (end : Result End Errno) → EndIs There end → P (names_left end + (4 + few)) (open_end follow request name end)
    end_so request name (Err error) there = drops_more _ request.number error (omega arith)
    end_so request None (Ok (Directory at)) there = grows.more 3 _ _ (omega arith) (directory_so request at.spot there)
    end_so request (Some name) (Ok (Directory at)) there = looks_so request at.names at.links at.spot name there
    end_so request name (Ok (File backend file)) there = drops_more _ request.number Enotdir (omega arith)
    end_so request name (Ok (LinkText text)) there = drops_more _ request.number Enotdir (omega arith)

  -- the steps of so many walks, beside one for each name
  abbrev pub steps_beside : ℕ → ℕ
  steps_beside zero = 3
  steps_beside (suc walks_left) = 4 + steps_beside walks_left

  beside_enough : (walks_left : ℕ) → 3 ≤ steps_beside walks_left
  beside_enough zero = omega arith
  beside_enough (suc walks_left) = let h = beside_enough walks_left in omega (arith, h)

  along_so : (walks_left : ℕ) (request : OpenRequest) (from : Station) (route : OpenRoute) → There from.spot.backend → P (from.names + steps_beside walks_left) (opens_along walks_left request from route)
  unfolding opens_along
  along_so zero request from route there = drops_more _ request.number Eloop (omega arith)
  along_so (suc walks_left) request from route there = grows.along (4 + steps_beside walks_left) from route.route (open_end (opens_along walks_left) request route.name) there (λ end so. end_so (opens_along walks_left) (steps_beside walks_left) (beside_enough walks_left) (along_so walks_left) request route.name end so)

  in_so : (request : OpenRequest) (route : OpenRoute) (start : Result Spot Errno) → StartIs start → P (path_names_max + steps_beside open_walks_max) (opens_in request route start)
  in_so request route (Ok spot) there = along_so open_walks_max request (start_in spot) route there
  in_so request route (Err error) there = drops_more _ request.number error (omega arith)

  by_so : (number : ℕ) (flags : OpenFlags) (base : Option Base) (route : Result OpenRoute Errno) → P (suc (path_names_max + steps_beside open_walks_max)) (opens_by number flags base route)
  by_so number flags base (Err error) = drops_more _ number error (omega arith)
  by_so number flags base (Ok route) = from_so (path_names_max + steps_beside open_walks_max) base (opens_in (request_of number flags route.route.slash) route) (in_so (request_of number flags route.route.slash) route)

  reserved_so : (flags : OpenFlags) (base : Option Base) (route : Result OpenRoute Errno) (given : StepAnswer) → P (suc (path_names_max + steps_beside open_walks_max)) (reserved_plan flags base route given)
  reserved_so flags base route (Answered (DescriptorsAnswer (fd_answer.Fd number))) = by_so number flags base route
  reserved_so flags base route (Answered (DescriptorsAnswer (fd_answer.FdLast number backend description))) = grows.over _ _
  reserved_so flags base route (Answered (DescriptorsAnswer fd_answer.Done)) = grows.over _ _
  reserved_so flags base route (Answered (DescriptorsAnswer (fd_answer.Last backend description))) = grows.over _ _
  reserved_so flags base route (Answered (DescriptorsAnswer (fd_answer.File backend description))) = grows.over _ _
  reserved_so flags base route (Answered (DescriptorsAnswer (fd_answer.Dir backend directory))) = grows.over _ _
  reserved_so flags base route (Answered (DescriptorsAnswer (fd_answer.Fault error))) = grows.over _ _
  reserved_so flags base route (Answered (NamesAnswer given)) = grows.over _ _
  reserved_so flags base route (Answered (FilesAnswer given)) = grows.over _ _
  reserved_so flags base route Cancelled = grows.over _ _
  reserved_so flags base route Closed = grows.over _ _

  pub opens_so : (at : PathAt) (flags : OpenFlags) → P 425 (opens at flags)
  opens_so at flags = by_fault (flags_fault flags)
    where
      by_fault : (fault : Option Errno) → P 425 (unless_fault fault (steps DescriptorsCell (DescriptorsOp fd.Reserve) (reserved_plan flags at.base (open_route at.path))))
      by_fault (Some error) = grows.over 425 (reply.Fault error)
      by_fault None = grows.on_numbers 424 fd.Reserve _ tt (λ given told. reserved_so flags at.base (open_route at.path) given)
