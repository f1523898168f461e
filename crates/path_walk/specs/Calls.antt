-- Each call as a plan. After POSIX.1-2017,
-- XSH mkdir(), rmdir(), unlink(), symlink(), rename(), readlink(), stat(), lstat(), chdir() and the forms of them that
-- end in `at`; `list` is this project's own, after readdir(), and so is `rmdirat`. A row marked (own) is this project's reading where POSIX leaves it open, or its own limit.
use Rattle.std.specs.Prelude.{◌≡◌, ◌⊎◌, ℕ, ◌==◌, ◌||◌, zero, nat_lt, if◌then◌else◌, Bool, true, List, length, Option, None, Some, Result, Ok, Err}
use Rattle.wf_core.specs.Limits.{symlink_max}
use Rattle.wf_core.specs.declared.errno.Errno.{Errno}
use Rattle.wf_core.specs.declared.errno.Errno.TheVariants.{Enoent, Eexist, Enotdir, Eisdir, Enotempty, Einval, Ebusy, Exdev, Enametoolong}
use Rattle.name_store.specs.declared.operation.NameOp.{NameOp}
use Rattle.name_store.specs.declared.operation.NameOp.TheVariants as op
use Rattle.name_store.specs.declared.operation.NameAnswer.TheVariants as answer
use Rattle.file_store.specs.declared.file_operation.FileOp.TheVariants.{Sizeof, Unlinked}
use Rattle.file_store.specs.declared.descriptor_operation.FdOp.TheVariants as fd
use Rattle.path_walk.specs.declared.descriptor_call.DataCall.TheVariants as on_file
use Rattle.path_walk.specs.declared.part.Part.{Part}
use Rattle.path_walk.specs.declared.part.Part.TheVariants.{Here, Up, Down, TooLong}
use Rattle.path_walk.specs.declared.route.Manner.{Manner}
use Rattle.path_walk.specs.declared.route.Manner.TheVariants.{Follows, Stays}
use Rattle.path_walk.specs.declared.route.Spot.{Spot}
use Rattle.path_walk.specs.declared.route.End.{End}
use Rattle.path_walk.specs.declared.route.End.TheVariants.{Directory, File, LinkText}
use Rattle.path_walk.specs.declared.route.Route.{Route}
use Rattle.path_walk.specs.declared.goal.Change.{Change}
use Rattle.path_walk.specs.declared.goal.Change.TheVariants as change
use Rattle.path_walk.specs.declared.goal.LastFaults.{LastFaults}
use Rattle.path_walk.specs.declared.step.CellId.TheVariants.{Names as NamesCell}
use Rattle.path_walk.specs.declared.step.StoreOp.TheVariants.{Names as NamesOp, Files as FilesOp}
use Rattle.path_walk.specs.declared.step.StoreAnswer.TheVariants.{Names as NamesAnswer}
use Rattle.path_walk.specs.declared.step.StepAnswer.{StepAnswer}
use Rattle.path_walk.specs.declared.step.StepAnswer.TheVariants.{Answered}
use Rattle.path_walk.specs.declared.act.Act.{Act}
use Rattle.path_walk.specs.declared.act.Act.TheVariants as act
use Rattle.path_walk.specs.declared.act.PathAt.{PathAt}
use Rattle.path_walk.specs.declared.call.Base.{Base}
use Rattle.path_walk.specs.declared.call.Base.TheVariants.{Cwd}
use Rattle.path_walk.specs.declared.call.Call.{Call}
use Rattle.path_walk.specs.declared.call.Call.TheVariants as call
use Rattle.path_walk.specs.declared.call.Reply.TheVariants as reply
use Rattle.path_walk.specs.Paths.{is_absolute}
use Rattle.path_walk.specs.Plans.{Plan, replies, steps, fails, unless_fault, on_ok, ok_unless, whole_route, parent_route, walks_from, cell_of_id, reply_to}
use Rattle.path_walk.specs.DescriptorCalls.{changes_numbers, data_plan, enters, enters_number}
use Rattle.path_walk.specs.OpenPlan.{opens}

-- the file that a step on names has left without an entry, which its group is to know
abbrev pub unlinked_by : StepAnswer → Option ℕ
unlinked_by (Answered (NamesAnswer (answer.RemovedFile file))) = Some file
unlinked_by (Answered (NamesAnswer (answer.Over file))) = Some file
unlinked_by given = None

-- after the last step on names of a backend
abbrev pub plan_after : ℕ → StepAnswer → Option ℕ → Plan
plan_after backend given (Some file) = steps (cell_of_id backend file) (FilesOp (Unlinked file)) (λ given. replies (reply_to given))
plan_after backend given None = replies (reply_to given)

abbrev pub last_step : ℕ → NameOp → Plan
last_step backend op = steps (NamesCell backend) (NamesOp op) (λ given. plan_after backend given (unlinked_by given))

-- Calls that walk the whole path.

-- `stat` and `lstat`
abbrev pub status_plan : Result End Errno → Plan
status_plan (Err error) = fails error
status_plan (Ok (Directory there)) = replies reply.Dir
status_plan (Ok (File backend file)) = steps (cell_of_id backend file) (FilesOp (Sizeof file)) (λ given. replies (reply_to given))
status_plan (Ok (LinkText text)) = replies (reply.Link (length text))

-- `readlink`
abbrev pub text_plan : Result End Errno → Plan
text_plan (Err error) = fails error
text_plan (Ok (Directory there)) = fails Einval
text_plan (Ok (File backend file)) = fails Einval
text_plan (Ok (LinkText text)) = replies (reply.Text text)

-- `list`
abbrev pub list_plan : ℕ → Result End Errno → Plan
list_plan start (Err error) = fails error
list_plan start (Ok (Directory there)) = last_step there.spot.backend (op.List there.spot.directory start)
list_plan start (Ok (File backend file)) = fails Enotdir
list_plan start (Ok (LinkText text)) = fails Enotdir

-- the directory at the end of a walk
abbrev pub directory_in : Result End Errno → Result Spot Errno
directory_in (Err error) = Err error
directory_in (Ok (Directory there)) = Ok there.spot
directory_in (Ok (File backend file)) = Err Enotdir
directory_in (Ok (LinkText text)) = Err Enotdir

-- `chdir`
abbrev pub enter_plan : Result End Errno → Plan
enter_plan end = enters (directory_in end)

-- Calls on an entry of the directory to which the path before its last component leads.

-- a last name that is too long, or one more than a path may take
abbrev pub last_fault : Option Part → ℕ → Option Errno
last_fault (Some TooLong) names = Some Enametoolong
last_fault (Some (Down name)) zero = Some Enametoolong
last_fault last names = None

-- the directory at the end of the path before its last component, if that may still be taken
abbrev pub parent_of : Option Part → End → Result Spot Errno
parent_of last (Directory there) = ok_unless (last_fault last there.names) there.spot
parent_of last (File backend file) = Err Enotdir
parent_of last (LinkText text) = Err Enotdir

abbrev pub parent_plan : Option Part → (Spot → Plan) → Result End Errno → Plan
parent_plan last next (Err error) = fails error
parent_plan last next (Ok end) = on_ok (parent_of last end) next

-- a last component that is a name, or else the error that a call has for it
abbrev pub name_of : LastFaults → Option Part → Result (List ℕ) Errno
name_of faults None = Err faults.root
name_of faults (Some Here) = Err faults.dot
name_of faults (Some Up) = Err faults.dot_dot
name_of faults (Some TooLong) = Err Enametoolong
name_of faults (Some (Down name)) = Ok name

abbrev pub last_faults : Errno → Errno → Errno → LastFaults
last_faults dot dot_dot root = record { dot = dot; dot_dot = dot_dot; root = root }

-- what each change replies where the last component is `.`, is `..`, or where there is none: the path is the root.
-- `rmdir` of `..` and of the root are (own)
abbrev pub faults_of : Change → LastFaults
faults_of change.Makedir = last_faults Eexist Eexist Eexist
faults_of change.Remdir = last_faults Einval Enotempty Ebusy
faults_of change.Remfile = last_faults Eisdir Eisdir Eisdir
faults_of (change.Addlink text) = last_faults Eexist Eexist Eexist

-- a link is no directory, so a path that asks for one is ENOENT (own)
abbrev pub slash_fault : Change → Bool → Option Errno
slash_fault (change.Addlink text) true = Some Enoent
slash_fault change slash = None

abbrev pub op_of : Change → ℕ → List ℕ → Bool → NameOp
op_of change.Makedir directory name slash = op.Makedir directory name
op_of change.Remdir directory name slash = op.Remdir directory name
op_of change.Remfile directory name slash = op.Remfile directory name slash
op_of (change.Addlink text) directory name slash = op.Addlink directory name text

abbrev pub change_plan : Change → Option Part → Bool → Spot → Plan
change_plan change last slash spot =
    on_ok (name_of (faults_of change) last) (λ name.
    unless_fault (slash_fault change slash) (last_step spot.backend (op_of change spot.directory name slash)))

-- `symlink`: an empty text is ENOENT, a long one ENAMETOOLONG (own)
abbrev pub text_fault : List ℕ → Option Errno
text_fault text = if length text == 0 then Some Enoent else if nat_lt symlink_max (length text) then Some Enametoolong else None

-- the error of a change before its path
abbrev pub change_fault : Change → Option Errno
change_fault (change.Addlink text) = text_fault text
change_fault change = None

abbrev pub changes : Change → PathAt → Plan
changes change at = on_ok (parent_route at.path) (λ route. walks_from at.base route (parent_plan route.last (change_plan change route.last route.slash)))

-- `rename`: `.` and `..` are EINVAL, the root is EBUSY (own)
abbrev pub move_faults : LastFaults
move_faults = last_faults Einval Einval Ebusy

abbrev pub move_step : Spot → List ℕ → Bool → Spot → List ℕ → Plan
move_step from name slash to new_name = if from.backend == to.backend then last_step from.backend (op.Move from.directory name to.directory new_name slash) else fails Exdev

-- where both paths have led to a directory. The flag says that a slash ends either
abbrev pub move_plan : Spot → Option Part → Bool → Option Part → Spot → Plan
move_plan from last slash new_last to =
    on_ok (name_of move_faults last) (λ name.
    on_ok (name_of move_faults new_last) (λ new_name. move_step from name slash to new_name))

-- where the first path has led to a directory: the second path's own checks come, then its walk
abbrev pub move_on : Option Part → Bool → Option Base → Result Route Errno → Spot → Plan
move_on last slash base new from = on_ok new (λ route. walks_from base route (parent_plan route.last (move_plan from last (slash || route.slash) route.last)))

abbrev pub moves : PathAt → PathAt → Plan
moves at new = on_ok (parent_route at.path) (λ route. walks_from at.base route (parent_plan route.last (move_on route.last route.slash new.base (parent_route new.path))))

-- The acts, and the calls.

abbrev pub whole_plan : Manner → PathAt → (Result End Errno → Plan) → Plan
whole_plan manner at next = on_ok (whole_route manner at.path) (λ route. walks_from at.base route next)

abbrev pub act_plan : Act → Plan
act_plan (act.Entry change at) = unless_fault (change_fault change) (changes change at)
act_plan (act.Move at new) = moves at new
act_plan (act.Status manner at) = whole_plan manner at status_plan
act_plan (act.Text at) = whole_plan Stays at text_plan
act_plan (act.Names at start) = whole_plan Follows at (list_plan start)
act_plan (act.Enter at) = whole_plan Follows at enter_plan
act_plan (act.Open at flags) = opens at flags
act_plan (act.EnterNumber number) = enters_number number
act_plan (act.Numbers op) = changes_numbers op
act_plan (act.Data number purpose) = data_plan number purpose

-- the version of a trace's calls
abbrev pub IsVersion : ℕ → Type 0
IsVersion version = (version ≡ 1) ⊎ (version ≡ 2)

-- a path of a call: in version 1 each starts in the root, in version 2 one that is not absolute starts at its base
abbrev pub path_at : ℕ → Base → List ℕ → PathAt
path_at version base path = record { base = if version == 1 || is_absolute path then None else Some base; path = path }

-- what each call does, whatever its paths start from. A call that names no base starts from the current directory: POSIX's
-- mkdir(path) is mkdirat(AT_FDCWD, path), and both are one act
abbrev pub act_of : ℕ → Call → Act
act_of version (call.Mkdir path) = act.Entry change.Makedir (path_at version Cwd path)
act_of version (call.Mkdirat base path) = act.Entry change.Makedir (path_at version base path)
act_of version (call.Rmdir path) = act.Entry change.Remdir (path_at version Cwd path)
act_of version (call.Rmdirat base path) = act.Entry change.Remdir (path_at version base path)
act_of version (call.Unlink path) = act.Entry change.Remfile (path_at version Cwd path)
act_of version (call.Unlinkat base path) = act.Entry change.Remfile (path_at version base path)
act_of version (call.Symlink text path) = act.Entry (change.Addlink text) (path_at version Cwd path)
act_of version (call.Rename path new) = act.Move (path_at version Cwd path) (path_at version Cwd new)
act_of version (call.Renameat base path new_base new) = act.Move (path_at version base path) (path_at version new_base new)
act_of version (call.Readlink path) = act.Text (path_at version Cwd path)
act_of version (call.Stat path) = act.Status Follows (path_at version Cwd path)
act_of version (call.Fstatat base path) = act.Status Follows (path_at version base path)
act_of version (call.Lstat path) = act.Status Stays (path_at version Cwd path)
act_of version (call.List path start) = act.Names (path_at version Cwd path) start
act_of version (call.Chdir path) = act.Enter (path_at version Cwd path)
act_of version (call.Open path flags) = act.Open (path_at version Cwd path) flags
act_of version (call.Openat base path flags) = act.Open (path_at version base path) flags
act_of version (call.Fchdir number) = act.EnterNumber number
act_of version (call.Close number) = act.Numbers (fd.Take number)
act_of version (call.Dup number) = act.Numbers (fd.Copy number)
act_of version (call.Dup2 number target) = act.Numbers (fd.Copyto number target)
act_of version (call.Read number count) = act.Data number (on_file.Read count)
act_of version (call.Pread number count offset) = act.Data number (on_file.Pread count offset)
act_of version (call.Write number bytes) = act.Data number (on_file.Write bytes)
act_of version (call.Pwrite number bytes offset) = act.Data number (on_file.Pwrite bytes offset)
act_of version (call.Seek number offset whence) = act.Data number (on_file.Seek offset whence)
act_of version (call.Ftruncate number size) = act.Data number (on_file.Ftruncate size)
act_of version (call.Fstat number) = act.Data number on_file.Fstat

abbrev pub plan : ℕ → Call → Plan
plan version call = act_plan (act_of version call)
