-- What holds of the plan of each call, since it holds of replies, of last steps and of walks.
use Rattle.std.proofs.Common.{◌≡◌, ℕ, ◌==◌, ◌||◌, suc, Bool, true, false, if◌then◌else◌, List, Option, None, Some, Result, Ok, Err, refl, sym, subst}
use Rattle.wf_core.specs.declared.errno.Errno.{Errno}
use Rattle.wf_core.specs.declared.errno.Errno.TheVariants.{Einval, Enotdir, Exdev}
use Rattle.name_store.specs.declared.operation.NameOp.{NameOp}
use Rattle.name_store.specs.declared.operation.NameOp.TheVariants.{Move, List as ListOp}
use Rattle.file_store.specs.declared.file_operation.FileOp.TheVariants.{Sizeof}
use Rattle.file_store.specs.declared.descriptor_operation.FdOp.TheVariants as fd
use Rattle.path_walk.specs.declared.descriptor_call.DataCall.{DataCall}
use Rattle.path_walk.specs.declared.descriptor_call.DataCall.TheVariants as on_file
use Rattle.path_walk.specs.declared.open_request.OpenFlags.{OpenFlags}
use Rattle.path_walk.specs.DescriptorCalls.{changes_numbers, data_plan, enters, enters_number}
use Rattle.path_walk.specs.OpenPlan.{opens}
use Rattle.path_walk.specs.declared.part.Part.{Part}
use Rattle.path_walk.specs.declared.route.Manner.{Manner}
use Rattle.path_walk.specs.declared.route.Manner.TheVariants.{Follows, Stays}
use Rattle.path_walk.specs.declared.route.Spot.{Spot}
use Rattle.path_walk.specs.declared.route.Route.{Route}
use Rattle.path_walk.specs.declared.route.End.{End}
use Rattle.path_walk.specs.declared.route.End.TheVariants.{Directory, File, LinkText}
use Rattle.path_walk.specs.declared.goal.Change.{Change}
use Rattle.path_walk.specs.declared.goal.Change.TheVariants as change
use Rattle.path_walk.specs.declared.step.StoreOp.TheVariants.{Files as FilesOp}
use Rattle.path_walk.specs.declared.act.PathAt.{PathAt}
use Rattle.path_walk.specs.declared.call.Base.{Base}
use Rattle.path_walk.specs.declared.call.Base.TheVariants.{Cwd}
use Rattle.path_walk.specs.declared.call.Call.{Call}
use Rattle.path_walk.specs.declared.call.Call.TheVariants as call
use Rattle.path_walk.specs.declared.call.Reply.{Reply}
use Rattle.path_walk.specs.declared.call.Reply.TheVariants as reply
use Rattle.path_walk.specs.Plans.{Plan, replies, steps, fails, on_ok, ok_unless, unless_fault, cell_of_id, reply_to, parent_route, walks_from, whole_route}
use Rattle.path_walk.specs.Calls.{change_fault, change_plan, changes, enter_plan, faults_of, last_fault, last_step, list_plan, move_faults, move_on, move_plan, moves, name_of, op_of, parent_of, parent_plan, path_at, plan, slash_fault, status_plan, text_plan, whole_plan}

-- the backend of a walk's end is so
abbrev pub EndIs : (ℕ → Type 0) → Result End Errno → Type 0
EndIs There (Ok (Directory there)) = There there.spot.backend
EndIs There (Ok (File backend file)) = There backend
EndIs There end = Unit {0}

-- where each backend is, each end is
pub any_end : (end : Result End Errno) → EndIs (λ backend. Unit {0}) end
any_end (Err error) = tt
any_end (Ok (Directory there)) = tt
any_end (Ok (File backend file)) = tt
any_end (Ok (LinkText text)) = tt

-- a fact of plans with so many walks, which holds of what plans are made of, on backends that are so
pub record Holds (P : ℕ → Plan → Type 0) (There : ℕ → Type 0) : Type 0 where
  pub over : (count : ℕ) (given : Reply) → P count (replies given)
  pub size : (count backend file : ℕ) → There backend → P count (steps (cell_of_id backend file) (FilesOp (Sizeof file)) (λ given. replies (reply_to given)))
  pub last : (count backend : ℕ) (op : NameOp) → There backend → P count (last_step backend op)
  pub uses_files : (number : ℕ) (purpose : DataCall) → P 2 (data_plan number purpose)
  pub takes_numbers : (number : ℕ) → P 2 (changes_numbers (fd.Take number))
  pub copies_numbers : (number : ℕ) → P 2 (changes_numbers (fd.Copy number))
  pub copies_onto : (number target : ℕ) → P 2 (changes_numbers (fd.Copyto number target))
  pub enters_numbers : (number : ℕ) → P 2 (enters_number number)
  pub opens_paths : (at : PathAt) (flags : OpenFlags) → P 2 (opens at flags)
  pub sets : (count : ℕ) (there : Spot) → There there.backend → P count (enters (Ok there))
  pub along : (count : ℕ) (base : Option Base) (route : Route) (next : Result End Errno → Plan) → ((end : Result End Errno) → EndIs There end → P count (next end)) → P (suc count) (walks_from base route next)

module _ (P : ℕ → Plan → Type 0) (There : ℕ → Type 0) (holds : Holds P There) where
  fails_so : (count : ℕ) (error : Errno) → P count (fails error)
  fails_so count error = holds.over count (reply.Fault error)

  on_ok_so : {A : Type 0} (count : ℕ) (r : Result A Errno) (next : A → Plan) → ((x : A) → r ≡ Ok x → P count (next x)) → P count (on_ok r next)
  on_ok_so count (Ok x) next each = each x refl
  on_ok_so count (Err error) next each = fails_so count error

  unless_so : (count : ℕ) (fault : Option Errno) (p : Plan) → P count p → P count (unless_fault fault p)
  unless_so count (Some error) p h = fails_so count error
  unless_so count None p h = h

  status_so : (count : ℕ) (end : Result End Errno) → EndIs There end → P count (status_plan end)
  status_so count (Err error) there = fails_so count error
  status_so count (Ok (Directory station)) there = holds.over count reply.Dir
  status_so count (Ok (File backend file)) there = holds.size count backend file there
  status_so count (Ok (LinkText text)) there = holds.over count _

  text_so : (count : ℕ) (end : Result End Errno) → EndIs There end → P count (text_plan end)
  text_so count (Err error) there = fails_so count error
  text_so count (Ok (Directory station)) there = fails_so count Einval
  text_so count (Ok (File backend file)) there = fails_so count Einval
  text_so count (Ok (LinkText text)) there = holds.over count (reply.Text text)

  list_so : (count start : ℕ) (end : Result End Errno) → EndIs There end → P count (list_plan start end)
  list_so count start (Err error) there = fails_so count error
  list_so count start (Ok (Directory station)) there = holds.last count station.spot.backend (ListOp station.spot.directory start) there
  list_so count start (Ok (File backend file)) there = fails_so count Enotdir
  list_so count start (Ok (LinkText text)) there = fails_so count Enotdir

  enter_so : (count : ℕ) (end : Result End Errno) → EndIs There end → P count (enter_plan end)
  enter_so count (Err error) there = fails_so count error
  enter_so count (Ok (Directory station)) there = holds.sets count station.spot there
  enter_so count (Ok (File backend file)) there = fails_so count Enotdir
  enter_so count (Ok (LinkText text)) there = fails_so count Enotdir

  spot_is : (fault : Option Errno) (spot there : Spot) → ok_unless fault spot ≡ Ok there → there ≡ spot
  spot_is (Some error) spot there e = cc
  spot_is None spot there e = cc

  parent_there : (last : Option Part) (end : End) (spot : Spot) → EndIs There (Ok end) → parent_of last end ≡ Ok spot → There spot.backend
  parent_there last (Directory station) spot there e = subst (λ (s : Spot). There s.backend) (sym (spot_is (last_fault last station.names) station.spot spot e)) there
  parent_there last (File backend file) spot there e = cc
  parent_there last (LinkText text) spot there e = cc

  parent_so : (count : ℕ) (last : Option Part) (next : Spot → Plan) → ((spot : Spot) → There spot.backend → P count (next spot)) → (end : Result End Errno) → EndIs There end → P count (parent_plan last next end)
  parent_so count last next each (Err error) there = fails_so count error
  parent_so count last next each (Ok end) there = on_ok_so count (parent_of last end) next (λ spot e. each spot (parent_there last end spot there e))

  change_so : (count : ℕ) (change : Change) (last : Option Part) (slash : Bool) (spot : Spot) → There spot.backend → P count (change_plan change last slash spot)
  change_so count change last slash spot there =
      on_ok_so count (name_of (faults_of change) last) (λ name. unless_fault (slash_fault change slash) (last_step spot.backend (op_of change spot.directory name slash))) (λ name e.
      unless_so count (slash_fault change slash) (last_step spot.backend (op_of change spot.directory name slash)) (holds.last count spot.backend (op_of change spot.directory name slash) there))

  step_so : (count : ℕ) (backend : ℕ) (op : NameOp) (is_one : Bool) → There backend → P count (if is_one then last_step backend op else fails Exdev)
  step_so count backend op true there = holds.last count backend op there
  step_so count backend op false there = fails_so count Exdev

  move_so : (count : ℕ) (from : Spot) (last : Option Part) (slash : Bool) (new_last : Option Part) (to : Spot) → There from.backend → P count (move_plan from last slash new_last to)
  move_so count from last slash new_last to there =
      on_ok_so count (name_of move_faults last) _ (λ name e.
      on_ok_so count (name_of move_faults new_last) _ (λ new_name f.
      step_so count from.backend (Move from.directory name to.directory new_name slash) (from.backend == to.backend) there))

  move_on_so : (last : Option Part) (slash : Bool) (base : Option Base) (new : Result Route Errno) (from : Spot) → There from.backend → P 1 (move_on last slash base new from)
  move_on_so last slash base new from there =
      on_ok_so 1 new (λ route. walks_from base route (parent_plan route.last (move_plan from last (slash || route.slash) route.last))) (λ route e.
      holds.along 0 base route (parent_plan route.last (move_plan from last (slash || route.slash) route.last))
      (parent_so 0 route.last (move_plan from last (slash || route.slash) route.last) (λ to h. move_so 0 from last (slash || route.slash) route.last to there)))

  changes_so : (change : Change) (at : PathAt) → P 2 (unless_fault (change_fault change) (changes change at))
  changes_so change at =
      unless_so 2 (change_fault change) (changes change at)
      (on_ok_so 2 (parent_route at.path) (λ route. walks_from at.base route (parent_plan route.last (change_plan change route.last route.slash))) (λ route e.
      holds.along 1 at.base route (parent_plan route.last (change_plan change route.last route.slash))
      (parent_so 1 route.last (change_plan change route.last route.slash) (λ spot there. change_so 1 change route.last route.slash spot there))))

  moves_so : (at new : PathAt) → P 2 (moves at new)
  moves_so at new =
      on_ok_so 2 (parent_route at.path) (λ route. walks_from at.base route (parent_plan route.last (move_on route.last route.slash new.base (parent_route new.path)))) (λ route e.
      holds.along 1 at.base route (parent_plan route.last (move_on route.last route.slash new.base (parent_route new.path)))
      (parent_so 1 route.last (move_on route.last route.slash new.base (parent_route new.path)) (λ from there. move_on_so route.last route.slash new.base (parent_route new.path) from there)))

  whole_so : (manner : Manner) (at : PathAt) (next : Result End Errno → Plan) → ((end : Result End Errno) → EndIs There end → P 1 (next end)) → P 2 (whole_plan manner at next)
  whole_so manner at next each = on_ok_so 2 (whole_route manner at.path) (λ route. walks_from at.base route next) (λ route e. holds.along 1 at.base route next each)

  pub each_call : (version : ℕ) (c : Call) → P 2 (plan version c)
  each_call version (call.Mkdir path) = changes_so change.Makedir (path_at version Cwd path)
  each_call version (call.Mkdirat base path) = changes_so change.Makedir (path_at version base path)
  each_call version (call.Rmdir path) = changes_so change.Remdir (path_at version Cwd path)
  each_call version (call.Rmdirat base path) = changes_so change.Remdir (path_at version base path)
  each_call version (call.Unlink path) = changes_so change.Remfile (path_at version Cwd path)
  each_call version (call.Unlinkat base path) = changes_so change.Remfile (path_at version base path)
  each_call version (call.Symlink text path) = changes_so (change.Addlink text) (path_at version Cwd path)
  each_call version (call.Rename path new) = moves_so (path_at version Cwd path) (path_at version Cwd new)
  each_call version (call.Renameat base path new_base new) = moves_so (path_at version base path) (path_at version new_base new)
  each_call version (call.Readlink path) = whole_so Stays (path_at version Cwd path) text_plan (text_so 1)
  each_call version (call.Stat path) = whole_so Follows (path_at version Cwd path) status_plan (status_so 1)
  each_call version (call.Fstatat base path) = whole_so Follows (path_at version base path) status_plan (status_so 1)
  each_call version (call.Lstat path) = whole_so Stays (path_at version Cwd path) status_plan (status_so 1)
  each_call version (call.List path start) = whole_so Follows (path_at version Cwd path) (list_plan start) (list_so 1 start)
  each_call version (call.Chdir path) = whole_so Follows (path_at version Cwd path) enter_plan (enter_so 1)
  each_call version (call.Open path flags) = holds.opens_paths (path_at version Cwd path) flags
  each_call version (call.Openat base path flags) = holds.opens_paths (path_at version base path) flags
  each_call version (call.Fchdir number) = holds.enters_numbers number
  each_call version (call.Close number) = holds.takes_numbers number
  each_call version (call.Dup number) = holds.copies_numbers number
  each_call version (call.Dup2 number target) = holds.copies_onto number target
  each_call version (call.Read number count) = holds.uses_files number (on_file.Read count)
  each_call version (call.Pread number count offset) = holds.uses_files number (on_file.Pread count offset)
  each_call version (call.Write number bytes) = holds.uses_files number (on_file.Write bytes)
  each_call version (call.Pwrite number bytes offset) = holds.uses_files number (on_file.Pwrite bytes offset)
  each_call version (call.Seek number offset whence) = holds.uses_files number (on_file.Seek offset whence)
  each_call version (call.Ftruncate number size) = holds.uses_files number (on_file.Ftruncate size)
  each_call version (call.Fstat number) = holds.uses_files number on_file.Fstat
