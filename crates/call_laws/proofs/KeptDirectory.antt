-- Calls other than `chdir` and `fchdir` leave the current directory as it is.
use Rattle.std.proofs.Common.{◌≡◌, ℕ, ◌==◌, ◌||◌, zero, suc, Bool, true, false, if◌then◌else◌, List, [], ◌∷◌, Option, None, Some, Result, Ok, Err, refl, sym, subst, ◌∙◌}
use Rattle.wf_core.specs.declared.errno.Errno.{Errno}
use Rattle.file_store.specs.declared.descriptor_operation.FdOp.TheVariants as fd
use Rattle.file_store.specs.declared.descriptor_operation.FdAnswer.TheVariants as fd_answer
use Rattle.path_walk.specs.declared.descriptor_call.DataCall.{DataCall}
use Rattle.path_walk.specs.declared.descriptor_call.DataCall.TheVariants as on_file
use Rattle.path_walk.specs.DescriptorCalls.{changes_numbers, data_plan}
use Rattle.file_store.specs.declared.descriptor_operation.FdOp.{FdOp}
use Rattle.path_walk.specs.declared.goal.Change.{Change}
use Rattle.path_walk.specs.declared.goal.Change.TheVariants as change
use Rattle.path_walk.specs.declared.open_request.OpenFlags.{OpenFlags}
use Rattle.path_walk.specs.declared.open_request.OpenRoute.{OpenRoute}
use Rattle.path_walk.specs.declared.part.Part.{Part}
use Rattle.path_walk.specs.declared.part.Part.TheVariants.{Here, Up, Down, TooLong}
use Rattle.path_walk.specs.declared.route.Manner.{Manner}
use Rattle.path_walk.specs.declared.route.Manner.TheVariants.{Follows, Stays}
use Rattle.path_walk.specs.declared.route.Route.{Route}
use Rattle.path_walk.specs.declared.route.Spot.{Spot}
use Rattle.path_walk.specs.declared.route.End.{End}
use Rattle.path_walk.specs.declared.step.CellId.{CellId}
use Rattle.path_walk.specs.declared.step.StoreOp.{StoreOp}
use Rattle.path_walk.specs.declared.step.StoreOp.TheVariants.{Names as NamesOp, Files as FilesOp, Descriptors as DescriptorsOp}
use Rattle.path_walk.specs.declared.step.StoreAnswer.TheVariants.{Descriptors as DescriptorsAnswer}
use Rattle.path_walk.specs.declared.step.StepAnswer.{StepAnswer}
use Rattle.path_walk.specs.declared.step.StepAnswer.TheVariants.{Answered}
use Rattle.path_walk.specs.declared.act.PathAt.{PathAt}
use Rattle.path_walk.specs.declared.call.Base.{Base}
use Rattle.path_walk.specs.declared.call.Base.TheVariants.{Cwd, Fd}
use Rattle.path_walk.specs.declared.call.Call.{Call}
use Rattle.path_walk.specs.declared.call.Call.TheVariants as call
use Rattle.path_walk.specs.PathMeaning.{Course, Way, ends, goes, resolve, root_of}
use Rattle.path_walk.specs.Walk.{course_on, node_in, program_on, walk}
use Rattle.path_walk.specs.Plans.{Plan, replies, steps, walks, at_once, from_base, on_ok, parent_route, program_of, spot_in, unless_fault, walks_from, walks_in, whole_route}
use Rattle.path_walk.specs.Calls.{change_fault, change_plan, changes, list_plan, move_on, move_plan, moves, parent_of, parent_plan, path_at, plan, status_plan, text_plan, whole_plan}
use Rattle.path_walk.specs.OpenPlan.{drops, flags_fault, open_route, opens, opens_by, opens_in, request_of, reserved_plan}
use Rattle.path_walk.specs.Programs.{Begins, Program, Step, asks, finished}
use Rattle.path_walk.specs.Store.{Store, cstep}
use Rattle.call_laws.specs.Entries.{current_spot}
use Rattle.call_laws.specs.CurrentLaws.{IsOther, OtherCallsKeepTheCurrentDirectory, SetNone, SetsNone, taken_by}
use Rattle.call_laws.proofs.ApartLemmas.{Apart, IsApart}
use Rattle.call_laws.proofs.ApartPlans.{change_apart, data_apart, drops_apart, in_apart, list_apart, move_apart, numbers_apart, parent_apart, status_apart, text_apart}
use Rattle.call_laws.proofs.CurrentLemmas.{step_stays}

-- no step of the plan sets the current directory
abbrev SetsNever : Plan → Type 0
SetsNever (replies given) = Unit {0}
SetsNever (steps cell op next) = SetsNone op × ((given : StepAnswer) → SetsNever (next given))
SetsNever (walks from route next) = (end : Result End Errno) → SetsNever (next end)

apart_sets_none : (op : StoreOp) → IsApart op → SetsNone op
apart_sets_none (NamesOp op) h = tt
apart_sets_none (FilesOp op) h = tt
apart_sets_none (DescriptorsOp fd.Cwd) h = refl
apart_sets_none (DescriptorsOp (fd.Setcwd backend id)) h = absurd h
apart_sets_none (DescriptorsOp op) h = refl

apart_never : (p : Plan) → Apart p → SetsNever p
apart_never (replies given) h = tt
apart_never (steps cell op next) h = (apart_sets_none op h.0, λ given. apart_never (next given) (h.1 given))
apart_never (walks from route next) h = λ end. apart_never (next end) (h end)

on_ok_never : {A : Type 0} (r : Result A Errno) (next : A → Plan) → ((x : A) → SetsNever (next x)) → SetsNever (on_ok r next)
on_ok_never (Ok x) next each = each x
on_ok_never (Err error) next each = tt

unless_never : (fault : Option Errno) (p : Plan) → SetsNever p → SetsNever (unless_fault fault p)
unless_never (Some error) p h = tt
unless_never None p h = h

from_never : (base : Option Base) (next : Result Spot Errno → Plan) → ((start : Result Spot Errno) → SetsNever (next start)) → SetsNever (from_base base next)
from_never None next each = each (Ok (root_of 0))
from_never (Some Cwd) next each = (refl, λ given. each (spot_in given))
from_never (Some (Fd number)) next each = (refl, λ given. each (spot_in given))

walks_never : (base : Option Base) (route : Route) (next : Result End Errno → Plan) → ((end : Result End Errno) → SetsNever (next end)) → SetsNever (walks_from base route next)
walks_never base route next each = from_never base (walks_in route next) along
  where
    along : (start : Result Spot Errno) → SetsNever (walks_in route next start)
    along (Ok spot) = each
    along (Err error) = each (Err error)

changes_never : (change : Change) (at : PathAt) → SetsNever (unless_fault (change_fault change) (changes change at))
changes_never change at =
    unless_never (change_fault change) (changes change at)
    (on_ok_never (parent_route at.path) (λ route. walks_from at.base route (parent_plan route.last (change_plan change route.last route.slash))) (λ route.
    walks_never at.base route (parent_plan route.last (change_plan change route.last route.slash)) (λ end.
    apart_never (parent_plan route.last (change_plan change route.last route.slash) end) (parent_apart route.last (change_plan change route.last route.slash) (change_apart change route.last route.slash) end))))

parent_never : (last : Option Part) (next : Spot → Plan) → ((spot : Spot) → SetsNever (next spot)) → (end : Result End Errno) → SetsNever (parent_plan last next end)
parent_never last next each (Err error) = tt
parent_never last next each (Ok end) = on_ok_never (parent_of last end) next each

moves_never : (at new : PathAt) → SetsNever (moves at new)
moves_never at new =
    on_ok_never (parent_route at.path) (λ route. walks_from at.base route (parent_plan route.last (move_on route.last route.slash new.base (parent_route new.path)))) (λ route.
    walks_never at.base route (parent_plan route.last (move_on route.last route.slash new.base (parent_route new.path)))
    (parent_never route.last (move_on route.last route.slash new.base (parent_route new.path)) (λ from. second route from)))
  where
    second : (route : Route) (from : Spot) → SetsNever (move_on route.last route.slash new.base (parent_route new.path) from)
    second route from =
        on_ok_never (parent_route new.path) (λ other. walks_from new.base other (parent_plan other.last (move_plan from route.last (route.slash || other.slash) other.last))) (λ other.
        walks_never new.base other (parent_plan other.last (move_plan from route.last (route.slash || other.slash) other.last)) (λ end.
        apart_never (parent_plan other.last (move_plan from route.last (route.slash || other.slash) other.last) end) (parent_apart other.last (move_plan from route.last (route.slash || other.slash) other.last) (move_apart from route.last (route.slash || other.slash) other.last) end)))

whole_never : (manner : Manner) (at : PathAt) (next : Result End Errno → Plan) → ((end : Result End Errno) → Apart (next end)) → SetsNever (whole_plan manner at next)
whole_never manner at next each = on_ok_never (whole_route manner at.path) (λ route. walks_from at.base route next) (λ route. walks_never at.base route next (λ end. apart_never (next end) (each end)))

by_never : (number : ℕ) (flags : OpenFlags) (base : Option Base) (route : Result OpenRoute Errno) → SetsNever (opens_by number flags base route)
by_never number flags base (Err error) = apart_never (drops number error) (drops_apart number error)
by_never number flags base (Ok route) =
    let request = request_of number flags route.route.slash in
    from_never base (opens_in request route) (λ start. apart_never (opens_in request route start) (in_apart request route start))

reserved_never : (flags : OpenFlags) (base : Option Base) (route : Result OpenRoute Errno) (given : StepAnswer) → SetsNever (reserved_plan flags base route given)
reserved_never flags base route (Answered (DescriptorsAnswer (fd_answer.Fd number))) = by_never number flags base route
reserved_never flags base route given = tt

opens_never : (at : PathAt) (flags : OpenFlags) → SetsNever (opens at flags)
opens_never at flags = unless_never (flags_fault flags) _ (refl, reserved_never flags at.base (open_route at.path))

data_never : (number : ℕ) (purpose : DataCall) → SetsNever (data_plan number purpose)
data_never number purpose = apart_never (data_plan number purpose) (data_apart number purpose)

numbers_never : (op : FdOp) → IsApart (DescriptorsOp op) → SetsNever (changes_numbers op)
numbers_never op h = apart_never (changes_numbers op) (numbers_apart op h)

each_never : (version : ℕ) (c : Call) → IsOther c → SetsNever (plan version c)
each_never version (call.Mkdir path) h = changes_never change.Makedir (path_at version Cwd path)
each_never version (call.Mkdirat base path) h = changes_never change.Makedir (path_at version base path)
each_never version (call.Rmdir path) h = changes_never change.Remdir (path_at version Cwd path)
each_never version (call.Rmdirat base path) h = changes_never change.Remdir (path_at version base path)
each_never version (call.Unlink path) h = changes_never change.Remfile (path_at version Cwd path)
each_never version (call.Unlinkat base path) h = changes_never change.Remfile (path_at version base path)
each_never version (call.Symlink text path) h = changes_never (change.Addlink text) (path_at version Cwd path)
each_never version (call.Rename path new) h = moves_never (path_at version Cwd path) (path_at version Cwd new)
each_never version (call.Renameat base path new_base new) h = moves_never (path_at version base path) (path_at version new_base new)
each_never version (call.Readlink path) h = whole_never Stays (path_at version Cwd path) text_plan text_apart
each_never version (call.Stat path) h = whole_never Follows (path_at version Cwd path) status_plan status_apart
each_never version (call.Fstatat base path) h = whole_never Follows (path_at version base path) status_plan status_apart
each_never version (call.Lstat path) h = whole_never Stays (path_at version Cwd path) status_plan status_apart
each_never version (call.List path start) h = whole_never Follows (path_at version Cwd path) (list_plan start) (list_apart start)
each_never version (call.Chdir path) h = absurd h
each_never version (call.Open path flags) h = opens_never (path_at version Cwd path) flags
each_never version (call.Openat base path flags) h = opens_never (path_at version base path) flags
each_never version (call.Fchdir number) h = absurd h
each_never version (call.Close number) h = numbers_never (fd.Take number) tt
each_never version (call.Dup number) h = numbers_never (fd.Copy number) tt
each_never version (call.Dup2 number target) h = numbers_never (fd.Copyto number target) tt
each_never version (call.Read number count) h = data_never number (on_file.Read count)
each_never version (call.Pread number count offset) h = data_never number (on_file.Pread count offset)
each_never version (call.Write number bytes) h = data_never number (on_file.Write bytes)
each_never version (call.Pwrite number bytes offset) h = data_never number (on_file.Pwrite bytes offset)
each_never version (call.Seek number offset whence) h = data_never number (on_file.Seek offset whence)
each_never version (call.Ftruncate number size) h = data_never number (on_file.Ftruncate size)
each_never version (call.Fstat number) h = data_never number on_file.Fstat

-- At once.

stays_alone : (store : Store) (p : Plan) → SetsNever p → current_spot (at_once store p).store ≡ current_spot store
stays_alone store (replies given) h = refl
stays_alone store (steps cell op next) h = stays_alone (cstep store cell op).store (next (Answered (cstep store cell op).answer)) (h.1 (Answered (cstep store cell op).answer)) ∙ step_stays store cell op h.0
stays_alone store (walks from route next) h =
    let end = resolve store from.names route.parts route.manner route.slash from.links from.spot in
    stays_alone store (next end) (h end)

-- Step by step.

abbrev NeverSets : Program → Type 0
NeverSets (finished given) = Unit {0}
NeverSets (asks cell op next) = SetsNone op × ((answer : StepAnswer) → NeverSets (next answer))

on_course_never : (c : Course) (next : Way → Program) (over : Result End Errno → Program) → ((w : Way) → NeverSets (next w)) → ((end : Result End Errno) → NeverSets (over end)) → NeverSets (program_on c next over)
on_course_never (ends end) next over on stop = stop end
on_course_never (goes w) next over on stop = on w

-- `..` takes no step in the root
up_never : (is_root : Bool) (rooted : Program) (cell : CellId) (op : StoreOp) (next : StepAnswer → Program) → NeverSets rooted → NeverSets (asks cell op next) → NeverSets (if is_root then rooted else asks cell op next)
up_never true rooted cell op next h k = h
up_never false rooted cell op next h k = k

walk_never : (names : ℕ) (parts : List Part) (manner : Manner) (slash : Bool) (links : ℕ) (here : Spot) (over : Result End Errno → Program) → ((end : Result End Errno) → NeverSets (over end)) → NeverSets (walk names parts manner slash links here over)
walk_never names [] manner slash links here over stop = stop _
walk_never names (Here ∷ rest) manner slash links here over stop = walk_never names rest manner slash links here over stop
walk_never names (TooLong ∷ rest) manner slash links here over stop = stop _
walk_never zero (Up ∷ rest) manner slash links here over stop = stop _
walk_never zero (Down name ∷ rest) manner slash links here over stop = stop _
walk_never (suc names) (Up ∷ rest) manner slash links here over stop =
    up_never (here.directory == 0) _ _ _ _ (walk_never names rest manner slash links (root_of 0) over stop)
    (tt, λ answer. on_course_never (course_on manner (node_in answer) rest slash links here) _ over (λ w. walk_never names w.rest manner w.slash w.links w.spot over stop) stop)
walk_never (suc names) (Down name ∷ rest) manner slash links here over stop =
    (tt, λ answer. on_course_never (course_on manner (node_in answer) rest slash links here) _ over (λ w. walk_never names w.rest manner w.slash w.links w.spot over stop) stop)

program_never : (p : Plan) → SetsNever p → NeverSets (program_of p)
program_never (replies given) h = tt
program_never (steps cell op next) h = (h.0, λ given. program_never (next given) (h.1 given))
program_never (walks from route next) h = walk_never from.names route.parts route.manner route.slash from.links from.spot (λ end. program_of (next end)) (λ end. program_never (next end) (h end))

begins_never : (p : Program) (taken : List Step) → NeverSets p → Begins p taken → SetNone (taken_by taken)
begins_never (finished given) [] h begun = tt
begins_never (finished given) (step ∷ taken) h begun = absurd begun
begins_never (asks cell op next) [] h begun = tt
begins_never (asks cell op next) (step ∷ []) h (outcome, is) = (subst (λ (s : Step). SetsNone s.op) (sym is) h.0, tt)
begins_never (asks cell op next) (step ∷ other ∷ taken) h (answer, is, rest) = (subst (λ (s : Step). SetsNone s.op) (sym is) h.0, begins_never (next answer) (other ∷ taken) (h.1 answer) rest)

pub other_calls_keep_the_current_directory : OtherCallsKeepTheCurrentDirectory
other_calls_keep_the_current_directory = record {
  steps = λ version c taken other begun. begins_never (program_of (plan version c)) taken (program_never (plan version c) (each_never version c other)) begun;
  alone = λ version store c other. stays_alone store (plan version c) (each_never version c other);
}
