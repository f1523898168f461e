-- A call with bases, step by step, beside the call without.
use Rattle.std.proofs.Common.{inl, inr, ℕ, ◌==◌, ◌||◌, zero, suc, Bool, true, false, if◌then◌else◌, List, [], ◌∷◌, Option, None, Some, Result, Ok, Err, refl}
use Rattle.wf_core.specs.declared.errno.Errno.{Errno}
use Rattle.file_store.specs.declared.descriptor_operation.FdOp.TheVariants.{Reserve}
use Rattle.file_store.specs.declared.descriptor_operation.FdAnswer.TheVariants as fd_answer
use Rattle.path_walk.specs.declared.goal.Change.{Change}
use Rattle.path_walk.specs.declared.goal.Change.TheVariants as change
use Rattle.path_walk.specs.declared.open_request.OpenFlags.{OpenFlags}
use Rattle.path_walk.specs.declared.open_request.OpenRoute.{OpenRoute}
use Rattle.path_walk.specs.declared.part.Part.{Part}
use Rattle.path_walk.specs.declared.part.Part.TheVariants.{Here, Up, Down, TooLong}
use Rattle.path_walk.specs.declared.route.Manner.{Manner}
use Rattle.path_walk.specs.declared.route.Manner.TheVariants.{Follows}
use Rattle.path_walk.specs.declared.route.Route.{Route}
use Rattle.path_walk.specs.declared.route.Spot.{Spot}
use Rattle.path_walk.specs.declared.route.End.{End}
use Rattle.path_walk.specs.declared.step.CellId.{CellId}
use Rattle.path_walk.specs.declared.step.CellId.TheVariants.{Descriptors as DescriptorsCell}
use Rattle.path_walk.specs.declared.step.StoreOp.{StoreOp}
use Rattle.path_walk.specs.declared.step.StoreOp.TheVariants.{Descriptors as DescriptorsOp}
use Rattle.path_walk.specs.declared.step.StoreAnswer.TheVariants.{Descriptors as DescriptorsAnswer}
use Rattle.path_walk.specs.declared.step.StepAnswer.{StepAnswer}
use Rattle.path_walk.specs.declared.step.StepAnswer.TheVariants.{Answered}
use Rattle.path_walk.specs.declared.call.Base.{Base}
use Rattle.path_walk.specs.declared.call.Base.TheVariants.{Cwd}
use Rattle.path_walk.specs.Paths.{is_absolute}
use Rattle.path_walk.specs.PathMeaning.{Course, Way, ends, goes, root_of}
use Rattle.wf_core.specs.Limits.{path_names_max, symloop_max}
use Rattle.path_walk.specs.Walk.{course_on, node_in, program_on, walk}
use Rattle.path_walk.specs.Plans.{Plan, from_base, on_ok, parent_route, program_of, spot_in, steps, unless_fault, walks_from, walks_in, whole_route}
use Rattle.path_walk.specs.Calls.{change_plan, changes, move_on, move_plan, moves, parent_of, parent_plan, path_at, status_plan, whole_plan}
use Rattle.path_walk.specs.OpenPlan.{drops, flags_fault, open_route, opens, opens_by, opens_in, request_of, reserved_plan}
use Rattle.path_walk.specs.Programs.{Program, asks, finished}
use Rattle.call_laws.specs.StartLaws.{BasesAreStarts, StartsFrom, with_base}

same_from : (bases : List Base) (p : Program) → StartsFrom bases p p
same_from bases (finished reply) = refl
same_from bases (asks cell op next) = inl (refl, refl, λ answer. same_from bases (next answer))

-- Walks.

course_from : (bases : List Base) (c : Course) (first second : Way → Program) (over other : Result End Errno → Program) → ((w : Way) → StartsFrom bases (first w) (second w)) → ((end : Result End Errno) → StartsFrom bases (over end) (other end)) → StartsFrom bases (program_on c first over) (program_on c second other)
course_from bases (ends end) first second over other on stop = stop end
course_from bases (goes w) first second over other on stop = on w

-- `..` takes no step in the root
up_from : (bases : List Base) (is_root : Bool) (first second : Program) (cell : CellId) (op : StoreOp) (next other : StepAnswer → Program) → StartsFrom bases first second → ((answer : StepAnswer) → StartsFrom bases (next answer) (other answer)) → StartsFrom bases (if is_root then first else asks cell op next) (if is_root then second else asks cell op other)
up_from bases true first second cell op next other h k = h
up_from bases false first second cell op next other h k = inl (refl, refl, k)

walk_from : (bases : List Base) (names : ℕ) (parts : List Part) (manner : Manner) (slash : Bool) (links : ℕ) (here : Spot) (over other : Result End Errno → Program) → ((end : Result End Errno) → StartsFrom bases (over end) (other end)) → StartsFrom bases (walk names parts manner slash links here over) (walk names parts manner slash links here other)
walk_from bases names [] manner slash links here over other stop = stop _
walk_from bases names (Here ∷ rest) manner slash links here over other stop = walk_from bases names rest manner slash links here over other stop
walk_from bases names (TooLong ∷ rest) manner slash links here over other stop = stop _
walk_from bases zero (Up ∷ rest) manner slash links here over other stop = stop _
walk_from bases zero (Down name ∷ rest) manner slash links here over other stop = stop _
walk_from bases (suc names) (Up ∷ rest) manner slash links here over other stop =
    up_from bases (here.directory == 0) _ _ _ _ _ _ (walk_from bases names rest manner slash links (root_of 0) over other stop)
    (λ answer. course_from bases (course_on manner (node_in answer) rest slash links here) _ _ over other (λ w. walk_from bases names w.rest manner w.slash w.links w.spot over other stop) stop)
walk_from bases (suc names) (Down name ∷ rest) manner slash links here over other stop =
    inl (refl, refl, λ answer. course_from bases (course_on manner (node_in answer) rest slash links here) _ _ over other (λ w. walk_from bases names w.rest manner w.slash w.links w.spot over other stop) stop)

-- Plans.

-- the one plan starts from those bases where the other starts from the current directory
abbrev PlanFrom : List Base → Plan → Plan → Type 0
PlanFrom bases p other = StartsFrom bases (program_of p) (program_of other)

base_from : (base : Base) (path : List ℕ) (bases : List Base) (here there : Result Spot Errno → Plan) → ((start : Result Spot Errno) → PlanFrom bases (here start) (there start)) → PlanFrom (with_base base path bases) (from_base (path_at 2 base path).base here) (from_base (path_at 2 Cwd path).base there)
base_from base path bases here there each = by_start (is_absolute path)
  where
    by_start : (rooted : Bool) → PlanFrom (if rooted then bases else base ∷ bases) (from_base (if rooted then None else Some base) here) (from_base (if rooted then None else Some Cwd) there)
    by_start true = each (Ok (root_of 0))
    by_start false = inr (refl, refl, refl, refl, λ answer. each (spot_in answer))

walks_start : (base : Base) (path : List ℕ) (bases : List Base) (route : Route) (here there : Result End Errno → Plan) → ((end : Result End Errno) → PlanFrom bases (here end) (there end)) → PlanFrom (with_base base path bases) (walks_from (path_at 2 base path).base route here) (walks_from (path_at 2 Cwd path).base route there)
walks_start base path bases route here there each = base_from base path bases (walks_in route here) (walks_in route there) along
  where
    along : (start : Result Spot Errno) → PlanFrom bases (walks_in route here start) (walks_in route there start)
    along (Ok spot) = walk_from bases path_names_max route.parts route.manner route.slash symloop_max spot (λ end. program_of (here end)) (λ end. program_of (there end)) each
    along (Err error) = each (Err error)

on_ok_from : {A : Type 0} (bases : List Base) (r : Result A Errno) (here there : A → Plan) → ((x : A) → PlanFrom bases (here x) (there x)) → PlanFrom bases (on_ok r here) (on_ok r there)
on_ok_from bases (Ok x) here there each = each x
on_ok_from bases (Err error) here there each = refl

parent_from : (bases : List Base) (last : Option Part) (here there : Spot → Plan) → ((spot : Spot) → PlanFrom bases (here spot) (there spot)) → (end : Result End Errno) → PlanFrom bases (parent_plan last here end) (parent_plan last there end)
parent_from bases last here there each (Err error) = refl
parent_from bases last here there each (Ok end) = on_ok_from bases (parent_of last end) here there each

changes_from : (change : Change) (base : Base) (path : List ℕ) → PlanFrom (with_base base path []) (changes change (path_at 2 base path)) (changes change (path_at 2 Cwd path))
changes_from change base path =
    on_ok_from (with_base base path []) (parent_route path)
    (λ route. walks_from (path_at 2 base path).base route (parent_plan route.last (change_plan change route.last route.slash)))
    (λ route. walks_from (path_at 2 Cwd path).base route (parent_plan route.last (change_plan change route.last route.slash)))
    (λ route. walks_start base path [] route (parent_plan route.last (change_plan change route.last route.slash)) (parent_plan route.last (change_plan change route.last route.slash)) (λ end. same_from [] (program_of (parent_plan route.last (change_plan change route.last route.slash) end))))

status_from : (base : Base) (path : List ℕ) → PlanFrom (with_base base path []) (whole_plan Follows (path_at 2 base path) status_plan) (whole_plan Follows (path_at 2 Cwd path) status_plan)
status_from base path =
    on_ok_from (with_base base path []) (whole_route Follows path) (λ route. walks_from (path_at 2 base path).base route status_plan) (λ route. walks_from (path_at 2 Cwd path).base route status_plan)
    (λ route. walks_start base path [] route status_plan status_plan (λ end. same_from [] (program_of (status_plan end))))

second_from : (last : Option Part) (slash : Bool) (new_base : Base) (new : List ℕ) (from : Spot) → PlanFrom (with_base new_base new []) (move_on last slash (path_at 2 new_base new).base (parent_route new) from) (move_on last slash (path_at 2 Cwd new).base (parent_route new) from)
second_from last slash new_base new from =
    on_ok_from (with_base new_base new []) (parent_route new)
    (λ route. walks_from (path_at 2 new_base new).base route (parent_plan route.last (move_plan from last (slash || route.slash) route.last)))
    (λ route. walks_from (path_at 2 Cwd new).base route (parent_plan route.last (move_plan from last (slash || route.slash) route.last)))
    (λ route. walks_start new_base new [] route (parent_plan route.last (move_plan from last (slash || route.slash) route.last)) (parent_plan route.last (move_plan from last (slash || route.slash) route.last)) (λ end. same_from [] (program_of (parent_plan route.last (move_plan from last (slash || route.slash) route.last) end))))

moves_from : (base : Base) (path : List ℕ) (new_base : Base) (new : List ℕ) → PlanFrom (with_base base path (with_base new_base new [])) (moves (path_at 2 base path) (path_at 2 new_base new)) (moves (path_at 2 Cwd path) (path_at 2 Cwd new))
moves_from base path new_base new =
    on_ok_from (with_base base path (with_base new_base new [])) (parent_route path)
    (λ route. walks_from (path_at 2 base path).base route (parent_plan route.last (move_on route.last route.slash (path_at 2 new_base new).base (parent_route new))))
    (λ route. walks_from (path_at 2 Cwd path).base route (parent_plan route.last (move_on route.last route.slash (path_at 2 Cwd new).base (parent_route new))))
    (λ route. walks_start base path (with_base new_base new []) route
    (parent_plan route.last (move_on route.last route.slash (path_at 2 new_base new).base (parent_route new)))
    (parent_plan route.last (move_on route.last route.slash (path_at 2 Cwd new).base (parent_route new)))
    (parent_from (with_base new_base new []) route.last (move_on route.last route.slash (path_at 2 new_base new).base (parent_route new)) (move_on route.last route.slash (path_at 2 Cwd new).base (parent_route new)) (second_from route.last route.slash new_base new)))

by_from : (base : Base) (path : List ℕ) (flags : OpenFlags) (number : ℕ) (route : Result OpenRoute Errno) → PlanFrom (with_base base path []) (opens_by number flags (path_at 2 base path).base route) (opens_by number flags (path_at 2 Cwd path).base route)
by_from base path flags number (Err error) = same_from (with_base base path []) (program_of (drops number error))
by_from base path flags number (Ok route) =
    let request = request_of number flags route.route.slash in
    base_from base path [] (opens_in request route) (opens_in request route) (λ start. same_from [] (program_of (opens_in request route start)))

reserved_from : (base : Base) (path : List ℕ) (flags : OpenFlags) (given : StepAnswer) → PlanFrom (with_base base path []) (reserved_plan flags (path_at 2 base path).base (open_route path) given) (reserved_plan flags (path_at 2 Cwd path).base (open_route path) given)
reserved_from base path flags (Answered (DescriptorsAnswer (fd_answer.Fd number))) = by_from base path flags number (open_route path)
reserved_from base path flags given = refl

opens_from : (base : Base) (path : List ℕ) (flags : OpenFlags) → PlanFrom (with_base base path []) (opens (path_at 2 base path) flags) (opens (path_at 2 Cwd path) flags)
opens_from base path flags = by_fault (flags_fault flags)
  where
    by_fault : (fault : Option Errno) → PlanFrom (with_base base path []) (unless_fault fault (steps DescriptorsCell (DescriptorsOp Reserve) (reserved_plan flags (path_at 2 base path).base (open_route path)))) (unless_fault fault (steps DescriptorsCell (DescriptorsOp Reserve) (reserved_plan flags (path_at 2 Cwd path).base (open_route path))))
    by_fault (Some error) = refl
    by_fault None = inl (refl, refl, reserved_from base path flags)

pub bases_are_starts : BasesAreStarts
bases_are_starts = record {
  openat = opens_from;
  mkdirat = changes_from change.Makedir;
  rmdirat = changes_from change.Remdir;
  unlinkat = changes_from change.Remfile;
  fstatat = status_from;
  renameat = moves_from;
}
