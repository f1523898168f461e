-- The turns of the machine that take more than one look at the program.
use Rattle.std.proofs.Common.{◌≡◌, ℕ, ◌==◌, ◌-◌, ◌<◌, ◌||◌, zero, suc, Bool, true, false, if◌then◌else◌, List, ◌∷◌, Option, None, Some, Result, Ok, Err, refl, sym, ap, subst, ◌∙◌, arith}
use Rattle.wf_core.specs.Limits.{symloop_max}
use Rattle.wf_core.specs.declared.errno.Errno.{Errno}
use Rattle.name_store.specs.declared.operation.NameOp.TheVariants.{Parent}
use Rattle.path_walk.specs.declared.part.Part.{Part}
use Rattle.path_walk.specs.declared.part.Part.TheVariants.{Up}
use Rattle.path_walk.specs.declared.route.Spot.{Spot}
use Rattle.path_walk.specs.declared.route.Route.{Route}
use Rattle.path_walk.specs.declared.goal.Goal.{Goal}
use Rattle.path_walk.specs.declared.goal.Goal.TheVariants.{MoveTo, Open}
use Rattle.path_walk.specs.declared.route.Manner.TheVariants.{Follows, Stays}
use Rattle.path_walk.specs.declared.trail.Onward.TheVariants.{Goes}
use Rattle.path_walk.specs.declared.act.Act.{Act}
use Rattle.path_walk.specs.declared.act.Act.TheVariants as act
use Rattle.path_walk.specs.declared.act.PathAt.{PathAt}
use Rattle.path_walk.specs.declared.call.Base.{Base}
use Rattle.path_walk.specs.declared.trail.Trail.{Trail}
use Rattle.path_walk.specs.declared.trail.Stage.{Stage}
use Rattle.path_walk.specs.declared.trail.Stage.TheVariants.{Walking}
use Rattle.file_store.specs.declared.descriptor_operation.FdOp.TheVariants.{Reserve}
use Rattle.path_walk.specs.declared.open_request.OpenFlags.{OpenFlags}
use Rattle.path_walk.specs.declared.open_request.OpenRequest.{OpenRequest}
use Rattle.path_walk.specs.declared.open_request.OpenRoute.{OpenRoute}
use Rattle.path_walk.specs.declared.route.Station.{Station}
use Rattle.path_walk.specs.declared.call.Reply.TheVariants.{Fault}
use Rattle.path_walk.specs.declared.step.CellId.TheVariants.{Names as NamesCell, Descriptors as DescriptorsCell}
use Rattle.path_walk.specs.declared.step.StoreOp.TheVariants.{Names as NamesOp, Descriptors as DescriptorsOp}
use Rattle.path_walk.specs.declared.call.Need.{Need}
use Rattle.path_walk.specs.declared.call.Need.TheVariants.{Done, Step}
use Rattle.path_walk.specs.PathMeaning.{Course, ends, goes, root_of, path_start}
use Rattle.path_walk.specs.Programs.{Program, asks, finished}
use Rattle.path_walk.specs.Walk.{walk, node_in, course_on, program_on}
use Rattle.path_walk.specs.Plans.{Plan, steps, from_base, on_ok, unless_fault, parent_route, walks_from, walks_in, whole_route, program_of, spot_in}
use Rattle.path_walk.specs.Calls.{act_plan, change_fault, move_on}
use Rattle.path_walk.specs.OpenPlan.{flags_fault, open_route, opens_along, opens_in, reserved_plan}
use Rattle.path_walk.specs.Machine.{Meets, Shows, base_of, begun, started, fault_of, goal_of, goal_plan, open_route_of, route_of, goal_program, trail_from, walk_of, way_of, way_up, walks_after, with_one_name_less}

-- a walk from a base begins as its trail does
begins_from : (base : Option Base) (next : Result Spot Errno → Plan) (trail : Trail) (need : Need) (stage : Stage) → ((start : Result Spot Errno) → program_of (next start) ≡ started trail start) → Shows need (begun base trail) stage → Shows need (program_of (from_base base next)) stage
begins_from None next trail need stage same shows = subst (λ p. Shows need p stage) (sym (same (Ok (root_of 0)))) shows
begins_from (Some base) next trail (Done given) stage same shows = absurd shows
begins_from (Some base) next trail (Step cell op) stage same shows = (shows.0, shows.1, λ answer. (same (spot_in answer) ∙ (shows.2 answer).0, (shows.2 answer).1))

abbrev trail_along : Route → Goal → Trail
trail_along route goal = trail_from path_start route.parts route.manner route.slash goal

walks_as : (route : Route) (goal : Goal) (start : Result Spot Errno) → program_of (walks_in route (goal_plan goal) start) ≡ started (trail_along route goal) start
walks_as route goal (Ok spot) = refl
walks_as route goal (Err error) = refl

walks_begin : (base : Option Base) (route : Route) (goal : Goal) (need : Need) (stage : Stage) → Shows need (begun base (trail_along route goal)) stage → Shows need (program_of (walks_from base route (goal_plan goal))) stage
walks_begin base route goal need stage shows = begins_from base (walks_in route (goal_plan goal)) (trail_along route goal) need stage (walks_as route goal) shows

-- the second path of a move
pub moves_on : (last : Option Part) (slash : Bool) (base : Option Base) (new : Result Route Errno) (from : Spot) (route : Route) (trail : Trail) → new ≡ Ok route → base ≡ None → trail ≡ trail_along route (MoveTo from last (slash || route.slash) route.last) → (program_of (move_on last slash base new from) ≡ walk_of trail (way_of trail)) × (walks_after trail.goal < 1)
moves_on last slash base new from route trail is root e = rw (is, root, e) (refl, omega arith)

pub moves_from : (last : Option Part) (slash : Bool) (base : Option Base) (at : Base) (new : Result Route Errno) (from : Spot) (route : Route) (trail : Trail) (need : Need) (stage : Stage) → new ≡ Ok route → base ≡ Some at → trail ≡ trail_along route (MoveTo from last (slash || route.slash) route.last) → Shows need (begun (Some at) trail) stage → Shows need (program_of (move_on last slash base new from)) stage
moves_from last slash base at new from route trail need stage is some e shows =
    subst (λ (b : Option Base). Shows need (program_of (move_on last slash b new from)) stage) (sym some)
    (subst (λ (r : Result Route Errno). Shows need (program_of (move_on last slash (Some at) r from)) stage) (sym is)
    (walks_begin (Some at) route (MoveTo from last (slash || route.slash) route.last) need stage (subst (λ (t : Trail). Shows need (begun (Some at) t) stage) e shows)))

-- a step asked for where a walk is not in the root
asks_above : (is_root : Bool) (rooted : Program) (trail : Trail) (rest : List Part) (names : ℕ) (need : Need) (stage : Stage) → is_root ≡ false → stage ≡ Walking (record trail { rest = rest; names = names }) → need ≡ Step (NamesCell trail.spot.backend) (NamesOp (Parent trail.spot.directory)) → Shows need (if is_root then rooted else asks (NamesCell trail.spot.backend) (NamesOp (Parent trail.spot.directory)) (λ answer. program_on (course_on trail.manner (node_in answer) rest trail.slash trail.links trail.spot) (λ w. walk names w.rest trail.manner w.slash w.links w.spot (goal_program trail.goal)) (goal_program trail.goal))) stage
asks_above true rooted trail rest names need stage h is asked = cc
asks_above false rooted trail rest names need stage h is asked = rw (is, asked) (refl, refl, λ answer. (refl, tt))

up_with : (names : ℕ) (trail : Trail) (rest : List Part) (need : Need) (stage : Stage) → names ≡ trail.names → (trail.names == 0) ≡ false → (trail.spot.directory == 0) ≡ false → stage ≡ Walking (with_one_name_less (record trail { rest = rest })) → need ≡ Step (NamesCell trail.spot.backend) (NamesOp (Parent trail.spot.directory)) → Shows need (walk names (Up ∷ rest) trail.manner trail.slash trail.links trail.spot (goal_program trail.goal)) stage
up_with zero trail rest need stage e some h is asked = let clash : true ≡ false = ap (λ (n : ℕ). n == 0) e ∙ some in cc
up_with (suc names) trail rest need stage e some h is asked =
    let fewer : with_one_name_less (record trail { rest = rest }) ≡ record trail { rest = rest; names = names } = ap (λ (n : ℕ). let t : Trail = record trail { rest = rest; names = n } in t) (omega (arith, e)) in
    asks_above (trail.spot.directory == 0) (walk names rest trail.manner trail.slash trail.links (root_of 0) (goal_program trail.goal)) trail rest names need stage h (is ∙ ap (λ (t : Trail). Walking t) fewer) asked

-- `..` where the walk is not in the root
pub up_shows : (trail : Trail) (need : Need) (stage : Stage) → (trail.names == 0) ≡ false → (trail.spot.directory == 0) ≡ false → stage ≡ Walking (with_one_name_less trail) → need ≡ Step (NamesCell trail.spot.backend) (NamesOp (Parent trail.spot.directory)) → Shows need (walk_of trail (way_up trail)) stage
up_shows trail need stage some h is asked = up_with trail.names trail trail.rest need stage refl some h is asked

-- the trail goes on
pub meets_goes : (old new : Trail) (c : Course) (need : Need) (stage : Stage) → Meets old c Goes new → Shows need (walk_of new (way_of new)) stage → Shows need (program_on c (walk_of old) (goal_program old.goal)) stage
meets_goes old new (ends end) need stage h shows = absurd h
meets_goes old new (goes w) need stage h shows = subst (λ (t : Trail). Shows need (walk_of t (way_of t)) stage) h shows

is_some : {X : Type 0} (x y : X) → Some x ≡ Some y → x ≡ y
is_some x y e = cc

-- a call that walks first, by what became of its route
abbrev begun_plan : Act → Option Errno → Result Route Errno → Plan
begun_plan a fault r = unless_fault fault (on_ok r (λ route. walks_from (base_of a) route (goal_plan (goal_of a route.last route.slash))))

begins_so : (a : Act) (r : Result Route Errno) → Some r ≡ route_of a → act_plan a ≡ begun_plan a (fault_of a) r
begins_so (act.Entry change at) r is = sym (ap (begun_plan (act.Entry change at) (change_fault change)) (is_some r (parent_route at.path) is))
begins_so (act.Move at new) r is = sym (ap (begun_plan (act.Move at new) None) (is_some r (parent_route at.path) is))
begins_so (act.Status manner at) r is = sym (ap (begun_plan (act.Status manner at) None) (is_some r (whole_route manner at.path) is))
begins_so (act.Text at) r is = sym (ap (begun_plan (act.Text at) None) (is_some r (whole_route Stays at.path) is))
begins_so (act.Names at start) r is = sym (ap (begun_plan (act.Names at start) None) (is_some r (whole_route Follows at.path) is))
begins_so (act.Enter at) r is = sym (ap (begun_plan (act.Enter at) None) (is_some r (whole_route Follows at.path) is))
begins_so (act.Open at flags) r is = cc
begins_so (act.EnterNumber number) r is = cc
begins_so (act.Numbers op) r is = cc
begins_so (act.Data number purpose) r is = cc

-- a call that is refused before any path of it
pub begins_refused : (a : Act) (r : Result Route Errno) (error : Errno) (need : Need) (stage : Stage) → Some r ≡ route_of a → fault_of a ≡ Some error → Shows need (finished (Fault error)) stage → Shows need (program_of (act_plan a)) stage
begins_refused a r error need stage first fault shows =
    subst (λ p. Shows need (program_of p) stage) (sym (begins_so a r first ∙ ap (λ (f : Option Errno). begun_plan a f r) fault)) shows

-- a call whose path is not walked
pub begins_in_error : (a : Act) (r : Result Route Errno) (error : Errno) (need : Need) (stage : Stage) → Some r ≡ route_of a → fault_of a ≡ None → r ≡ Err error → Shows need (finished (Fault error)) stage → Shows need (program_of (act_plan a)) stage
begins_in_error a r error need stage first fault is shows =
    subst (λ p. Shows need (program_of p) stage) (sym (begins_so a r first ∙ ap (λ (f : Option Errno). begun_plan a f r) fault ∙ ap (begun_plan a None) is)) shows

-- a call begins along its first route
pub begins_along : (a : Act) (r : Result Route Errno) (route : Route) (need : Need) (stage : Stage) → Some r ≡ route_of a → fault_of a ≡ None → r ≡ Ok route → Shows need (begun (base_of a) (trail_along route (goal_of a route.last route.slash))) stage → Shows need (program_of (act_plan a)) stage
begins_along a r route need stage first fault is shows =
    subst (λ p. Shows need (program_of p) stage) (sym (begins_so a r first ∙ ap (λ (f : Option Errno). begun_plan a f r) fault ∙ ap (begun_plan a None) is))
    (walks_begin (base_of a) route (goal_of a route.last route.slash) need stage shows)

-- an `open` goes along a path while it has walks
pub opens_on : (walks_left few : ℕ) (request : OpenRequest) (from : Station) (route : OpenRoute) (trail : Trail) (need : Need) (stage : Stage) → (walks_left ≡ 0 → ⊥) → few ≡ walks_left - 1 → trail ≡ trail_from from route.route.parts route.route.manner route.route.slash (Open few request route.name) → Shows need (walk_of trail (way_of trail)) stage → Shows need (program_of (opens_along walks_left request from route)) stage
unfolding opens_along
opens_on zero few request from route trail need stage some e is shows = absurd (some refl)
opens_on (suc walks_left) few request from route trail need stage some e is shows =
    let fewer : few ≡ walks_left = omega (arith, e) in
    subst (λ (t : Trail). Shows need (walk_of t (way_of t)) stage) (is ∙ ap (λ (n : ℕ). trail_from from route.route.parts route.route.manner route.route.slash (Open n request route.name)) fewer) shows

-- an `open` begins along its path
opens_as : (request : OpenRequest) (route : OpenRoute) (start : Result Spot Errno) → program_of (opens_in request route start) ≡ started (trail_along route.route (Open symloop_max request route.name)) start
unfolding opens_along
opens_as request route (Ok spot) = refl
opens_as request route (Err error) = refl

pub opens_from : (base : Option Base) (request : OpenRequest) (route : OpenRoute) (trail : Trail) (need : Need) (stage : Stage) → trail ≡ trail_along route.route (Open symloop_max request route.name) → Shows need (begun base trail) stage → Shows need (program_of (from_base base (opens_in request route))) stage
opens_from base request route trail need stage is shows =
    begins_from base (opens_in request route) (trail_along route.route (Open symloop_max request route.name)) need stage (opens_as request route) (subst (λ (t : Trail). Shows need (begun base t) stage) is shows)

-- an `open` begins with the reservation of a number
pub begins_opening : (a : Act) (at : PathAt) (flags : OpenFlags) (route : Result OpenRoute Errno) (need : Need) (stage : Stage) → a ≡ act.Open at flags → Some route ≡ open_route_of a → Shows need (program_of (unless_fault (flags_fault flags) (steps DescriptorsCell (DescriptorsOp Reserve) (reserved_plan flags at.base route)))) stage → Shows need (program_of (act_plan a)) stage
begins_opening a at flags route need stage is first shows =
    subst (λ (a : Act). Shows need (program_of (act_plan a)) stage) (sym is)
    (subst (λ (r : Result OpenRoute Errno). Shows need (program_of (unless_fault (flags_fault flags) (steps DescriptorsCell (DescriptorsOp Reserve) (reserved_plan flags at.base r)))) stage) (is_some route (open_route at.path) (first ∙ ap open_route_of is)) shows)
