-- What a machine of one call stands for: the program that is left of the call.
use Rattle.std.specs.Prelude.{◌≡◌, ℕ, ◌-◌, ◌<◌, Bool, List, ◌∷◌, Option, None, Some, Result, Ok, Err}
use Rattle.wf_core.specs.declared.errno.Errno.{Errno}
use Rattle.path_walk.specs.declared.step.CellId.TheVariants.{Descriptors as DescriptorsCell}
use Rattle.path_walk.specs.declared.step.StoreOp.TheVariants.{Descriptors as DescriptorsOp}
use Rattle.path_walk.specs.declared.step.StepAnswer.{StepAnswer}
use Rattle.path_walk.specs.declared.call.Reply.TheVariants.{Done}
use Rattle.path_walk.specs.declared.call.Need.{Need}
use Rattle.path_walk.specs.declared.call.Need.TheVariants.{Step, Done as DoneNeed}
use Rattle.path_walk.specs.declared.part.Part.{Part}
use Rattle.path_walk.specs.declared.part.Part.TheVariants.{Up}
use Rattle.path_walk.specs.declared.call.Call.{Call}
use Rattle.path_walk.specs.declared.call.Call.TheVariants as call
use Rattle.path_walk.specs.declared.act.Act.{Act}
use Rattle.path_walk.specs.declared.act.Act.TheVariants as act
use Rattle.path_walk.specs.declared.call.Base.{Base}
use Rattle.path_walk.specs.declared.route.Manner.{Manner}
use Rattle.path_walk.specs.declared.route.Manner.TheVariants.{Follows, Stays}
use Rattle.path_walk.specs.declared.route.Spot.{Spot}
use Rattle.path_walk.specs.declared.route.Station.{Station}
use Rattle.path_walk.specs.declared.route.Route.{Route}
use Rattle.path_walk.specs.declared.open_request.OpenRoute.{OpenRoute}
use Rattle.path_walk.specs.declared.route.End.{End}
use Rattle.path_walk.specs.declared.goal.Goal.{Goal}
use Rattle.path_walk.specs.declared.goal.Reached.{Reached}
use Rattle.path_walk.specs.declared.goal.Reached.TheVariants.{Pause as ReachedPause, Trail as ReachedTrail}
use Rattle.path_walk.specs.declared.trail.Advance.{Advance}
use Rattle.path_walk.specs.declared.trail.Advance.TheVariants.{Asks, Ends}
use Rattle.path_walk.specs.declared.goal.Goal.TheVariants.{Status, Text, Names, Enter, Entry, Open, MoveFrom, MoveTo}
use Rattle.path_walk.specs.declared.trail.Trail.{Trail}
use Rattle.path_walk.specs.declared.trail.Stage.{Stage}
use Rattle.path_walk.specs.declared.trail.Stage.TheVariants.{Start, Starting, Walking, LastOnNames, Last, Looking, LastOnDescriptors, Releasing, Entering, OpeningFile}
use Rattle.name_store.specs.declared.operation.Node.{Node}
use Rattle.path_walk.specs.declared.trail.Onward.{Onward}
use Rattle.path_walk.specs.declared.trail.Onward.TheVariants.{Ends as EndsThere, Goes}
use Rattle.path_walk.specs.PathMeaning.{Way, Course, ends, goes, course_to_link, root_of}
use Rattle.path_walk.specs.Programs.{Program, finished, asks}
use Rattle.path_walk.specs.Walk.{node_in, course_on, program_on, walk}
use Rattle.path_walk.specs.Plans.{Plan, fault_in, unless_told, parent_route, whole_route, op_of_base, program_of, reply_to, spot_in}
use Rattle.path_walk.specs.Calls.{act_plan, change_fault, change_plan, enter_plan, list_plan, move_on, move_plan, parent_plan, plan_after, status_plan, text_plan, unlinked_by}
use Rattle.path_walk.specs.DescriptorCalls.{number_plan, data_step_plan, enters}
use Rattle.path_walk.specs.OpenPlan.{open_end, open_route, opens_along}
use Rattle.path_walk.specs.OpenStages.{stage_plan, text_route}

-- what a call does at the end of its walk
abbrev pub goal_plan : Goal → Result End Errno → Plan
goal_plan Status end = status_plan end
goal_plan Text end = text_plan end
goal_plan (Names start) end = list_plan start end
goal_plan Enter end = enter_plan end
goal_plan (Entry change last slash) end = parent_plan last (change_plan change last slash) end
goal_plan (Open walks request name) end = open_end (opens_along walks) request name end
goal_plan (MoveFrom last slash base new) end = parent_plan last (move_on last slash base new) end
goal_plan (MoveTo from last slash new_last) end = parent_plan new_last (move_plan from last slash new_last) end

abbrev pub goal_program : Goal → Result End Errno → Program
goal_program goal end = program_of (goal_plan goal end)

-- the walk that a trail is on, from what is still to be walked
abbrev pub walk_of : Trail → Way → Program
walk_of trail w = walk trail.names w.rest trail.manner w.slash w.links w.spot (goal_program trail.goal)

abbrev pub way_of : Trail → Way
way_of trail = record { rest = trail.rest; slash = trail.slash; links = trail.links; spot = trail.spot }

-- the same, with `..` first
abbrev pub way_up : Trail → Way
way_up trail = record (way_of trail) { rest = Up ∷ trail.rest }

-- the start of a walk
abbrev pub trail_from : Station → List Part → Manner → Bool → Goal → Trail
trail_from from rest manner slash goal = record { rest = rest; manner = manner; slash = slash; names = from.names; links = from.links; spot = from.spot; goal = goal }

abbrev pub with_one_name_less : Trail → Trail
with_one_name_less trail = record trail { names = trail.names - 1 }

-- the call is given a number in place of a path
abbrev pub IsOnNumber : Call → Type 0
IsOnNumber (call.Fchdir number) = Unit {0}
IsOnNumber (call.Close number) = Unit {0}
IsOnNumber (call.Dup number) = Unit {0}
IsOnNumber (call.Dup2 number target) = Unit {0}
IsOnNumber (call.Read number count) = Unit {0}
IsOnNumber (call.Pread number count offset) = Unit {0}
IsOnNumber (call.Write number bytes) = Unit {0}
IsOnNumber (call.Pwrite number bytes offset) = Unit {0}
IsOnNumber (call.Seek number offset whence) = Unit {0}
IsOnNumber (call.Ftruncate number size) = Unit {0}
IsOnNumber (call.Fstat number) = Unit {0}
IsOnNumber call = ⊥

-- the path that a call walks first, unless it begins with a step
abbrev pub route_of : Act → Option (Result Route Errno)
route_of (act.Entry change at) = Some (parent_route at.path)
route_of (act.Move at new) = Some (parent_route at.path)
route_of (act.Status manner at) = Some (whole_route manner at.path)
route_of (act.Text at) = Some (whole_route Stays at.path)
route_of (act.Names at start) = Some (whole_route Follows at.path)
route_of (act.Enter at) = Some (whole_route Follows at.path)
route_of act = None

-- where that path starts; a call that walks none at first is not asked
abbrev pub base_of : Act → Option Base
base_of (act.Entry change at) = at.base
base_of (act.Move at new) = at.base
base_of (act.Status manner at) = at.base
base_of (act.Text at) = at.base
base_of (act.Names at start) = at.base
base_of (act.Enter at) = at.base
base_of act = None

-- the other path of a move
abbrev pub new_route_of : Act → Option (Result Route Errno)
new_route_of (act.Move at new) = Some (parent_route new.path)
new_route_of act = None

-- the path that a call opens
abbrev pub open_route_of : Act → Option (Result OpenRoute Errno)
open_route_of (act.Open at flags) = Some (open_route at.path)
open_route_of act = None

-- the error of a call before any path of it
abbrev pub fault_of : Act → Option Errno
fault_of (act.Entry change at) = change_fault change
fault_of act = None

-- what a call does at the end of its first path; one that walks none at first is not asked
abbrev pub goal_of : Act → Option Part → Bool → Goal
goal_of (act.Entry change at) last slash = Entry change last slash
goal_of (act.Move at new) last slash = MoveFrom last slash new.base (parent_route new.path)
goal_of (act.Text at) last slash = Text
goal_of (act.Names at start) last slash = Names start
goal_of (act.Enter at) last slash = Enter
goal_of act last slash = Status

-- how many walks follow that of a goal
abbrev pub walks_after : Goal → ℕ
walks_after (MoveFrom last slash base new) = 1
walks_after goal = 0

-- the course from what was found
abbrev pub course_of : Trail → Result (Option Node) Errno → Course
course_of trail found = course_on trail.manner found trail.rest trail.slash trail.links trail.spot

abbrev pub course_along : Trail → List ℕ → Course
course_along trail text = course_to_link trail.manner text trail.rest trail.slash trail.links trail.spot

-- the walk of a trail from the directory in which it starts, where that is there
abbrev pub trail_at : Spot → Trail → Trail
trail_at spot trail = record trail { spot = spot }

abbrev pub started : Trail → Result Spot Errno → Program
started trail (Ok spot) = walk_of (trail_at spot trail) (way_of (trail_at spot trail))
started trail (Err error) = goal_program trail.goal (Err error)

-- in the root, or after the step that tells where
abbrev pub begun : Option Base → Trail → Program
begun None trail = started trail (Ok (root_of 0))
begun (Some base) trail = asks DescriptorsCell (DescriptorsOp (op_of_base base)) (λ given. started trail (spot_in given))

-- the machine is not begun and has no answer, or waits for an answer and has one
abbrev pub Expects : Stage → Option StepAnswer → Type 0
Expects (Start act) None = Unit {0}
Expects (Starting trail) (Some answer) = Unit {0}
Expects (Walking trail) (Some answer) = Unit {0}
Expects (LastOnNames backend) (Some answer) = Unit {0}
Expects Last (Some answer) = Unit {0}
Expects Entering (Some answer) = Unit {0}
Expects (Looking call) (Some answer) = Unit {0}
Expects LastOnDescriptors (Some answer) = Unit {0}
Expects (Releasing given) (Some answer) = Unit {0}
Expects (OpeningFile stage) (Some answer) = Unit {0}
Expects stage answer = ⊥

-- what is left of the call at the answer that the machine waited for; nothing is expected when it is over
abbrev pub resumed : Stage → Option StepAnswer → Program
resumed (Start act) answer = program_of (act_plan act)
resumed (Starting trail) (Some answer) = started trail (spot_in answer)
resumed (Walking trail) (Some answer) = program_on (course_of trail (node_in answer)) (walk_of trail) (goal_program trail.goal)
resumed (LastOnNames backend) (Some answer) = program_of (plan_after backend answer (unlinked_by answer))
resumed Last (Some answer) = finished (reply_to answer)
resumed Entering (Some answer) = program_of (enters (spot_in answer))
resumed (Looking call) (Some answer) = program_of (data_step_plan call answer)
resumed LastOnDescriptors (Some answer) = program_of (number_plan answer)
resumed (Releasing given) (Some answer) = finished (unless_told (fault_in answer) given)
resumed (OpeningFile stage) (Some answer) = program_of (stage_plan stage answer)
resumed stage answer = finished Done

-- the machine tells what the program does next, and stands for what is left after any answer
abbrev pub Shows : Need → Program → Stage → Type 0
Shows (DoneNeed reply) (finished given) stage = reply ≡ given
Shows (DoneNeed reply) (asks cell op next) stage = ⊥
Shows (Step cell op) (finished given) stage = ⊥
Shows (Step cell op) (asks asked_cell asked_op next) stage =
    (cell ≡ asked_cell) × (op ≡ asked_op) × ((answer : StepAnswer) → (next answer ≡ resumed stage (Some answer)) × Expects stage (Some answer))

abbrev pub with_way : Trail → Way → Trail
with_way trail w = record trail { rest = w.rest; slash = w.slash; links = w.links; spot = w.spot }

-- the trail has met a course
abbrev pub Meets : Trail → Course → Onward → Trail → Type 0
Meets old (ends end) (EndsThere given) new = (given ≡ end) × (new ≡ old)
Meets old (goes w) Goes new = new ≡ with_way old w
Meets old course onward new = ⊥

abbrev pub IsOpeningFile : Stage → Type 0
IsOpeningFile (OpeningFile stage) = Unit {0}
IsOpeningFile stage = ⊥

-- the path of the link to which an `open` is led
abbrev pub link_route : Stage → StepAnswer → Option OpenRoute
link_route (OpeningFile stage) answer = text_route stage answer
link_route stage answer = None

-- the call is not begun, and these are its paths that are read
abbrev pub IsStart : Stage → Option (Result Route Errno) → Option (Result Route Errno) → Option (Result OpenRoute Errno) → Type 0
IsStart (Start act) route new to_open = (route ≡ route_of act) × (new ≡ new_route_of act) × (to_open ≡ open_route_of act)
IsStart stage route new to_open = ⊥

-- the machine goes on without want of memory
abbrev pub IsPlain : Stage → Type 0
IsPlain (Walking trail) = ⊥
IsPlain (OpeningFile stage) = ⊥
IsPlain stage = Unit {0}

abbrev pub IsWalking : Stage → Type 0
IsWalking (Walking trail) = Unit {0}
IsWalking stage = ⊥

-- at the end of a goal's walk: the call's last step or its reply, or the walk that follows
abbrev pub Reaches : Goal → Program → Reached → Type 0
Reaches goal left (ReachedPause pause) = Shows pause.need left pause.stage
Reaches goal left (ReachedTrail trail) = (left ≡ walk_of trail (way_of trail)) × (walks_after trail.goal < walks_after goal)

-- a trail that is followed until it asks for a step, or to its end
abbrev pub Advances : Trail → Advance → Trail → Type 0
Advances old (Asks need) new = Shows need (walk_of old (way_of old)) (Walking new)
Advances old (Ends end) new = (walk_of old (way_of old) ≡ goal_program old.goal end) × (new.goal ≡ old.goal)

-- what is left of the call where the walk that is under way ends
abbrev pub left_at : Stage → Result End Errno → Program
left_at (Walking trail) end = goal_program trail.goal end
left_at stage end = finished Done
