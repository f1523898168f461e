-- What an `open` that waits for an answer stands for.
use Rattle.std.specs.Prelude.{Option, None, Some, Result, Ok}
use Rattle.wf_core.specs.declared.errno.Errno.{Errno}
use Rattle.name_store.specs.declared.operation.Node.{Node}
use Rattle.name_store.specs.declared.operation.Node.TheVariants.{Link}
use Rattle.path_walk.specs.declared.open_request.OpenRoute.{OpenRoute}
use Rattle.path_walk.specs.declared.open_stage.OpenStage.{OpenStage}
use Rattle.path_walk.specs.declared.open_stage.OpenStage.TheVariants as stage
use Rattle.path_walk.specs.declared.step.StepAnswer.{StepAnswer}
use Rattle.path_walk.specs.declared.call.Reply.TheVariants as reply
use Rattle.path_walk.specs.Walk.{node_in}
use Rattle.path_walk.specs.Plans.{Plan, replies, fails, fault_in}
use Rattle.path_walk.specs.OpenPlan.{reserved_plan, opens_along, looked_plan, made_plan, added_plan, unlinked_plan, meant_plan, attached_plan, unless_drops, route_to}

abbrev pub stage_plan : OpenStage → StepAnswer → Plan
stage_plan (stage.Reserving flags base route) given = reserved_plan flags base route given
stage_plan (stage.Looking at name) given = looked_plan (opens_along at.walks) at.request at.station name (node_in given)
stage_plan (stage.Making at name) given = made_plan (opens_along at.walks) at.request at.station name given
stage_plan (stage.Adding at file description) given = added_plan (opens_along at.walks) at.request at.station file description given
stage_plan (stage.Unlinking at description found) given = unlinked_plan (opens_along at.walks) at.request at.station description found given
stage_plan (stage.Unmaking at found) given = unless_drops at.request.number (fault_in given) (meant_plan (opens_along at.walks) at.request at.station found)
stage_plan (stage.Attaching number backend) given = attached_plan number backend given
stage_plan (stage.Filling number) given = unless_drops number (fault_in given) (replies (reply.Fd number))
stage_plan (stage.Dropping error) given = fails error

-- the path of the link that was found, which wants memory to be read
abbrev pub route_at : Node → Option OpenRoute
route_at (Link id text) = Some (route_to text)
route_at node = None

abbrev pub route_in : Result (Option Node) Errno → Option OpenRoute
route_in (Ok (Some node)) = route_at node
route_in found = None

abbrev pub text_route : OpenStage → StepAnswer → Option OpenRoute
text_route (stage.Looking at name) given = route_in (node_in given)
text_route (stage.Unmaking at (Ok node)) given = route_at node
text_route waiting given = None
