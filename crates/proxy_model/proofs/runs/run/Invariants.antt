use Rattle.std.proofs.Common.{take}
use Rattle.proxy_laws.specs.Runs.{LeadsBy}
use Rattle.proxy_model.specs.Refusals.{CanStep}
use Rattle.proxy_model.specs.Shown.{world_of}
use Rattle.proxy_model.proofs.runs.run.Given as goal

-- the events so far have led here
abbrev pub invariant-loop-index : goal.invariant-loop-index
invariant-loop-index l = LeadsBy CanStep (world_of l.fn.world) (take l.index l.events) (world_of l.world)
