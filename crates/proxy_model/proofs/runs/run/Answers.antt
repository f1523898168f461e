use Rattle.proxy_laws.proofs.Inductive.{runs_keep_sound}
use Rattle.proxy_model.specs.Shown.{world_of}
use Rattle.proxy_model.proofs.Led.{leads_on, steps_lead, stops}
use Rattle.proxy_model.proofs.runs.run.Goals as goal

pub returns-in-Err-clause-stops : goal.returns-in-Err-clause-stops
returns-in-Err-clause-stops c =
    stops (world_of c.args.world.now) (world_of c.loop-index.world) _ c.args.events.now c.loop-index.index _ _ c.loop-index-test.true c.loop-index.invariant c.in-Err.ensures.err c.in-Err.ensures.refused

pub loop-index-preserved : goal.loop-index-preserved
loop-index-preserved c =
    leads_on (world_of c.args.world.now) (world_of c.loop-index.world) _ c.args.events.now c.loop-index.index _ c.loop-index-test.true c.loop-index.invariant c.in_default.ensures.ok

pub returns-in-Err-clause-sound : goal.returns-in-Err-clause-sound
returns-in-Err-clause-sound c sound = c.in-Err.ensures.sound (runs_keep_sound _ _ _ sound (steps_lead _ _ _ c.loop-index.invariant))

pub returns-clause-sound : goal.returns-clause-sound
returns-clause-sound c sound = runs_keep_sound _ _ _ sound (steps_lead _ _ _ c.loop-index.invariant)
