use Rattle.name_store.proofs.Refusals.{step_keeps_sound, step_unchanged}
use Rattle.name_store.proofs.name_tree.NameTree.apply.Goals as goal

pub invariant_of-self : goal.invariant_of-self
invariant_of-self c = step_keeps_sound c.self.inside.directories c.step.new.self c.args.op.now c.step.result c.self.invariant c.step.ensures.ok c.step.ensures.err

pub returns-clause-unchanged : goal.returns-clause-unchanged
returns-clause-unchanged c = rw (← c.self.view_is) (step_unchanged c.self.inside.directories c.step.new.self c.args.op.now c.step.result c.step.ensures.ok)

pub returns-clause-sound : goal.returns-clause-sound
returns-clause-sound c = step_keeps_sound c.self.inside.directories c.step.new.self c.args.op.now c.step.result c.self.invariant c.step.ensures.ok c.step.ensures.err
