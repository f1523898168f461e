use Rattle.file_store.proofs.FormLemmas.{form_of_ok}
use Rattle.file_store.proofs.Soundness.{step_keeps_sound}
use Rattle.file_store.proofs.StepLaws.{unchanged_of_ok}
use Rattle.file_store.proofs.files.Files.apply.Goals as goal

pub invariant_of-self : goal.invariant_of-self
invariant_of-self c = step_keeps_sound c.self.inside.group c.step.new.self c.args.op.now c.step.result c.self.invariant c.step.ensures.ok c.step.ensures.err

pub returns-clause-form : goal.returns-clause-form
returns-clause-form c = form_of_ok c.self.inside.group c.step.new.self c.args.op.now c.step.result c.self.invariant c.step.ensures.ok

pub returns-clause-sound : goal.returns-clause-sound
returns-clause-sound c = step_keeps_sound c.self.inside.group c.step.new.self c.args.op.now c.step.result c.self.invariant c.step.ensures.ok c.step.ensures.err

pub returns-clause-unchanged : goal.returns-clause-unchanged
returns-clause-unchanged c = rw (← c.self.view_is) (unchanged_of_ok c.self.inside.group c.step.new.self c.args.op.now c.step.result c.step.ensures.ok)
