use Rattle.path_walk.proofs.Leads.{steps_are_the_call}
use Rattle.path_walk.proofs.laws.steps_are_the_call.Goals as goal

pub returns : goal.returns
returns c = steps_are_the_call
