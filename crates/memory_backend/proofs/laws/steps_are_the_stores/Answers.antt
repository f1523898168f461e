use Rattle.memory_backend.proofs.StoreMoves.{steps_are}
use Rattle.memory_backend.proofs.laws.steps_are_the_stores.Goals as goal

pub returns : goal.returns
returns c = steps_are
