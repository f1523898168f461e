use Rattle.path_walk.proofs.Within.{calls_end}
use Rattle.path_walk.proofs.laws.calls_end.Goals as goal

pub returns : goal.returns
returns c = calls_end
