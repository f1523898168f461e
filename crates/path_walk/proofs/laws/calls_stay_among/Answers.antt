use Rattle.path_walk.proofs.Among.{calls_stay_among}
use Rattle.path_walk.proofs.laws.calls_stay_among.Goals as goal

pub returns : goal.returns
returns c = calls_stay_among
