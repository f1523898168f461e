use Rattle.path_walk.proofs.MachineLemmas.{begins_opening}
use Rattle.path_walk.proofs.machine.begin_open.Goals as goal

pub returns : goal.returns
returns c = begins_opening c.args.act c.in-Open.at c.in-Open.flags c.args.route c.open.result.need c.open.result.stage c.in-Open.is c.requires c.open.ensures
