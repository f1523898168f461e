use Rattle.path_walk.proofs.MachineLemmas.{opens_from}
use Rattle.path_walk.proofs.open_stage.open_from.Goals as goal

pub returns : goal.returns
returns c = opens_from c.args.base c.args.request c.args.route c.from_root.result c.begin.result.need c.begin.result.stage c.from_root.ensures c.begin.ensures
