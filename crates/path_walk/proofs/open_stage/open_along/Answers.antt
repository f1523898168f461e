use Rattle.std.proofs.Common.{refl}
use Rattle.path_walk.proofs.MachineLemmas.{opens_on}
use Rattle.path_walk.proofs.open_stage.open_along.Goals as goal

pub returns : goal.returns
returns c =
    opens_on c.args.walks _ c.args.request c.args.from c.args.route c.new.result c.proceed.result.need c.proceed.result.stage c.if-walks-eq0.false refl c.new.ensures c.proceed.ensures
