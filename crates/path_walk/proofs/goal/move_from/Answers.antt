use Rattle.path_walk.proofs.MachineLemmas.{moves_from, moves_on}
use Rattle.path_walk.proofs.goal.move_from.Goals as goal

pub returns-in-None : goal.returns-in-None
returns-in-None c = moves_on c.args.last c.args.slash c.args.base c.args.new c.args.from c.in-Ok.route c.from_root-trail.result c.in-Ok.is c.in-None.is c.from_root-trail.ensures

pub returns-in-Some : goal.returns-in-Some
returns-in-Some c =
    moves_from c.args.last c.args.slash c.args.base c.in-Some.base c.args.new c.args.from c.in-Ok.route c.from_root-trail.result c.ask_start.result.need c.ask_start.result.stage c.in-Ok.is c.in-Some.is c.from_root-trail.ensures c.ask_start.ensures
