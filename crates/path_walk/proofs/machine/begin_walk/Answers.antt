use Rattle.std.proofs.Common.{ap, sym, subst, ◌∙◌, Option, Some}
use Rattle.path_walk.proofs.MachineLemmas.{begins_along, begins_in_error, begins_refused}
use Rattle.path_walk.proofs.machine.begin_walk.Goals as goal

pub returns-in-Some : goal.returns-in-Some
returns-in-Some c =
    begins_refused c.args.act c.args.route c.in-Some.errno c.fault.result.need c.fault.result.stage c.requires.first (sym c.early_fault.ensures ∙ c.in-Some.is) c.fault.ensures

pub returns-in-Err : goal.returns-in-Err
returns-in-Err c =
    begins_in_error c.args.act c.args.route c.in-Err.errno c.fault-in-Err.result.need c.fault-in-Err.result.stage c.requires.first (sym c.early_fault.ensures ∙ c.in_default.is) c.in-Err.is c.fault-in-Err.ensures

pub returns-in-Ok : goal.returns-in-Ok
returns-in-Ok c =
    begins_along c.args.act c.args.route c.in-Ok.route c.begin_along.result.need c.begin_along.result.stage c.requires.first (sym c.early_fault.ensures ∙ c.in_default.is) c.in-Ok.is c.begin_along.ensures
