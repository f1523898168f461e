use Rattle.std.proofs.Common.{refl}
use Rattle.turn_cell.proofs.Dealing.{records_longer}
use Rattle.turn_cell.proofs.making.records_of.Goals as goal

pub loop-state-preserved : goal.loop-state-preserved
loop-state-preserved g c = records_longer c.loop-state.records.items c.push.new.self.items c.loop-state.yielded c.in-Some.state (record { state = c.in-Some.state; entries = c.new.result }) c.in_ok-push.ensures.items refl c.new.ensures.items c.loop-state.invariant
