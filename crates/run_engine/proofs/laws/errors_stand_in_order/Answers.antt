use Rattle.run_engine.proofs.OrderLemmas.{in_order}
use Rattle.run_engine.proofs.laws.errors_stand_in_order.Goals as goal

pub returns : goal.returns
returns c = in_order
