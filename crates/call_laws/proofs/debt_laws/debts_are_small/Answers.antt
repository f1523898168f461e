use Rattle.call_laws.proofs.SmallDebts.{debts_are_small}
use Rattle.call_laws.proofs.debt_laws.debts_are_small.Goals as goal

pub returns : goal.returns
returns c = debts_are_small
