use Rattle.call_laws.proofs.DebtLemmas.{debts_are_paid}
use Rattle.call_laws.proofs.debt_laws.debts_are_paid.Goals as goal

pub returns : goal.returns
returns c = debts_are_paid
