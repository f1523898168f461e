use Rattle.call_laws.proofs.TakenLemmas.{entries_are_taken}
use Rattle.call_laws.proofs.exclusive_laws.entries_are_taken.Goals as goal

pub returns : goal.returns
returns c = entries_are_taken
