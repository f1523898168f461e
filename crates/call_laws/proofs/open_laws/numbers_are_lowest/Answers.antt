use Rattle.call_laws.proofs.NumberLemmas.{numbers_are_lowest}
use Rattle.call_laws.proofs.open_laws.numbers_are_lowest.Goals as goal

pub returns : goal.returns
returns c = numbers_are_lowest
