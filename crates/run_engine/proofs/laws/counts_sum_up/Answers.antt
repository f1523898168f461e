use Rattle.run_engine.proofs.LawLemmas.{sums}
use Rattle.run_engine.proofs.laws.counts_sum_up.Goals as goal

pub returns : goal.returns
returns c = sums
