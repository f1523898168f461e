use Rattle.run_engine.proofs.LawLemmas.{draws_are}
use Rattle.run_engine.proofs.laws.first_draws.Goals as goal

pub returns : goal.returns
returns c = draws_are
