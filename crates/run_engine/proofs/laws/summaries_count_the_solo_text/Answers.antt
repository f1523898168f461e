use Rattle.run_engine.proofs.LawLemmas.{counts_the_solo_text}
use Rattle.run_engine.proofs.laws.summaries_count_the_solo_text.Goals as goal

pub returns : goal.returns
returns c = counts_the_solo_text
