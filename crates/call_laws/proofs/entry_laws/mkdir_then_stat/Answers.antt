use Rattle.call_laws.proofs.MakingLemmas.{mkdir_then_stat}
use Rattle.call_laws.proofs.entry_laws.mkdir_then_stat.Goals as goal

pub returns : goal.returns
returns c = mkdir_then_stat
