use Rattle.call_laws.proofs.MakingLemmas.{mkdir_makes}
use Rattle.call_laws.proofs.entry_laws.mkdir_makes.Goals as goal

pub returns : goal.returns
returns c = mkdir_makes
