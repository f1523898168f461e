use Rattle.call_laws.proofs.MakingLemmas.{symlink_makes}
use Rattle.call_laws.proofs.entry_laws.symlink_makes.Goals as goal

pub returns : goal.returns
returns c = symlink_makes
