use Rattle.name_store.proofs.EntryLemmas.{makedir_makes}
use Rattle.name_store.proofs.laws.makedir_makes.Goals as goal

pub returns : goal.returns
returns c = makedir_makes
