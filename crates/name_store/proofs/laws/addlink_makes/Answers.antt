use Rattle.name_store.proofs.EntryLemmas.{addlink_makes}
use Rattle.name_store.proofs.laws.addlink_makes.Goals as goal

pub returns : goal.returns
returns c = addlink_makes
