use Rattle.name_store.proofs.EntryLemmas.{same_is_one_entry}
use Rattle.name_store.proofs.laws.same_is_one_entry.Goals as goal

pub returns : goal.returns
returns c = same_is_one_entry
