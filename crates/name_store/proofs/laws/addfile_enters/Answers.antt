use Rattle.name_store.proofs.EntryLemmas.{addfile_enters}
use Rattle.name_store.proofs.laws.addfile_enters.Goals as goal

pub returns : goal.returns
returns c = addfile_enters
