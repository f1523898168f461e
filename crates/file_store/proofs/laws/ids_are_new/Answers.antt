use Rattle.file_store.proofs.StepLaws.{ids_are_new}
use Rattle.file_store.proofs.laws.ids_are_new.Goals as goal

pub returns : goal.returns
returns c = ids_are_new
