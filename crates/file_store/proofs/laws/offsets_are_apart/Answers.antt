use Rattle.file_store.proofs.StepLaws.{offsets_are_apart}
use Rattle.file_store.proofs.laws.offsets_are_apart.Goals as goal

pub returns : goal.returns
returns c = offsets_are_apart
