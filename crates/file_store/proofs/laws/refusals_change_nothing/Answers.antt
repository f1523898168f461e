use Rattle.file_store.proofs.StepLaws.{refusals_change_nothing}
use Rattle.file_store.proofs.laws.refusals_change_nothing.Goals as goal

pub returns : goal.returns
returns c = refusals_change_nothing
