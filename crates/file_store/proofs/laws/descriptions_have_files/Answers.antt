use Rattle.file_store.proofs.StepLaws.{descriptions_have_files}
use Rattle.file_store.proofs.laws.descriptions_have_files.Goals as goal

pub returns : goal.returns
returns c = descriptions_have_files
