use Rattle.file_store.proofs.DescriptorLawLemmas.{names_are_given}
use Rattle.file_store.proofs.laws.names_are_given.Goals as goal

pub returns : goal.returns
returns c = names_are_given
