use Rattle.file_store.proofs.DescriptorLawLemmas.{current_is_set_last}
use Rattle.file_store.proofs.laws.current_is_set_last.Goals as goal

pub returns : goal.returns
returns c = current_is_set_last
