use Rattle.file_store.proofs.WriteLawLemmas.{writes_are_read}
use Rattle.file_store.proofs.laws.writes_are_read.Goals as goal

pub returns : goal.returns
returns c = writes_are_read
