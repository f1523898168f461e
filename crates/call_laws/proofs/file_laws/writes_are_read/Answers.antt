use Rattle.call_laws.proofs.FileLemmas.{writes_are_read}
use Rattle.call_laws.proofs.file_laws.writes_are_read.Goals as goal

pub returns : goal.returns
returns c = writes_are_read
