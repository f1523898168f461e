use Rattle.call_laws.proofs.FileLemmas.{reads_move_offsets}
use Rattle.call_laws.proofs.file_laws.reads_move_offsets.Goals as goal

pub returns : goal.returns
returns c = reads_move_offsets
