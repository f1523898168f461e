use Rattle.chunk_backend.proofs.FoldLemmas.{reads_are_folded}
use Rattle.chunk_backend.proofs.laws.reads_are_folded.Goals as goal

pub returns : goal.returns
returns c = reads_are_folded
