use Rattle.chunk_backend.proofs.FoldLemmas.{folds_are_whole}
use Rattle.chunk_backend.proofs.laws.folds_are_whole.Goals as goal

pub returns : goal.returns
returns c = folds_are_whole
