use Rattle.memory_backend.proofs.OpeningCells.{opening_is}
use Rattle.memory_backend.proofs.laws.opening_is_empty.Goals as goal

pub returns : goal.returns
returns c = opening_is
