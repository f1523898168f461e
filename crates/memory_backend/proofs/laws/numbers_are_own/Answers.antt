use Rattle.memory_backend.proofs.Numbering.{below, own}
use Rattle.memory_backend.proofs.laws.numbers_are_own.Goals as goal

pub returns : goal.returns
returns c = record { below = below; own = own }
