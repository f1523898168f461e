use Rattle.call_laws.proofs.RefusedBases.{bases_are_directories}
use Rattle.call_laws.proofs.start_laws.bases_are_directories.Goals as goal

pub returns : goal.returns
returns c = bases_are_directories
