use Rattle.call_laws.proofs.DirectoryLemmas.{opens_find_directories}
use Rattle.call_laws.proofs.open_laws.opens_find_directories.Goals as goal

pub returns : goal.returns
returns c = opens_find_directories
