use Rattle.call_laws.proofs.SlashLemmas.{slashes_ask_for_directories}
use Rattle.call_laws.proofs.path_laws.slashes_ask_for_directories.Goals as goal

pub returns : goal.returns
returns c = slashes_ask_for_directories
