use Rattle.call_laws.proofs.CurrentLemmas.{current_directory_stays}
use Rattle.call_laws.proofs.current_laws.current_directory_stays.Goals as goal

pub returns : goal.returns
returns c = current_directory_stays
