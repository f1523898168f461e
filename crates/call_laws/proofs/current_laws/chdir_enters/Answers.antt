use Rattle.call_laws.proofs.CurrentLemmas.{chdir_enters}
use Rattle.call_laws.proofs.current_laws.chdir_enters.Goals as goal

pub returns : goal.returns
returns c = chdir_enters
