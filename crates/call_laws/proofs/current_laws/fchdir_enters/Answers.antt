use Rattle.call_laws.proofs.CurrentLemmas.{fchdir_enters}
use Rattle.call_laws.proofs.current_laws.fchdir_enters.Goals as goal

pub returns : goal.returns
returns c = fchdir_enters
