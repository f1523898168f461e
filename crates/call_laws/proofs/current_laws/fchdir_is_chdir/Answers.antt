use Rattle.call_laws.proofs.CurrentLemmas.{fchdir_is_chdir}
use Rattle.call_laws.proofs.current_laws.fchdir_is_chdir.Goals as goal

pub returns : goal.returns
returns c = fchdir_is_chdir
