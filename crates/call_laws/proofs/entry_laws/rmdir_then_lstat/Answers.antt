use Rattle.call_laws.proofs.RemovalLemmas.{rmdir_then_lstat}
use Rattle.call_laws.proofs.entry_laws.rmdir_then_lstat.Goals as goal

pub returns : goal.returns
returns c = rmdir_then_lstat
