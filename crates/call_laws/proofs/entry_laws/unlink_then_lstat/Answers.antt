use Rattle.call_laws.proofs.RemovalLemmas.{unlink_then_lstat}
use Rattle.call_laws.proofs.entry_laws.unlink_then_lstat.Goals as goal

pub returns : goal.returns
returns c = unlink_then_lstat
