use Rattle.call_laws.proofs.RemovalLemmas.{rmdir_removes}
use Rattle.call_laws.proofs.entry_laws.rmdir_removes.Goals as goal

pub returns : goal.returns
returns c = rmdir_removes
