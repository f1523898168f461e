use Rattle.call_laws.proofs.RemovalLemmas.{unlink_removes}
use Rattle.call_laws.proofs.entry_laws.unlink_removes.Goals as goal

pub returns : goal.returns
returns c = unlink_removes
