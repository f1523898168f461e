use Rattle.proxy_laws.proofs.Notifying.{notifying_keeps}
use Rattle.proxy_laws.proofs.laws.notifying_keeps.Goals as goal

pub returns : goal.returns
returns c = notifying_keeps
