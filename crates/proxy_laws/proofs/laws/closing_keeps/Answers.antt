use Rattle.proxy_laws.proofs.Closing.{closing_keeps}
use Rattle.proxy_laws.proofs.laws.closing_keeps.Goals as goal

pub returns : goal.returns
returns c = closing_keeps
