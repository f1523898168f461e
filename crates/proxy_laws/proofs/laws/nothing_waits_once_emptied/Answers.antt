use Rattle.proxy_laws.proofs.Promised.{nothing_waits_once_emptied}
use Rattle.proxy_laws.proofs.laws.nothing_waits_once_emptied.Goals as goal

pub returns : goal.returns
returns c = nothing_waits_once_emptied
