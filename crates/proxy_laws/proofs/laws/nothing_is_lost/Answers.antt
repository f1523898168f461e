use Rattle.proxy_laws.proofs.Promised.{nothing_is_lost}
use Rattle.proxy_laws.proofs.laws.nothing_is_lost.Goals as goal

pub returns : goal.returns
returns c = nothing_is_lost
