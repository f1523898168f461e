use Rattle.proxy_laws.proofs.Promised.{places_come_free}
use Rattle.proxy_laws.proofs.laws.places_come_free.Goals as goal

pub returns : goal.returns
returns c = places_come_free
