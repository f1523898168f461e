use Rattle.post_core.proofs.OwnerLawful.{place_is_looked}
use Rattle.post_core.proofs.owner_laws.look_place_is_its_event.Goals as goal

pub returns : goal.returns
returns g c target = place_is_looked g.J.Meant.meaning (g.J.Meant.suits target)
