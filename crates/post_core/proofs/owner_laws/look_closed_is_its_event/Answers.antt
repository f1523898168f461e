use Rattle.post_core.proofs.OwnerLawful.{closed_is_looked}
use Rattle.post_core.proofs.owner_laws.look_closed_is_its_event.Goals as goal

pub returns : goal.returns
returns g c target = closed_is_looked g.J.Meant.meaning (g.J.Meant.suits target)
