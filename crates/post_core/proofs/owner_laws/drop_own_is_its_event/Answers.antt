use Rattle.post_core.proofs.OwnerLawful.{own_is_dropped}
use Rattle.post_core.proofs.owner_laws.drop_own_is_its_event.Goals as goal

pub returns : goal.returns
returns g c target = own_is_dropped g.J.Meant.meaning (g.J.Meant.suits target)
