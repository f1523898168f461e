use Rattle.post_core.proofs.OwnerLawful.{direct_is_begun}
use Rattle.post_core.proofs.owner_laws.direct_is_its_event.Goals as goal

pub returns : goal.returns
returns g c target = direct_is_begun g.J.Meant.meaning (g.J.Meant.suits target)
