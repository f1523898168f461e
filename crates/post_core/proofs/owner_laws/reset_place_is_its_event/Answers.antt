use Rattle.post_core.proofs.OwnerLawful.{place_is_reset}
use Rattle.post_core.proofs.owner_laws.reset_place_is_its_event.Goals as goal

pub returns : goal.returns
returns g c target = place_is_reset g.J.Meant.meaning (g.J.Meant.suits target)
