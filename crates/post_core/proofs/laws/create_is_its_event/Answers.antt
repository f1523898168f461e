use Rattle.post_core.proofs.LifeLawful.{place_is_created}
use Rattle.post_core.proofs.laws.create_is_its_event.Goals as goal

pub returns : goal.returns
returns g c target = place_is_created g.J.Meant.meaning (g.J.Meant.suits target)
