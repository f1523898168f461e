use Rattle.post_core.proofs.LifeLawful.{life_is_marked}
use Rattle.post_core.proofs.laws.mark_life_is_its_event.Goals as goal

pub returns : goal.returns
returns g c target = life_is_marked g.J.Meant.meaning (g.J.Meant.suits target)
