use Rattle.post_core.proofs.LifeLawful.{use_is_released}
use Rattle.post_core.proofs.laws.release_use_is_its_event.Goals as goal

pub returns : goal.returns
returns g c target = use_is_released g.J.Meant.meaning (g.J.Meant.suits target)
