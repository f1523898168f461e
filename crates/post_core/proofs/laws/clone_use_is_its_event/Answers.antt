use Rattle.post_core.proofs.LifeLawful.{use_is_cloned}
use Rattle.post_core.proofs.laws.clone_use_is_its_event.Goals as goal

pub returns : goal.returns
returns g c target = use_is_cloned g.J.Meant.meaning (g.J.Meant.suits target)
