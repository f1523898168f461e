use Rattle.post_core.proofs.OneWorld.{one_world}
use Rattle.post_core.proofs.laws.table_shows_one_world.Goals as goal

pub returns : goal.returns
returns g c target = one_world g.J.Meant.meaning (g.J.Meant.suits target)
