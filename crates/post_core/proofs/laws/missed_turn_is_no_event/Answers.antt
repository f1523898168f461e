use Rattle.post_core.proofs.Trying.{turn_is_missed}
use Rattle.post_core.proofs.laws.missed_turn_is_no_event.Goals as goal

pub returns : goal.returns
returns g c target = turn_is_missed g.J.Meant.meaning (g.J.Meant.suits target)
