use Rattle.post_core.proofs.SendLawful.{place_is_given}
use Rattle.post_core.proofs.laws.sender_give_place_is_its_event.Goals as goal

pub returns : goal.returns
returns g c target = place_is_given g.J.Meant.meaning (g.J.Meant.suits target)
