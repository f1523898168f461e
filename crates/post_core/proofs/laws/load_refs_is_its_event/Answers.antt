use Rattle.post_core.proofs.SendLawful.{refs_are_loaded}
use Rattle.post_core.proofs.laws.load_refs_is_its_event.Goals as goal

pub returns : goal.returns
returns g c target = refs_are_loaded g.J.Meant.meaning (g.J.Meant.suits target)
