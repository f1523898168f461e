use Rattle.post_core.proofs.SendLawful.{ref_is_added}
use Rattle.post_core.proofs.laws.add_ref_is_its_event.Goals as goal

pub returns : goal.returns
returns g c target = ref_is_added g.J.Meant.meaning (g.J.Meant.suits target)
