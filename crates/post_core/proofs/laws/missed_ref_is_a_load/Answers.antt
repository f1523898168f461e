use Rattle.post_core.proofs.Trying.{ref_is_missed}
use Rattle.post_core.proofs.laws.missed_ref_is_a_load.Goals as goal

pub returns : goal.returns
returns g c target = ref_is_missed g.J.Meant.meaning (g.J.Meant.suits target)
