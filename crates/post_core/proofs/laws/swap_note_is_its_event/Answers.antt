use Rattle.post_core.proofs.SendLawful.{note_is_swapped}
use Rattle.post_core.proofs.laws.swap_note_is_its_event.Goals as goal

pub returns : goal.returns
returns g c target = note_is_swapped g.J.Meant.meaning (g.J.Meant.suits target)
