use Rattle.post_core.proofs.OwnerLawful.{note_is_received}
use Rattle.post_core.proofs.owner_laws.receive_is_its_event.Goals as goal

pub returns : goal.returns
returns g c target = note_is_received g.J.Meant.meaning (g.J.Meant.suits target)
