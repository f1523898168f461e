use Rattle.post_core.proofs.LifeLawful.{note_is_looked_at}
use Rattle.post_core.proofs.laws.look_note_is_its_event.Goals as goal

pub returns : goal.returns
returns g c target = note_is_looked_at g.J.Meant.meaning (g.J.Meant.suits target)
