use Rattle.post_core.proofs.OwnerLawful.{mail_is_added}
use Rattle.post_core.proofs.owner_laws.add_mail_is_its_event.Goals as goal

pub returns : goal.returns
returns g c target = mail_is_added g.J.Meant.meaning (g.J.Meant.suits target)
