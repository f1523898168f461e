use Rattle.post_core.proofs.OwnerLawful.{notice_is_taken}
use Rattle.post_core.proofs.owner_laws.take_notice_is_its_event.Goals as goal

pub returns : goal.returns
returns g c target = notice_is_taken g.J.Meant.meaning (g.J.Meant.suits target)
