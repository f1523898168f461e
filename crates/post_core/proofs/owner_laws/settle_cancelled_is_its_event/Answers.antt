use Rattle.post_core.proofs.OwnerLawful.{job_is_cancelled}
use Rattle.post_core.proofs.owner_laws.settle_cancelled_is_its_event.Goals as goal

pub returns : goal.returns
returns g c target = job_is_cancelled g.J.Meant.meaning (g.J.Meant.suits target)
