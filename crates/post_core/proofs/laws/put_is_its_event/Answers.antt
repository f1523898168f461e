use Rattle.post_core.proofs.SendLawful.{job_is_put}
use Rattle.post_core.proofs.laws.put_is_its_event.Goals as goal

pub returns : goal.returns
returns g c target = job_is_put g.J.Meant.meaning (g.J.Meant.suits target)
