use Rattle.proxy_laws.proofs.Kept.{jobs_are_kept}
use Rattle.proxy_laws.proofs.laws.jobs_are_kept.Goals as goal

pub returns : goal.returns
returns c = jobs_are_kept
