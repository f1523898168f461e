use Rattle.proxy_laws.proofs.Executing.{serving_keeps}
use Rattle.proxy_laws.proofs.laws.serving_keeps.Goals as goal

pub returns : goal.returns
returns c = serving_keeps
