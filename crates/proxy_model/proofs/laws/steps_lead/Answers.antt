use Rattle.proxy_model.proofs.Led.{steps_lead}
use Rattle.proxy_model.proofs.laws.steps_lead.Goals as goal

pub returns : goal.returns
returns c = steps_lead
