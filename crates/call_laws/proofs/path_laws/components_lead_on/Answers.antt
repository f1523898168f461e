use Rattle.call_laws.proofs.Leading.{leads_on}
use Rattle.call_laws.proofs.path_laws.components_lead_on.Goals as goal

pub returns : goal.returns
returns c = λ store part rest manner slash names front links here. leads_on store part rest manner slash names front slash links here
