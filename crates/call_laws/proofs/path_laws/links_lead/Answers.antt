use Rattle.call_laws.proofs.LinkLemmas.{links_lead}
use Rattle.call_laws.proofs.path_laws.links_lead.Goals as goal

pub returns : goal.returns
returns c = links_lead
