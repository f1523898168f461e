use Rattle.call_laws.proofs.OpenLawLemmas.{opens_find}
use Rattle.call_laws.proofs.open_laws.opens_find.Goals as goal

pub returns : goal.returns
returns c = opens_find
