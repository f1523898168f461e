use Rattle.call_laws.proofs.RefusedOpens.{exclusives_refuse}
use Rattle.call_laws.proofs.exclusive_laws.exclusives_refuse.Goals as goal

pub returns : goal.returns
returns c = exclusives_refuse
