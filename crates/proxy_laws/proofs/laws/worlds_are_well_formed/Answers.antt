use Rattle.proxy_laws.proofs.WellFormed.{worlds_are_well_formed}
use Rattle.proxy_laws.proofs.laws.worlds_are_well_formed.Goals as goal

pub returns : goal.returns
returns c = worlds_are_well_formed
