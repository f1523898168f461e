use Rattle.call_laws.proofs.ExclusiveLemmas.{exclusives_make}
use Rattle.call_laws.proofs.exclusive_laws.exclusives_make.Goals as goal

pub returns : goal.returns
returns c = exclusives_make
