use Rattle.proxy_laws.proofs.Using.{lives_keep}
use Rattle.proxy_laws.proofs.laws.lives_keep.Goals as goal

pub returns : goal.returns
returns c = lives_keep
