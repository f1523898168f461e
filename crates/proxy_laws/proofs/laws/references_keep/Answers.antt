use Rattle.proxy_laws.proofs.References.{references_keep}
use Rattle.proxy_laws.proofs.laws.references_keep.Goals as goal

pub returns : goal.returns
returns c = references_keep
