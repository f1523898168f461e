use Rattle.call_laws.proofs.MakingLemmas.{symlink_then_readlink}
use Rattle.call_laws.proofs.entry_laws.symlink_then_readlink.Goals as goal

pub returns : goal.returns
returns c = symlink_then_readlink
