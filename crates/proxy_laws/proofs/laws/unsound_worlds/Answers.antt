use Rattle.proxy_laws.proofs.Refuted.{unsound_worlds}
use Rattle.proxy_laws.proofs.laws.unsound_worlds.Goals as goal

pub returns : goal.returns
returns c = unsound_worlds
