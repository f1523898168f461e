use Rattle.proxy_laws.proofs.Inductive.{opening_is_sound}
use Rattle.proxy_laws.proofs.laws.opening_is_sound.Goals as goal

pub returns : goal.returns
returns c = opening_is_sound
