use Rattle.proxy_laws.proofs.Inductive.{runs_keep_sound}
use Rattle.proxy_laws.proofs.laws.runs_keep_sound.Goals as goal

pub returns : goal.returns
returns c = runs_keep_sound
