use Rattle.call_laws.proofs.SoundStores.{runs_are_sound}
use Rattle.call_laws.proofs.run_laws.runs_are_sound.Goals as goal

pub returns : goal.returns
returns c = runs_are_sound
