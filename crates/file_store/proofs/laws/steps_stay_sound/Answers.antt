use Rattle.file_store.proofs.Soundness.{step_sound}
use Rattle.file_store.proofs.laws.steps_stay_sound.Goals as goal

pub returns : goal.returns
returns c = step_sound
