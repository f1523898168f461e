use Rattle.file_store.proofs.Soundness.{opening_sound}
use Rattle.file_store.proofs.laws.openings_are_sound.Goals as goal

pub returns : goal.returns
returns c = opening_sound
