use Rattle.file_store.proofs.Soundness.{opening_sound}
use Rattle.file_store.proofs.files.Files.new.Goals as goal

pub invariant_of-result : goal.invariant_of-result
invariant_of-result c = rw c.new.ensures (opening_sound c.from.result)
