use Rattle.chunk_backend.proofs.HoldLemmas.{needs_hold}
use Rattle.chunk_backend.proofs.laws.needs_hold_bytes.Goals as goal

pub returns : goal.returns
returns c = needs_hold
