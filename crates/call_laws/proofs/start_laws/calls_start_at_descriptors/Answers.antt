use Rattle.call_laws.proofs.StartLemmas.{calls_start_at_descriptors}
use Rattle.call_laws.proofs.start_laws.calls_start_at_descriptors.Goals as goal

pub returns : goal.returns
returns c = calls_start_at_descriptors
