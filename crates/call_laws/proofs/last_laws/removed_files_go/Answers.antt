use Rattle.call_laws.proofs.LastLemmas.{removed_files_go}
use Rattle.call_laws.proofs.last_laws.removed_files_go.Goals as goal

pub returns : goal.returns
returns c = removed_files_go
