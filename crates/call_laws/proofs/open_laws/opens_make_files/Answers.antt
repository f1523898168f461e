use Rattle.call_laws.proofs.OpenLawLemmas.{opens_make_files}
use Rattle.call_laws.proofs.open_laws.opens_make_files.Goals as goal

pub returns : goal.returns
returns c = opens_make_files
