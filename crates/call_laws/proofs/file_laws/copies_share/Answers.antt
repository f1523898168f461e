use Rattle.call_laws.proofs.SharingLemmas.{copies_share}
use Rattle.call_laws.proofs.file_laws.copies_share.Goals as goal

pub returns : goal.returns
returns c = copies_share
