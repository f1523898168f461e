use Rattle.call_laws.proofs.FileLemmas.{cuts_keep_the_rest}
use Rattle.call_laws.proofs.file_laws.cuts_keep_the_rest.Goals as goal

pub returns : goal.returns
returns c = cuts_keep_the_rest
