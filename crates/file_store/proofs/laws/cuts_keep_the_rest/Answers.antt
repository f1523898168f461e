use Rattle.file_store.proofs.WriteLawLemmas.{cuts_keep_the_rest}
use Rattle.file_store.proofs.laws.cuts_keep_the_rest.Goals as goal

pub returns : goal.returns
returns c = cuts_keep_the_rest
