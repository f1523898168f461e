use Rattle.name_store.proofs.IdLemmas.{inside_is_climbing}
use Rattle.name_store.proofs.laws.inside_is_climbing.Goals as goal

pub returns : goal.returns
returns c = inside_is_climbing
