use Rattle.name_store.proofs.Refusals.{refused_same}
use Rattle.name_store.proofs.laws.refusals_change_nothing.Goals as goal

pub returns : goal.returns
returns c = refused_same
