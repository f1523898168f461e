use Rattle.name_store.proofs.EntryLemmas.{lists_are_in_order}
use Rattle.name_store.proofs.laws.lists_are_in_order.Goals as goal

pub returns : goal.returns
returns c = lists_are_in_order
