use Rattle.name_store.proofs.EntryLemmas.{move_moves}
use Rattle.name_store.proofs.laws.move_moves.Goals as goal

pub returns : goal.returns
returns c = λ tree from name to new_name slash sound. move_moves tree sound from name to new_name slash
