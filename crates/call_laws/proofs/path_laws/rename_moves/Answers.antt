use Rattle.call_laws.proofs.MoveLemmas.{rename_moves}
use Rattle.call_laws.proofs.path_laws.rename_moves.Goals as goal

pub returns : goal.returns
returns c = rename_moves
