use Rattle.trace_text.proofs.Fronts.{lines_before, lines_with_it}
use Rattle.trace_text.proofs.laws.faults_come_first.Goals as goal

pub returns : goal.returns
returns c = record { before = lines_before; with_it = lines_with_it }
