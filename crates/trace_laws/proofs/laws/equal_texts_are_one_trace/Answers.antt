use Rattle.trace_laws.proofs.Printable.{one_trace}
use Rattle.trace_laws.proofs.laws.equal_texts_are_one_trace.Goals as goal

pub returns : goal.returns
returns c = one_trace
