use Rattle.trace_laws.proofs.Printable.{printed_reads}
use Rattle.trace_laws.proofs.laws.printed_traces_are_read.Goals as goal

pub returns : goal.returns
returns c = printed_reads
