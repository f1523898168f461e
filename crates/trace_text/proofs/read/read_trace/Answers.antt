use Rattle.trace_text.proofs.ReadingAnswers.{reads_answer, refuses_answer}
use Rattle.trace_text.proofs.read.read_trace.Goals as goal

pub returns-clause-ok : goal.returns-clause-ok
returns-clause-ok c = reads_answer c.args.bytes.now c.args.mode c.trace_of.result c.trace_of.ensures

pub returns-clause-refused : goal.returns-clause-refused
returns-clause-refused c = refuses_answer c.args.bytes.now c.args.mode c.trace_of.result c.trace_of.ensures
