use Rattle.std.proofs.Common.{refl}
use Rattle.trace_text.specs.Reading.{trace_at}
use Rattle.trace_text.proofs.Whole.{read_or_refused, reads_one}
use Rattle.trace_text.proofs.laws.reads_or_refuses.Goals as goal

pub returns : goal.returns
returns c = record { either = λ bytes mode. read_or_refused bytes mode (trace_at mode bytes) refl; one = reads_one }
