use Rattle.std.proofs.Common.{◌==◌, sym}
use Rattle.trace_text.proofs.Cuts.{cut_at, cut_nowhere}
use Rattle.trace_text.proofs.field.cut.Goals as goal

pub returns-in-Some-clause-pieces : goal.returns-in-Some-clause-pieces
returns-in-Some-clause-pieces c = cut_at (λ b. b == c.args.byte) c.args.text.now c.in-Some.at (sym c.in-Some.ensures)

pub returns-in-None-clause-pieces : goal.returns-in-None-clause-pieces
returns-in-None-clause-pieces c = cut_nowhere (λ b. b == c.args.byte) c.args.text.now (sym c.in-None.ensures)
