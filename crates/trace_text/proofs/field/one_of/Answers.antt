use Rattle.std.proofs.Common.{ap}
use Rattle.std.specs.Option.{option_copied}
use Rattle.trace_text.proofs.Cuts.{not_one}
use Rattle.trace_text.proofs.field.one_of.Goals as goal

pub returns-in-Some : goal.returns-in-Some
returns-in-Some c =
    not_one (option_copied c.args.text) c.in_ok-text.field-0.now c.cut.result.0.now c.in-Some.field-0.now (ap option_copied c.in_ok-text.was)
    (rw c.in-Some.is at c.cut.ensures.pieces)
