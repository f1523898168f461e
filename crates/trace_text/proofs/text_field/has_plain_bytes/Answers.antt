use Rattle.std.proofs.Common.{rules, ◌&&◌, true, ◌∙◌}
use Rattle.std.proofs.lemmas.Iterator.{YieldsList-from_slice}
use Rattle.std.proofs.lemmas.Iterator.Consumers.{fold_from_yields_List}
use Rattle.trace_text.specs.Fields.{is_plain}
use Rattle.trace_text.proofs.TextFields.{all_looked_at}
use Rattle.trace_text.proofs.text_field.has_plain_bytes.Goals as goal

pub returns : goal.returns
returns c =
    fold_from_yields_List _ (λ plain byte. plain && is_plain byte) true c.fold.result c.fold.ensures.ran (YieldsList-from_slice c.args.field.now c.iter.ensures.rest) (λ plain byte looked q called. search rules)
    ∙ all_looked_at c.args.field.now true
