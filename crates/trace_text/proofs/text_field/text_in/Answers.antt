use Rattle.std.proofs.Common.{Some, sym, ap, ◌∙◌}
use Rattle.trace_text.proofs.TextFields.{plain_text, some_bytes_in}
use Rattle.trace_text.proofs.text_field.text_in.Goals as goal

pub returns-then-has_plain_bytes : goal.returns-then-has_plain_bytes
returns-then-has_plain_bytes c =
    ap (λ bytes. Some bytes) c.in_ok-from_slice.ensures.items
    ∙ sym (plain_text c.args.field.now (some_bytes_in c.args.field.now (sym c.if-is_empty.ensures)) (sym c.if-has_plain_bytes.ensures))
