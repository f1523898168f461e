use Rattle.std.proofs.Common.{◌≡◌, List, ℕ, Option, sym, subst}
use Rattle.std.specs.Result.{IfOk}
use Rattle.trace_text.specs.Fields.{unless_nul}
use Rattle.trace_text.proofs.TextFields.{plain_text, some_bytes_in}
use Rattle.trace_text.proofs.text_field.path_in.Goals as goal

pub returns-then-has_plain_bytes : goal.returns-then-has_plain_bytes
returns-then-has_plain_bytes c =
    subst (λ (text : Option (List ℕ)). IfOk c.path_of.result (λ path. path ≡ unless_nul text))
    (sym (plain_text c.args.field.now (some_bytes_in c.args.field.now (sym c.if-not-is_empty.ensures)) (sym c.if-has_plain_bytes.ensures))) c.path_of.ensures
