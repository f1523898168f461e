use Rattle.std.proofs.Common.{ℕ, ◌+◌, ◌*◌, Some, ap, ◌<◌, ◌∙◌, length, get_or, drop, suc, sym, drop-cons}
use Rattle.trace_text.specs.Fields.{at_most}
use Rattle.trace_text.proofs.Numbers.{stops}
use Rattle.trace_text.proofs.field.read_number.Goals as goal

pub returns-in_err-value : goal.returns-in_err-value
returns-in_err-value c =
    let field = c.args.field.now in
    let at = c.loop-byte.byte-index in
    let within : at < length field = c.loop-byte-test.true in
    c.from_residual.ensures
    ∙ stops c.args.limit c.loop-byte.value (get_or field at 0) (drop (suc at) field) (drop at field) field (drop-cons field at 0 within)
    (sym c.if-not-is_ascii_digit.ensures.value) (ap (λ (digit : ℕ). at_most c.args.limit (Some (10 * c.loop-byte.value + digit))) (sym c.from-digit.ensures) ∙ sym c.next_value.ensures ∙ c.in_err-value.was) c.loop-byte.invariant.rest
