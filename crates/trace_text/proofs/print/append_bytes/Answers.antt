use Rattle.std.proofs.Common.{◌++◌, List, ℕ, ap, ◌∙◌}
use Rattle.std.specs.List.{flat_map}
use Rattle.trace_text.specs.Fields.{byte_field}
use Rattle.trace_text.proofs.TextFields.{run_last, run_more}
use Rattle.trace_text.proofs.print.append_bytes.Goals as goal

pub returns-in_default : goal.returns-in_default
returns-in_default c =
    c.in_ok-extend_from_slice.ensures.items ∙ ap (λ (front : List ℕ). c.loop-rest.text.items ++ front) c.split_at.ensures.front
    ∙ run_last c.loop-rest.text.items c.plain_size.result c.loop-rest.rest.now c.split_at.result.1.now (c.args.text.now.items ++ flat_map byte_field c.args.bytes.now)
    c.split_at.ensures.back c.in_default.ensures.cases c.plain_size.ensures.plain c.loop-rest.invariant

pub loop-rest-preserved : goal.loop-rest-preserved
loop-rest-preserved c =
    let byte = c.in-Some.byte.now in
    let left = c.in-Some.left.now in
    ap (λ (text : List ℕ). text ++ flat_map byte_field left)
    (c.in_ok-append_byte.ensures ∙ ap (λ (text : List ℕ). text ++ byte_field byte) (c.in_ok-extend_from_slice.ensures.items ∙ ap (λ (front : List ℕ). c.loop-rest.text.items ++ front) c.split_at.ensures.front))
    ∙ run_more c.loop-rest.text.items c.plain_size.result byte c.loop-rest.rest.now c.split_at.result.1.now left (c.args.text.now.items ++ flat_map byte_field c.args.bytes.now)
    c.split_at.ensures.back c.in-Some.ensures.cases.0 c.plain_size.ensures.plain c.loop-rest.invariant
