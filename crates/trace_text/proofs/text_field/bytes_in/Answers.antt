use Rattle.std.proofs.Common.{◌≡◌, ◌++◌, List, ℕ, Option, option_map, sym, ap, ◌∙◌}
use Rattle.trace_text.specs.Fields.{bytes_in, onto}
use Rattle.trace_text.proofs.TextFields.{onto_front}
use Rattle.trace_text.proofs.text_field.bytes_in.Goals as goal

pub loop-rest-preserved : goal.loop-rest-preserved
loop-rest-preserved c =
    let first : bytes_in c.loop-rest.rest.now ≡ onto c.in-Some.byte (bytes_in c.in-Some.left.now) = c.in-Some.ensures.value in
    ap (λ (bytes : List ℕ). option_map (λ more. bytes ++ more) (bytes_in c.in-Some.left.now)) c.in_ok-push.ensures.items
    ∙ onto_front c.loop-rest.bytes.items c.in-Some.byte (bytes_in c.in-Some.left.now)
    ∙ ap (λ (more : Option (List ℕ)). option_map (λ bytes. c.loop-rest.bytes.items ++ bytes) more) (sym first)
    ∙ c.loop-rest.invariant
