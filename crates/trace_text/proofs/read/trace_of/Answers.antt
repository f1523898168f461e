use Rattle.std.proofs.Common.{Result, sym, subst, ap, ◌∙◌}
use Rattle.trace_text.specs.declared.refusal.Fault.{Fault}
use Rattle.trace_text.specs.declared.refusal.Refusal.{Refusal}
use Rattle.trace_text.specs.declared.version.Version.{Version}
use Rattle.trace_text.specs.Fields.{pieces_of}
use Rattle.trace_text.specs.Reading.{on_header, trace_on}
use Rattle.trace_text.specs.Refusals.{GivesTrace}
use Rattle.trace_text.specs.Traces.{Traced, nothing, traced}
use Rattle.trace_text.proofs.Steps.{header_first, tells_refusal}
use Rattle.trace_text.proofs.read.trace_of.Goals as goal

pub returns-in-Err : goal.returns-in-Err
returns-in-Err c =
    tells_refusal 1 c.in-Err.fault c.refusal_at-in-Err.result _ c.refusal_at-in-Err.ensures
    (header_first c.args.mode c.args.bytes.now c.in-Some.first.now c.in-Some.rest.now c.in-Some.ensures.pieces
    ∙ ap (λ (told : Result Version Fault). on_header told (λ version. trace_on c.args.mode 2 (nothing version) (pieces_of c.in-Some.rest.now))) (sym c.version_of.ensures ∙ c.in-Err.is))

pub returns-in-Ok : goal.returns-in-Ok
returns-in-Ok c =
    subst (λ (read : Result Traced Refusal). GivesTrace traced c.read_lines.result read)
    (sym (header_first c.args.mode c.args.bytes.now c.in-Some.first.now c.in-Some.rest.now c.in-Some.ensures.pieces
    ∙ ap (λ (told : Result Version Fault). on_header told (λ version. trace_on c.args.mode 2 (nothing version) (pieces_of c.in-Some.rest.now))) (sym c.version_of.ensures ∙ c.in-Ok.is))) c.read_lines.ensures
