use Rattle.std.proofs.Common.{◌≡◌, ◌+◌, if◌then◌else◌, Bool, Result, Ok, Err, sym, ap, ◌∙◌, arith}
use Rattle.trace_text.specs.declared.refusal.Fault.{Fault}
use Rattle.trace_text.specs.declared.refusal.Fault.TheVariants.{MissingNewline}
use Rattle.trace_text.specs.Traces.{Traced}
use Rattle.trace_text.specs.Fields.{pieces_of}
use Rattle.trace_text.specs.Lines.{after_line}
use Rattle.trace_text.specs.Reading.{on_line, trace_on}
use Rattle.trace_text.specs.Refusals.{refusal_at}
use Rattle.trace_text.proofs.Steps.{line_first, tells_refusal}
use Rattle.trace_text.proofs.read.read_lines.Goals as goal

pub returns-in-Err : goal.returns-in-Err
returns-in-Err c =
    let mode = c.args.mode in
    let number = c.loop-line.number in
    let added : after_line mode c.loop-line.reader c.in-Some.line.now ≡ Err c.in-Err.fault = rw c.in-Err.is at c.in_ok-fault.ensures in
    tells_refusal number c.in-Err.fault c.refusal_at.result _ c.refusal_at.ensures
    (sym c.loop-line.invariant.read ∙ line_first mode number c.loop-line.reader c.loop-line.rest.now c.in-Some.line.now c.in-Some.left.now c.in-Some.ensures.pieces
    ∙ ap (λ (read : Result Traced Fault). on_line number read (λ after. trace_on mode (number + 1) after (pieces_of c.in-Some.left.now))) added)

pub loop-line-preserved : goal.loop-line-preserved
loop-line-preserved c =
    let mode = c.args.mode in
    let number = c.loop-line.number in
    let added : after_line mode c.loop-line.reader c.in-Some.line.now ≡ Ok c.read_line.new.self = rw c.in_default-2.is at c.in_ok-fault.ensures in
    let read : trace_on mode (number + 1) c.read_line.new.self (pieces_of c.in-Some.left.now) ≡ trace_on mode number c.loop-line.reader (pieces_of c.loop-line.rest.now) =
    sym (line_first mode number c.loop-line.reader c.loop-line.rest.now c.in-Some.line.now c.in-Some.left.now c.in-Some.ensures.pieces
    ∙ ap (λ (read : Result Traced Fault). on_line number read (λ after. trace_on mode (number + 1) after (pieces_of c.in-Some.left.now))) added) in
    record { read = read ∙ c.loop-line.invariant.read; count = omega (arith, c.in-Some.ensures.shorter) }

pub returns-then-not-is_empty : goal.returns-then-not-is_empty
returns-then-not-is_empty c =
    let number = c.loop-line.number in
    tells_refusal number MissingNewline c.refusal_at-then-not-is_empty.result _ c.refusal_at-then-not-is_empty.ensures
    (sym c.loop-line.invariant.read ∙ ap (trace_on c.args.mode number c.loop-line.reader) c.in_default.ensures.pieces
    ∙ ap (λ (b : Bool). if b then Ok c.loop-line.reader else Err (refusal_at number MissingNewline)) (sym c.if-not-is_empty.ensures))
