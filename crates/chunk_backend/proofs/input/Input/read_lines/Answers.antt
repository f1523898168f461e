use Rattle.std.proofs.Common.{◌≡◌, ◌+◌, if◌then◌else◌, Bool, Result, Ok, Err, sym, ap, ◌∙◌, arith}
use Rattle.trace_text.specs.declared.refusal.Fault.TheVariants.{MissingNewline}
use Rattle.trace_text.specs.Fields.{pieces_of}
use Rattle.chunk_backend.specs.declared.chunk_fault.ChunkFault.{ChunkFault}
use Rattle.chunk_backend.specs.declared.chunk_fault.ChunkFault.TheVariants.{Line}
use Rattle.chunk_backend.specs.Inputs.{Input, after_line, input_on, on_line, refusal_at}
use Rattle.chunk_backend.proofs.InputLemmas.{line_first, tells_refusal}
use Rattle.chunk_backend.proofs.input.Input.read_lines.Goals as goal

pub returns-in-Err : goal.returns-in-Err
returns-in-Err c =
    let number = c.loop-line.number in
    let added : after_line c.loop-line.self c.in-Some.line.now ≡ Err c.in-Err.fault = rw c.in-Err.is at c.in_ok-fault.ensures in
    tells_refusal number c.in-Err.fault c.refusal_at.result _ c.refusal_at.ensures
    (sym c.loop-line.invariant.read ∙ line_first number c.loop-line.self c.loop-line.rest.now c.in-Some.line.now c.in-Some.left.now c.in-Some.ensures.pieces
    ∙ ap (λ (read : Result Input ChunkFault). on_line number read (λ after. input_on (number + 1) after (pieces_of c.in-Some.left.now))) added)

pub loop-line-preserved : goal.loop-line-preserved
loop-line-preserved c =
    let number = c.loop-line.number in
    let added : after_line c.loop-line.self c.in-Some.line.now ≡ Ok c.read_line.new.self = rw c.in_default-2.is at c.in_ok-fault.ensures in
    let read : input_on (number + 1) c.read_line.new.self (pieces_of c.in-Some.left.now) ≡ input_on number c.loop-line.self (pieces_of c.loop-line.rest.now) =
    sym (line_first number c.loop-line.self c.loop-line.rest.now c.in-Some.line.now c.in-Some.left.now c.in-Some.ensures.pieces
    ∙ ap (λ (read : Result Input ChunkFault). on_line number read (λ after. input_on (number + 1) after (pieces_of c.in-Some.left.now))) added) in
    record { read = read ∙ c.loop-line.invariant.read; count = omega (arith, c.in-Some.ensures.shorter) }

pub returns-then-not-is_empty : goal.returns-then-not-is_empty
returns-then-not-is_empty c =
    let number = c.loop-line.number in
    tells_refusal number (Line MissingNewline) c.refusal_at-then-not-is_empty.result _ c.refusal_at-then-not-is_empty.ensures
    (sym c.loop-line.invariant.read ∙ ap (input_on number c.loop-line.self) c.in_default.ensures.pieces
    ∙ ap (λ (b : Bool). if b then Ok c.loop-line.self else Err (refusal_at number (Line MissingNewline))) (sym c.if-not-is_empty.ensures))
