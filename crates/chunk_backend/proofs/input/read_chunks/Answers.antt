use Rattle.std.proofs.Common.{sym, subst, ap, ◌∙◌}
use Rattle.trace_text.specs.declared.refusal.Fault.TheVariants.{Header, LineTooLong}
use Rattle.trace_text.specs.Fields.{pieces_of}
use Rattle.chunk_backend.specs.declared.chunk_fault.ChunkFault.TheVariants.{Line}
use Rattle.chunk_backend.specs.Inputs.{GivesInput, Input, input_at, input_on}
use Rattle.chunk_backend.proofs.InputLemmas.{header_long, header_none, header_some, tells_refusal}
use Rattle.chunk_backend.proofs.input.read_chunks.Goals as goal

pub returns-then-first-gt-LINE_MAX : goal.returns-then-first-gt-LINE_MAX
returns-then-first-gt-LINE_MAX c =
    tells_refusal 1 (Line LineTooLong) c.refusal_at-then-first-gt-LINE_MAX.result (input_at c.args.bytes.now) c.refusal_at-then-first-gt-LINE_MAX.ensures
    (header_long c.args.bytes.now c.in-Some.first.now c.in-Some.rest.now c.in-Some.ensures.pieces c.if-first-gt-LINE_MAX.true)

pub returns-in_default-header_in : goal.returns-in_default-header_in
returns-in_default-header_in c =
    tells_refusal 1 (Line Header) c.refusal_at-in_default-header_in.result (input_at c.args.bytes.now) c.refusal_at-in_default-header_in.ensures
    (header_none c.args.bytes.now c.in-Some.first.now c.in-Some.rest.now c.in-Some.ensures.pieces c.if-first-gt-LINE_MAX.false (sym c.in_default-header_in.ensures.value))

pub returns : goal.returns
returns c =
    let read = header_some c.args.bytes.now c.in-Some.first.now c.in-Some.rest.now c.in-Some.ensures.pieces c.in-Some-header_in.chunk c.in-Some-header_in.entries
    c.if-first-gt-LINE_MAX.false (sym c.in-Some-header_in.ensures.value) in
    subst (GivesInput c.read_lines.result) (ap (λ (input : Input). input_on 2 input (pieces_of c.in-Some.rest.now)) c.new.ensures ∙ sym read) c.read_lines.ensures
