-- Reading a text piece by piece.
use Rattle.std.proofs.Common.{◌≡◌, ℕ, ◌+◌, ◌==◌, List, ◌∷◌, Result, Err, sym, subst, ◌∙◌, ap}
use Rattle.trace_text.specs.declared.refusal.Fault.{Fault}
use Rattle.trace_text.specs.declared.refusal.Refusal.{Refusal}
use Rattle.trace_text.specs.declared.refusal.TraceRefusal.{TraceRefusal}
use Rattle.trace_text.specs.declared.refusal.TraceRefusal.TheVariants.{Faulty}
use Rattle.trace_text.specs.declared.trace.Mode.{Mode}
use Rattle.trace_text.specs.Traces.{Traced, nothing}
use Rattle.trace_text.specs.Fields.{pieces_of}
use Rattle.trace_text.specs.Lines.{after_line}
use Rattle.trace_text.specs.Reading.{on_line, trace_on, on_header, version_of, trace_in, trace_at}
use Rattle.trace_text.specs.Refusals.{refusal_at, FailsTrace}
use Rattle.trace_text.proofs.Cuts.{first_piece}

-- a line with a text behind it
pub line_first : (mode : Mode) (number : ℕ) (trace : Traced) (text line left : List ℕ) → pieces_of text ≡ line ∷ pieces_of left
    → trace_on mode number trace (pieces_of text) ≡ on_line number (after_line mode trace line) (λ after. trace_on mode (number + 1) after (pieces_of left))
line_first mode number trace text line left cut =
    let rest = first_piece (λ byte. byte == 10) left in
    ap (trace_on mode number trace) (cut ∙ ap (λ (pieces : List (List ℕ)). line ∷ pieces) rest.2)
    ∙ ap (λ (pieces : List (List ℕ)). on_line number (after_line mode trace line) (λ after. trace_on mode (number + 1) after pieces)) (sym rest.2)

pub header_first : (mode : Mode) (text line left : List ℕ) → pieces_of text ≡ line ∷ pieces_of left
    → trace_at mode text ≡ on_header (version_of line) (λ version. trace_on mode 2 (nothing version) (pieces_of left))
header_first mode text line left cut =
    let rest = first_piece (λ byte. byte == 10) left in
    ap (trace_in mode) (cut ∙ ap (λ (pieces : List (List ℕ)). line ∷ pieces) rest.2)
    ∙ ap (λ (pieces : List (List ℕ)). on_header (version_of line) (λ version. trace_on mode 2 (nothing version) pieces)) (sym rest.2)

-- the refusal that is told is the one that is read
pub tells_refusal : {B : Type 0} (number : ℕ) (fault : Fault) (told : TraceRefusal) (read : Result B Refusal) → told ≡ Faulty (refusal_at number fault) → read ≡ Err (refusal_at number fault) → FailsTrace told read
tells_refusal number fault told read e h = subst (λ refusal. FailsTrace refusal read) (sym e) h
