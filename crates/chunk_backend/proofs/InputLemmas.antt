-- Reading the input of `chunks` piece by piece.
use Rattle.std.proofs.Common.{◌≡◌, ℕ, ◌+◌, ◌==◌, ◌<◌, ◌≤◌, List, ◌∷◌, length, None, Some, Result, Err, refl, sym, subst, ◌∙◌, ap}
use Rattle.std.proofs.lemmas.Bool.{le-ltb, lt-ltb}
use Rattle.wf_core.specs.Limits.{line_max}
use Rattle.trace_text.specs.declared.refusal.Fault.TheVariants.{Header, LineTooLong}
use Rattle.trace_text.specs.Fields.{fields_of, pieces_of}
use Rattle.trace_text.proofs.Cuts.{first_piece}
use Rattle.chunk_backend.specs.declared.chunk_fault.ChunkFault.{ChunkFault}
use Rattle.chunk_backend.specs.declared.chunk_fault.ChunkFault.TheVariants.{Line}
use Rattle.chunk_backend.specs.declared.chunk_fault.ChunkRefusal.{ChunkRefusal}
use Rattle.chunk_backend.specs.declared.chunk_fault.InputRefusal.{InputRefusal}
use Rattle.chunk_backend.specs.declared.chunk_fault.InputRefusal.TheVariants.{Faulty}
use Rattle.chunk_backend.specs.Inputs.{FailsInput, Input, after_line, input_at, input_in, header_of, input_on, on_header, on_line, on_sizes, opening_input, refusal_at}

-- a line with a text behind it
pub line_first : (number : ℕ) (input : Input) (text line left : List ℕ) → pieces_of text ≡ line ∷ pieces_of left
    → input_on number input (pieces_of text) ≡ on_line number (after_line input line) (λ after. input_on (number + 1) after (pieces_of left))
line_first number input text line left cut =
    let rest = first_piece (λ byte. byte == 10) left in
    ap (input_on number input) (cut ∙ ap (λ (pieces : List (List ℕ)). line ∷ pieces) rest.2)
    ∙ ap (λ (pieces : List (List ℕ)). on_line number (after_line input line) (λ after. input_on (number + 1) after pieces)) (sym rest.2)

pub header_first : (text line left : List ℕ) → pieces_of text ≡ line ∷ pieces_of left
    → input_at text ≡ on_header line (λ input. input_on 2 input (pieces_of left))
header_first text line left cut =
    let rest = first_piece (λ byte. byte == 10) left in
    ap input_in (cut ∙ ap (λ (pieces : List (List ℕ)). line ∷ pieces) rest.2)
    ∙ ap (λ (pieces : List (List ℕ)). on_header line (λ input. input_on 2 input pieces)) (sym rest.2)

-- the refusal that is told is the one that is read
pub tells_refusal : (number : ℕ) (fault : ChunkFault) (told : InputRefusal) (read : Result Input ChunkRefusal) → told ≡ Faulty (refusal_at number fault) → read ≡ Err (refusal_at number fault) → FailsInput told read
tells_refusal number fault told read e h = subst (λ refusal. FailsInput refusal read) (sym e) h

module _ (text line left : List ℕ) (cut : pieces_of text ≡ line ∷ pieces_of left) where
  abbrev next : Input → Result Input ChunkRefusal
  next input = input_on 2 input (pieces_of left)

  pub header_long : line_max < length line → input_at text ≡ Err (refusal_at 1 (Line LineTooLong))
  header_long long = let test = lt-ltb line_max (length line) long in header_first text line left cut ∙ rw test refl

  short : length line ≤ line_max → on_header line next ≡ on_sizes (header_of (fields_of line)) next
  short fits = let test = le-ltb line_max (length line) fits in rw test refl

  pub header_none : length line ≤ line_max → header_of (fields_of line) ≡ None → input_at text ≡ Err (refusal_at 1 (Line Header))
  header_none fits none = header_first text line left cut ∙ short fits ∙ ap (λ sizes. on_sizes sizes next) none

  pub header_some : (chunk entries : ℕ) → length line ≤ line_max → header_of (fields_of line) ≡ Some (chunk, entries) → input_at text ≡ input_on 2 (opening_input chunk entries) (pieces_of left)
  header_some chunk entries fits some = header_first text line left cut ∙ short fits ∙ ap (λ sizes. on_sizes sizes next) some
