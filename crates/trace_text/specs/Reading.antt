-- Reading a trace line by line: the trace, or the first faulty line and its first fault.
use Rattle.std.specs.Prelude.{◌≡◌, ℕ, ◌+◌, ◌==◌, nat_lt, if◌then◌else◌, List, [], ◌∷◌, length, Result, Ok, Err, ok_or}
use Rattle.wf_core.specs.Limits.{line_max}
use Rattle.trace_text.specs.declared.refusal.Fault.{Fault}
use Rattle.trace_text.specs.declared.refusal.Fault.TheVariants.{Header, LineTooLong, MissingNewline}
use Rattle.trace_text.specs.declared.refusal.Refusal.{Refusal}
use Rattle.trace_text.specs.declared.trace.Mode.{Mode}
use Rattle.trace_text.specs.Traces.{Traced, nothing}
use Rattle.trace_text.specs.Fields.{pieces_of}
use Rattle.trace_text.specs.Lines.{after_line}
use Rattle.trace_text.specs.declared.version.Version.{Version}
use Rattle.trace_text.specs.Versions.{version_in}
use Rattle.trace_text.specs.Refusals.{refusal_at}

abbrev pub on_line : ℕ → Result Traced Fault → (Traced → Result Traced Refusal) → Result Traced Refusal
on_line number (Ok trace) next = next trace
on_line number (Err fault) next = Err (refusal_at number fault)

-- what follows the last byte 10: where it is not empty it is a line that lacks its end
abbrev pub at_end : ℕ → List ℕ → Traced → Result Traced Refusal
at_end number rest trace = if length rest == 0 then Ok trace else Err (refusal_at number MissingNewline)

-- the pieces from line `number` on
abbrev pub trace_on : Mode → ℕ → Traced → List (List ℕ) → Result Traced Refusal
trace_on mode number trace [] = Ok trace
trace_on mode number trace (rest ∷ []) = at_end number rest trace
trace_on mode number trace (line ∷ next ∷ pieces) = on_line number (after_line mode trace line) (λ after. trace_on mode (number + 1) after (next ∷ pieces))

-- an input that is one piece: an empty one has no line
abbrev pub first_end : List ℕ → Fault
first_end rest = if length rest == 0 then Header else MissingNewline

-- the version that line 1 tells, or its fault
abbrev pub version_of : List ℕ → Result Version Fault
version_of line = if nat_lt line_max (length line) then Err LineTooLong else ok_or (version_in line) Header

abbrev pub on_header : Result Version Fault → (Version → Result Traced Refusal) → Result Traced Refusal
on_header (Ok version) next = next version
on_header (Err fault) next = Err (refusal_at 1 fault)

abbrev pub trace_in : Mode → List (List ℕ) → Result Traced Refusal
trace_in mode [] = Err (refusal_at 1 Header)
trace_in mode (rest ∷ []) = Err (refusal_at 1 (first_end rest))
trace_in mode (line ∷ next ∷ pieces) = on_header (version_of line) (λ version. trace_on mode 2 (nothing version) (next ∷ pieces))

abbrev pub trace_at : Mode → List ℕ → Result Traced Refusal
trace_at mode bytes = trace_in mode (pieces_of bytes)

-- a line is read: the trace is what it adds to the trace before, or it has that fault
abbrev pub Adds : Result Traced Fault → Result (Unit {0}) Fault → Traced → Type 0
Adds read (Ok x) after = read ≡ Ok after
Adds read (Err fault) after = read ≡ Err fault
