-- What a reader may conclude of the text that is printed of a trace.
use Rattle.std.specs.Prelude.{◌≡◌, ℕ, List}
use Rattle.trace_text.specs.declared.trace.Mode.{Mode}
use Rattle.trace_text.specs.Traces.{Traced}
use Rattle.trace_text.specs.Grammar.{Reads}
use Rattle.trace_text.specs.TraceTexts.{text_of_trace}

-- what is printed of a trace that was read in a mode is read in that mode as that trace
abbrev pub PrintedTracesAreRead : Type 0
PrintedTracesAreRead = (mode : Mode) (bytes : List ℕ) (trace : Traced) → Reads bytes mode trace → Reads (text_of_trace trace) mode trace

-- two traces that were read, each in its mode, and are printed as the same text are one
abbrev pub EqualTextsAreOneTrace : Type 0
EqualTextsAreOneTrace =
    (mode other_mode : Mode) (bytes other_bytes : List ℕ) (trace other : Traced) → Reads bytes mode trace → Reads other_bytes other_mode other
    → text_of_trace trace ≡ text_of_trace other → trace ≡ other
