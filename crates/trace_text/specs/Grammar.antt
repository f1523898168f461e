-- The grammar of a trace: what bytes are the trace of, by cases on their lines, and else their first faulty line.
use Rattle.std.specs.Prelude.{◌≡◌, ℕ, ◌+◌, ◌≤◌, ◌<◌, ◌⊎◌, Bool, true, false, List, [], ◌∷◌, ◌++◌, length, codes, Some}
use Rattle.wf_core.specs.Limits.{line_max, threads_max, backends_max, calls_max}
use Rattle.trace_text.specs.declared.trace_call.TraceCall.{TraceCall}
use Rattle.trace_text.specs.declared.trace.BackendLine.{BackendLine}
use Rattle.trace_text.specs.declared.trace.Mode.{Mode}
use Rattle.trace_text.specs.declared.version.Version.{Version}
use Rattle.trace_text.specs.Versions.{header}
use Rattle.trace_text.specs.Traces.{Traced, nothing, is_declared, thread_number, with_thread, with_backend, with_call}
use Rattle.trace_text.specs.Fields.{pieces_of, fields_of, is_skipped, label_in, is_label}
use Rattle.trace_text.specs.Openings.{openings_of}
use Rattle.trace_text.specs.Words.{Form, form_of, has_kind}

-- The relation: what a line after line 1 says, behind the lines that said `before`.

-- nothing
abbrev pub Skips : Traced → List ℕ → Traced → Type 0
Skips before line after = (is_skipped line ≡ true) × (after ≡ before)

-- that there is a thread of that name
abbrev pub DeclaresThread : Traced → List ℕ → Traced → Type 0
DeclaresThread before line after =
    (name : List ℕ) × (fields_of line ≡ codes "thread" ∷ name ∷ []) × (is_label name ≡ true)
    × (is_declared before name ≡ false) × (length before.threads < threads_max)
    × (after ≡ with_thread before name)

abbrev pub kind_word : Bool → List ℕ
kind_word true = codes "proxied"
kind_word false = codes "memory"

-- that there is a backend of that name and kind, which the mode has
abbrev pub DeclaresBackend : Mode → Traced → List ℕ → Traced → Type 0
DeclaresBackend mode before line after =
    (backend : BackendLine) × (fields_of line ≡ codes "backend" ∷ backend.name ∷ kind_word backend.proxied ∷ [])
    × (has_kind mode backend.proxied ≡ true) × (is_label backend.name ≡ true)
    × (is_declared before backend.name ≡ false) × (length before.backends + 1 < backends_max)
    × (after ≡ with_backend before backend)

-- that a thread makes that call, by a word of the trace's version
abbrev pub MakesCall : Traced → List ℕ → Traced → Type 0
MakesCall before line after =
    (first word : List ℕ) × (fields : List (List ℕ)) × (fields_of line ≡ first ∷ word ∷ fields)
    × (name : List ℕ) × (label_in first ≡ Some name) × (thread : ℕ) × (thread_number before name ≡ Some thread)
    × (form : Form) × (form_of before.version word ≡ Some form) × (call : TraceCall) × (form (openings_of thread before.calls) fields ≡ Some call)
    × (length before.calls < calls_max) × (after ≡ with_call before thread call)

-- what a line may say
abbrev pub Says : Mode → Traced → List ℕ → Traced → Type 0
Says mode before line after =
    (length line ≤ line_max)
    × (Skips before line after
    ⊎ (is_skipped line ≡ false) × (DeclaresThread before line after ⊎ DeclaresBackend mode before line after ⊎ MakesCall before line after))

-- what lines say, one after another
abbrev pub SayAll : Mode → Traced → List (List ℕ) → Traced → Type 0
SayAll mode before [] after = after ≡ before
SayAll mode before (line ∷ lines) after = (between : Traced) × Says mode before line between × SayAll mode between lines after

-- bytes are a trace: the header of its version and then lines, each ended by byte 10
abbrev pub Reads : List ℕ → Mode → Traced → Type 0
Reads bytes mode trace = (version : Version) × (lines : List (List ℕ)) × (pieces_of bytes ≡ (header version ∷ lines) ++ [] ∷ []) × SayAll mode (nothing version) lines trace
