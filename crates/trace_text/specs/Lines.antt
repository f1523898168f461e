-- What one line adds to a trace, or its first fault, in the order in which the faults of one line are tried.
use Rattle.std.specs.Prelude.{ℕ, ◌+◌, Bool, nat_le, nat_lt, if◌then◌else◌, List, [], ◌∷◌, length, codes, Option, None, Some, Result, Ok, Err, ok_or, option_map}
use Rattle.wf_core.specs.Limits.{line_max, threads_max, backends_max, calls_max}
use Rattle.wf_core.specs.Names.{is_text}
use Rattle.trace_text.specs.declared.trace_call.TraceCall.{TraceCall}
use Rattle.trace_text.specs.declared.refusal.Fault.{Fault}
use Rattle.trace_text.specs.declared.refusal.Fault.TheVariants.{UnknownWord, BadArgument, UnknownName, DuplicateName, LineTooLong, TooManyCalls, TooManyThreads, TooManyBackends}
use Rattle.trace_text.specs.declared.trace.BackendLine.{BackendLine}
use Rattle.trace_text.specs.declared.trace.Mode.{Mode}
use Rattle.trace_text.specs.declared.version.Version.{Version}
use Rattle.trace_text.specs.Traces.{Traced, is_declared, thread_number, with_thread, with_backend, with_call}
use Rattle.trace_text.specs.Fields.{fields_of, is_skipped, label_in}
use Rattle.trace_text.specs.Openings.{openings_of}
use Rattle.trace_text.specs.Words.{name_in, backend_in, form_of}

-- `thread NAME`
abbrev pub after_thread : Traced → Option (List ℕ) → Result Traced Fault
after_thread trace None = Err BadArgument
after_thread trace (Some name) =
    if is_declared trace name then Err DuplicateName
    else if nat_le threads_max (length trace.threads) then Err TooManyThreads
    else Ok (with_thread trace name)

-- `backend NAME KIND`; the root's backend is one of those that there may be
abbrev pub after_backend : Traced → Option BackendLine → Result Traced Fault
after_backend trace None = Err BadArgument
after_backend trace (Some backend) =
    if is_declared trace backend.name then Err DuplicateName
    else if nat_le backends_max (length trace.backends + 1) then Err TooManyBackends
    else Ok (with_backend trace backend)

-- `NAME: CALL`
abbrev pub call_behind : Option (Option TraceCall) → Result TraceCall Fault
call_behind None = Err UnknownWord
call_behind (Some call) = ok_or call BadArgument

abbrev pub call_of : Version → List Bool → List (List ℕ) → Result TraceCall Fault
call_of version openings [] = Err UnknownWord
call_of version openings (word ∷ fields) = call_behind (option_map (λ form. form openings fields) (form_of version word))

abbrev pub after_call_of : Traced → ℕ → Result TraceCall Fault → Result Traced Fault
after_call_of trace thread (Err fault) = Err fault
after_call_of trace thread (Ok call) = if nat_le calls_max (length trace.calls) then Err TooManyCalls else Ok (with_call trace thread call)

abbrev pub after_call : Traced → Option ℕ → List (List ℕ) → Result Traced Fault
after_call trace None fields = Err UnknownName
after_call trace (Some thread) fields = after_call_of trace thread (call_of trace.version (openings_of thread trace.calls) fields)

abbrev pub after_declaration : Mode → Traced → List ℕ → List (List ℕ) → Result Traced Fault
after_declaration mode trace word fields =
    if is_text word (codes "thread") then after_thread trace (name_in fields)
    else if is_text word (codes "backend") then after_backend trace (backend_in mode fields)
    else Err UnknownWord

-- a first field that ends in `:` begins a call line
abbrev pub after_label : Mode → Traced → Option (List ℕ) → List ℕ → List (List ℕ) → Result Traced Fault
after_label mode trace (Some name) first fields = after_call trace (thread_number trace name) fields
after_label mode trace None first fields = after_declaration mode trace first fields

abbrev pub after_fields : Mode → Traced → List (List ℕ) → Result Traced Fault
after_fields mode trace [] = Err UnknownWord
after_fields mode trace (first ∷ fields) = after_label mode trace (label_in first) first fields

-- a line after line 1
unfoldable pub after_line : Mode → Traced → List ℕ → Result Traced Fault
after_line mode trace line =
    if nat_lt line_max (length line) then Err LineTooLong
    else if is_skipped line then Ok trace
    else after_fields mode trace (fields_of line)
