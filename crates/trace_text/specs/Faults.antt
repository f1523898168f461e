-- The first faulty line of a trace: of each line the ordered list of its conditions, told over the lines before it.
use Rattle.std.specs.Prelude.{ℕ, ◌+◌, ◌==◌, ◌||◌, not, nat_le, nat_lt, if◌then◌else◌, Bool, true, false, List, [], ◌∷◌, ◌++◌, length, count_by, codes, position, is_none, is_some, Option, None, Some}
use Rattle.std.specs.List.{list_any, filter_map}
use Rattle.wf_core.specs.Limits.{line_max, threads_max, backends_max, calls_max}
use Rattle.wf_core.specs.Names.{is_text}
use Rattle.trace_text.specs.declared.trace_call.TraceCall.{TraceCall}
use Rattle.trace_text.specs.declared.refusal.Fault.{Fault}
use Rattle.trace_text.specs.declared.refusal.Fault.TheVariants.{Header, UnknownWord, BadArgument, UnknownName, DuplicateName, LineTooLong, TooManyCalls, TooManyThreads, TooManyBackends, MissingNewline}
use Rattle.trace_text.specs.declared.refusal.Refusal.{Refusal}
use Rattle.trace_text.specs.declared.trace.BackendLine.{BackendLine}
use Rattle.trace_text.specs.declared.trace.Mode.{Mode}
use Rattle.trace_text.specs.declared.version.Version.{Version}
use Rattle.trace_text.specs.Fields.{pieces_of, fields_of, is_skipped, label_in}
use Rattle.trace_text.specs.Openings.{is_opening_word}
use Rattle.trace_text.specs.Words.{Form, form_of, name_in, backend_in}
use Rattle.trace_text.specs.Versions.{version_in}
use Rattle.trace_text.specs.Refusals.{refusal_at}

-- Lines.

-- the bytes of a line, and whether byte 10 ends it
pub record Line : Type 0 where
  pub text : List ℕ
  pub ended : Bool

abbrev pub line_of : List ℕ → Bool → Line
line_of text ended = record { text = text; ended = ended }

-- where nothing follows the last byte 10, no line does
abbrev pub lines_from : List (List ℕ) → List Line
lines_from [] = []
lines_from (rest ∷ []) = if length rest == 0 then [] else line_of rest false ∷ []
lines_from (text ∷ next ∷ pieces) = line_of text true ∷ lines_from (next ∷ pieces)

abbrev pub lines_of : List ℕ → List Line
lines_of bytes = lines_from (pieces_of bytes)

-- What lines without a fault have declared, of a trace of that version, and how many calls they make.

-- a skipped line says nothing
abbrev pub statement_of : List ℕ → List (List ℕ)
statement_of text = if is_skipped text then [] else fields_of text

abbrev pub thread_in : List (List ℕ) → Option (List ℕ)
thread_in (word ∷ name ∷ []) = if is_text word (codes "thread") then Some name else None
thread_in fields = None

abbrev pub backend_name_in : List (List ℕ) → Option (List ℕ)
backend_name_in (word ∷ name ∷ kind ∷ []) = if is_text word (codes "backend") then Some name else None
backend_name_in fields = None

abbrev pub is_call : List (List ℕ) → Bool
is_call [] = false
is_call (first ∷ fields) = is_some (label_in first)

pub record Declarations : Type 0 where
  pub version : Version
  pub threads : List (List ℕ)
  pub backends : List (List ℕ)
  pub calls : ℕ

abbrev pub declarations : Version → List (List ℕ) → Declarations
declarations version before = record {
  version = version;
  threads = filter_map (λ text. thread_in (statement_of text)) before;
  backends = filter_map (λ text. backend_name_in (statement_of text)) before;
  calls = count_by (λ text. is_call (statement_of text)) before;
}

-- whether the statement is a call of the thread of that name, and then whether that is an opening call
abbrev pub opening_behind : List ℕ → Option (List ℕ) → List ℕ → Option Bool
opening_behind name None word = None
opening_behind name (Some label) word = if is_text label name then Some (is_opening_word word) else None

abbrev pub opening_in : List ℕ → List (List ℕ) → Option Bool
opening_in name (first ∷ word ∷ fields) = opening_behind name (label_in first) word
opening_in name fields = None

-- which calls of the thread of that name are opening calls, in their order
abbrev pub openings_by : List (List ℕ) → List ℕ → List Bool
openings_by before name = filter_map (λ text. opening_in name (statement_of text)) before

-- `main` is a name from the start
abbrev pub has_name : Declarations → List ℕ → Bool
has_name declarations name =
    is_text name (codes "main")
    || list_any (λ thread. is_text thread name) declarations.threads
    || list_any (λ backend. is_text backend name) declarations.backends

-- Conditions: each with the fault of a line of which it holds.

pub record Condition : Type 0 where
  pub fault : Fault
  pub holds : Bool

abbrev pub fault_where : Fault → Bool → Condition
fault_where fault holds = record { fault = fault; holds = holds }

-- the fault of the first condition that holds
abbrev pub first_fault_of : List Condition → Option Fault
first_fault_of [] = None
first_fault_of (condition ∷ conditions) = if condition.holds then Some condition.fault else first_fault_of conditions

abbrev pub has_name_in : Declarations → Option (List ℕ) → Bool
has_name_in declarations None = false
has_name_in declarations (Some name) = has_name declarations name

-- of `thread`, by the fields behind it
abbrev pub thread_conditions : Declarations → List (List ℕ) → List Condition
thread_conditions declarations fields =
    fault_where BadArgument (is_none (name_in fields))
    ∷ fault_where DuplicateName (has_name_in declarations (name_in fields))
    ∷ fault_where TooManyThreads (nat_le threads_max (length declarations.threads))
    ∷ []

abbrev pub backend_name : Option BackendLine → Option (List ℕ)
backend_name None = None
backend_name (Some backend) = Some backend.name

-- of `backend`
abbrev pub backend_conditions : Mode → Declarations → List (List ℕ) → List Condition
backend_conditions mode declarations fields =
    fault_where BadArgument (is_none (backend_in mode fields))
    ∷ fault_where DuplicateName (has_name_in declarations (backend_name (backend_in mode fields)))
    ∷ fault_where TooManyBackends (nat_le backends_max (length declarations.backends + 1))
    ∷ []

-- the form of the word in the fields behind a label, and the call that the fields make
abbrev pub form_behind : Version → List (List ℕ) → Option Form
form_behind version [] = None
form_behind version (word ∷ fields) = form_of version word

abbrev pub call_with_form : List Bool → Option Form → List (List ℕ) → Option TraceCall
call_with_form openings None fields = None
call_with_form openings (Some form) fields = form openings fields

abbrev pub call_behind_label : Version → List Bool → List (List ℕ) → Option TraceCall
call_behind_label version openings [] = None
call_behind_label version openings (word ∷ fields) = call_with_form openings (form_of version word) fields

-- of a call of the thread of that name, where `openings` says which of its earlier calls are opening calls
abbrev pub call_conditions : Declarations → List Bool → List ℕ → List (List ℕ) → List Condition
call_conditions declarations openings name fields =
    fault_where UnknownName (is_none (position (λ thread. is_text thread name) declarations.threads))
    ∷ fault_where UnknownWord (is_none (form_behind declarations.version fields))
    ∷ fault_where BadArgument (is_none (call_behind_label declarations.version openings fields))
    ∷ fault_where TooManyCalls (nat_le calls_max declarations.calls)
    ∷ []

abbrev pub declaration_conditions : Mode → Declarations → List ℕ → List (List ℕ) → List Condition
declaration_conditions mode declarations word fields =
    if is_text word (codes "thread") then thread_conditions declarations fields
    else if is_text word (codes "backend") then backend_conditions mode declarations fields
    else fault_where UnknownWord true ∷ []

-- by what the first field is
abbrev pub label_conditions : Mode → Declarations → (List ℕ → List Bool) → Option (List ℕ) → List ℕ → List (List ℕ) → List Condition
label_conditions mode declarations openings (Some name) first fields = call_conditions declarations (openings name) name fields
label_conditions mode declarations openings None first fields = declaration_conditions mode declarations first fields

abbrev pub field_conditions : Mode → Declarations → (List ℕ → List Bool) → List (List ℕ) → List Condition
field_conditions mode declarations openings [] = fault_where UnknownWord true ∷ []
field_conditions mode declarations openings (first ∷ fields) = label_conditions mode declarations openings (label_in first) first fields

abbrev pub skipped_conditions : Bool → List Condition → List Condition
skipped_conditions true conditions = []
skipped_conditions false conditions = conditions

-- of a line after line 1 of a trace of that version, behind the lines `before`
abbrev pub line_conditions : Mode → Version → List (List ℕ) → Line → List Condition
line_conditions mode version before line =
    fault_where MissingNewline (not line.ended)
    ∷ fault_where LineTooLong (nat_lt line_max (length line.text))
    ∷ skipped_conditions (is_skipped line.text) (field_conditions mode (declarations version before) (openings_by before) (fields_of line.text))

-- of line 1
abbrev pub header_conditions : Line → List Condition
header_conditions line =
    fault_where MissingNewline (not line.ended)
    ∷ fault_where LineTooLong (nat_lt line_max (length line.text))
    ∷ fault_where Header (is_none (version_in line.text))
    ∷ []

abbrev pub first_of : ℕ → Option Fault → Option Refusal → Option Refusal
first_of number None others = others
first_of number (Some fault) others = Some (refusal_at number fault)

-- the first fault of the lines from line `number` on, where `before` are those after line 1 and before it
abbrev pub fault_behind : Mode → Version → ℕ → List (List ℕ) → List Line → Option Refusal
fault_behind mode version number before [] = None
fault_behind mode version number before (line ∷ lines) =
    first_of number (first_fault_of (line_conditions mode version before line)) (fault_behind mode version (number + 1) (before ++ line.text ∷ []) lines)

-- the same of all lines behind line 1, where that tells the version
abbrev pub fault_behind_header : Mode → Option Version → List Line → Option Refusal
fault_behind_header mode None lines = None
fault_behind_header mode (Some version) lines = fault_behind mode version 2 [] lines

-- a text without a line is `Header` in line 1
abbrev pub fault_in : Mode → List Line → Option Refusal
fault_in mode [] = Some (refusal_at 1 Header)
fault_in mode (line ∷ lines) = first_of 1 (first_fault_of (header_conditions line)) (fault_behind_header mode (version_in line.text) lines)

abbrev pub first_fault : List ℕ → Mode → Option Refusal
first_fault bytes mode = fault_in mode (lines_of bytes)
