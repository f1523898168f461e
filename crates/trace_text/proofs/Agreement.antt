-- What a line is read to be has the fault of its first condition that holds.
use Rattle.std.proofs.Common.{◌≡◌, ℕ, ◌+◌, ◌||◌, nat_le, if◌then◌else◌, Bool, true, false, List, [], ◌∷◌, length, map, codes, is_none, Option, None, Some, option_map, Result, Ok, Err, ok_or, refl, sym, ap, subst}
use Rattle.std.specs.List.{list_any}
use Rattle.std.proofs.lemmas.List.{length-map}
use Rattle.wf_core.specs.Limits.{threads_max, backends_max, calls_max}
use Rattle.wf_core.specs.Names.{is_text}
use Rattle.trace_text.specs.declared.trace_call.TraceCall.{TraceCall}
use Rattle.trace_text.specs.declared.refusal.Fault.{Fault}
use Rattle.trace_text.specs.declared.refusal.Fault.TheVariants.{UnknownWord, BadArgument, UnknownName, DuplicateName, TooManyCalls, TooManyThreads, TooManyBackends}
use Rattle.trace_text.specs.declared.trace.BackendLine.{BackendLine}
use Rattle.trace_text.specs.Openings.{openings_of}
use Rattle.trace_text.specs.Traces.{Traced, is_declared, with_thread, with_backend, with_call}
use Rattle.trace_text.specs.Words.{Form, form_of}
use Rattle.trace_text.specs.Lines.{after_thread, after_backend, call_behind, after_call_of, after_call}
use Rattle.trace_text.specs.Faults.{Declarations, has_name, backend_name, call_behind_label, call_with_form, form_behind, has_name_in}

-- what a trace has declared
abbrev pub declarations_of : Traced → Declarations
declarations_of trace = record { version = trace.version; threads = trace.threads; backends = map (λ backend. backend.name) trace.backends; calls = length trace.calls }

-- a line is read and no condition holds, or it has the fault of the first that does
abbrev pub Agrees : Result Traced Fault → Option Fault → (Traced → Type 0) → Type 0
Agrees (Ok after) met Then = (met ≡ None) × Then after
Agrees (Err fault) met Then = met ≡ Some fault

-- a condition that holds, or the rest where it does not
pub guard : (test : Bool) (fault : Fault) (read : Result Traced Fault) (met : Option Fault) (Then : Traced → Type 0)
    → (test ≡ false → Agrees read met Then) → Agrees (if test then Err fault else read) (if test then Some fault else met) Then
guard true fault read met Then h = refl
guard false fault read met Then h = h refl

any_name : (name : List ℕ) (backends : List BackendLine) → list_any (λ backend. is_text backend name) (map (λ backend. backend.name) backends) ≡ list_any (λ backend. is_text backend.name name) backends
any_name name [] = refl
any_name name (backend ∷ backends) = ap (λ (rest : Bool). is_text backend.name name || rest) (any_name name backends)

same_names : (trace : Traced) (name : List ℕ) → has_name (declarations_of trace) name ≡ is_declared trace name
same_names trace name =
    ap (λ (rest : Bool). is_text name (codes "main") || list_any (λ thread. is_text thread name) trace.threads || rest) (any_name name trace.backends)

-- a name that is free, and room for it
pub thread_agrees : (trace : Traced) (name : Option (List ℕ)) (Then : Traced → Type 0)
    → ((found : List ℕ) → name ≡ Some found → is_declared trace found ≡ false → nat_le threads_max (length trace.threads) ≡ false → Then (with_thread trace found))
    → Agrees (after_thread trace name) (if is_none name then Some BadArgument else if has_name_in (declarations_of trace) name then Some DuplicateName else if nat_le threads_max (length trace.threads) then Some TooManyThreads else None) Then
thread_agrees trace None Then h = refl
thread_agrees trace (Some name) Then h =
    subst (λ (b : Bool). Agrees (after_thread trace (Some name)) (if b then Some DuplicateName else if nat_le threads_max (length trace.threads) then Some TooManyThreads else None) Then) (sym (same_names trace name))
    (guard (is_declared trace name) DuplicateName _ _ Then (λ free.
    guard (nat_le threads_max (length trace.threads)) TooManyThreads (Ok (with_thread trace name)) None Then (λ room. (refl, h name refl free room))))

many_backends : (trace : Traced) → nat_le backends_max (length (map (λ backend. backend.name) trace.backends) + 1) ≡ nat_le backends_max (length trace.backends + 1)
many_backends trace = ap (λ (n : ℕ). nat_le backends_max (n + 1)) (length-map trace.backends (λ (backend : BackendLine). backend.name))

pub backend_agrees : (trace : Traced) (backend : Option BackendLine) (Then : Traced → Type 0)
    → ((found : BackendLine) → backend ≡ Some found → is_declared trace found.name ≡ false → nat_le backends_max (length trace.backends + 1) ≡ false → Then (with_backend trace found))
    → Agrees (after_backend trace backend) (if is_none backend then Some BadArgument else if has_name_in (declarations_of trace) (backend_name backend) then Some DuplicateName else if nat_le backends_max (length (declarations_of trace).backends + 1) then Some TooManyBackends else None) Then
backend_agrees trace None Then h = refl
backend_agrees trace (Some backend) Then h =
    subst (λ (b : Bool). Agrees (after_backend trace (Some backend)) (if has_name (declarations_of trace) backend.name then Some DuplicateName else if b then Some TooManyBackends else None) Then) (sym (many_backends trace))
    (subst (λ (b : Bool). Agrees (after_backend trace (Some backend)) (if b then Some DuplicateName else if nat_le backends_max (length trace.backends + 1) then Some TooManyBackends else None) Then) (sym (same_names trace backend.name))
    (guard (is_declared trace backend.name) DuplicateName _ _ Then (λ free.
    guard (nat_le backends_max (length trace.backends + 1)) TooManyBackends (Ok (with_backend trace backend)) None Then (λ room. (refl, h backend refl free room)))))

room_agrees : (trace : Traced) (thread : ℕ) (call : Option TraceCall) (Then : Traced → Type 0)
    → ((made : TraceCall) → call ≡ Some made → nat_le calls_max (length trace.calls) ≡ false → Then (with_call trace thread made))
    → Agrees (after_call_of trace thread (ok_or call BadArgument)) (if is_none call then Some BadArgument else if nat_le calls_max (length trace.calls) then Some TooManyCalls else None) Then
room_agrees trace thread None Then h = refl
room_agrees trace thread (Some call) Then h = guard (nat_le calls_max (length trace.calls)) TooManyCalls (Ok (with_call trace thread call)) None Then (λ room. (refl, h call refl room))

form_agrees : (trace : Traced) (openings : List Bool) (thread : ℕ) (form : Option Form) (fields : List (List ℕ)) (Then : Traced → Type 0)
    → ((found : Form) (made : TraceCall) → form ≡ Some found → found openings fields ≡ Some made → nat_le calls_max (length trace.calls) ≡ false → Then (with_call trace thread made))
    → Agrees (after_call_of trace thread (call_behind (option_map (λ f. f openings fields) form)))
    (if is_none form then Some UnknownWord else if is_none (call_with_form openings form fields) then Some BadArgument else if nat_le calls_max (length trace.calls) then Some TooManyCalls else None) Then
form_agrees trace openings thread None fields Then h = refl
form_agrees trace openings thread (Some form) fields Then h = room_agrees trace thread (form openings fields) Then (λ made e room. h form made refl e room)

-- the opening calls are told of the lines before, and of the trace
pub call_agrees : (trace : Traced) (openings : List Bool) (thread : Option ℕ) (fields : List (List ℕ)) (Then : Traced → Type 0) → ((number : ℕ) → thread ≡ Some number → openings ≡ openings_of number trace.calls)
    → ((number : ℕ) (word : List ℕ) (rest : List (List ℕ)) (form : Form) (made : TraceCall) → thread ≡ Some number → fields ≡ word ∷ rest → form_of trace.version word ≡ Some form
    → form (openings_of number trace.calls) rest ≡ Some made → nat_le calls_max (length trace.calls) ≡ false → Then (with_call trace number made))
    → Agrees (after_call trace thread fields)
    (if is_none thread then Some UnknownName else if is_none (form_behind trace.version fields) then Some UnknownWord else if is_none (call_behind_label trace.version openings fields) then Some BadArgument
    else if nat_le calls_max (length trace.calls) then Some TooManyCalls else None) Then
call_agrees trace openings None fields Then same h = refl
call_agrees trace openings (Some thread) [] Then same h = refl
call_agrees trace openings (Some thread) (word ∷ fields) Then same h =
    subst (λ (o : List Bool). Agrees (after_call trace (Some thread) (word ∷ fields))
    (if is_none (form_of trace.version word) then Some UnknownWord else if is_none (call_with_form o (form_of trace.version word) fields) then Some BadArgument else if nat_le calls_max (length trace.calls) then Some TooManyCalls else None) Then)
    (sym (same thread refl))
    (form_agrees trace (openings_of thread trace.calls) thread (form_of trace.version word) fields Then (λ form made e f room. h thread word fields form made refl refl e f room))
