-- What is read is a trace by the grammar, and what is not read has the first fault of its first faulty line.
use Rattle.std.proofs.Common.{◌≡◌, ℕ, suc, ◌+◌, ◌==◌, ◌≤◌, ◌<◌, ◌⊎◌, ◌&&◌, inl, inr, nat_le, nat_lt, if◌then◌else◌, Bool, true, false, List, [], ◌∷◌, ◌++◌, length, codes, is_none, Option, None, Some, option_map, Result, Ok, Err, ok_or, refl, sym, ◌∙◌, ap, subst, arith}
use Rattle.std.proofs.lemmas.Bool.Decides.{nat_tests}
use Rattle.wf_core.specs.Limits.{line_max, threads_max, backends_max, calls_max}
use Rattle.wf_core.specs.Names.{is_text}
use Rattle.trace_text.specs.declared.trace_call.TraceCall.{TraceCall}
use Rattle.trace_text.specs.declared.refusal.Fault.{Fault}
use Rattle.trace_text.specs.declared.refusal.Fault.TheVariants.{Header, BadArgument, DuplicateName, LineTooLong, MissingNewline, TooManyBackends, TooManyCalls, TooManyThreads}
use Rattle.trace_text.specs.declared.refusal.Refusal.{Refusal}
use Rattle.trace_text.specs.declared.trace.Mode.{Mode}
use Rattle.trace_text.specs.declared.version.Version.{Version}
use Rattle.trace_text.specs.declared.version.Version.TheVariants as number
use Rattle.trace_text.specs.Versions.{header, version_in}
use Rattle.trace_text.specs.Traces.{Traced, nothing, with_thread, with_backend, with_call, backend_line}
use Rattle.trace_text.specs.Fields.{pieces_of, fields_of, is_skipped, is_label}
use Rattle.trace_text.specs.Openings.{openings_of}
use Rattle.trace_text.specs.Words.{Form, proxied_in, with_kind}
use Rattle.trace_text.specs.Lines.{after_thread, after_backend, after_call, after_call_of, after_label, after_fields, after_line, call_behind}
use Rattle.trace_text.specs.Grammar.{Says, SayAll, Reads, kind_word}
use Rattle.trace_text.specs.Reading.{on_line, trace_on, version_of, on_header, trace_in, trace_at}
use Rattle.trace_text.specs.Refusals.{refusal_at}
use Rattle.trace_text.specs.Faults.{line_of, lines_from, first_fault_of, line_conditions, first_of, fault_behind, fault_behind_header, fault_in, first_fault}
use Rattle.trace_text.proofs.Agreement.{Agrees}
use Rattle.trace_text.proofs.Followed.{Follows}
use Rattle.trace_text.proofs.LineAgreement.{Tells, line_agrees, same}

-- the pieces are lines and then nothing, and no line is faulty; or one is
abbrev pub Whole : Mode → Traced → List (List ℕ) → Option Refusal → Result Traced Refusal → Type 0
Whole mode trace pieces met (Ok final) = ((lines : List (List ℕ)) × (pieces ≡ lines ++ [] ∷ []) × SayAll mode trace lines final) × (met ≡ None)
Whole mode trace pieces met (Err refusal) = met ≡ Some refusal

onward : (mode : Mode) (number : ℕ) (trace after : Traced) (line : List ℕ) (pieces : List (List ℕ)) (met : Option Fault) (others : Option Refusal) (read : Result Traced Refusal)
    → Whole mode after pieces others read → Says mode trace line after → met ≡ None → Whole mode trace (line ∷ pieces) (first_of number met others) read
onward mode number trace after line pieces met others (Ok final) w says none =
    ((line ∷ w.0.0, ap (λ (ps : List (List ℕ)). line ∷ ps) w.0.1, (after, says, w.0.2)), ap (λ (m : Option Fault). first_of number m others) none ∙ w.1)
onward mode number trace after line pieces met others (Err refusal) w says none = ap (λ (m : Option Fault). first_of number m others) none ∙ w

more : (mode : Mode) (version : Version) (number : ℕ) (before : List (List ℕ)) (trace : Traced) (line next : List ℕ) (pieces : List (List ℕ)) (read : Result Traced Fault) (met : Option Fault) → Agrees read met (Tells mode version before trace line)
    → ((after : Traced) → Follows version (before ++ line ∷ []) after → Whole mode after (next ∷ pieces) (fault_behind mode version (number + 1) (before ++ line ∷ []) (lines_from (next ∷ pieces))) (trace_on mode (number + 1) after (next ∷ pieces)))
    → Whole mode trace (line ∷ next ∷ pieces) (first_of number met (fault_behind mode version (number + 1) (before ++ line ∷ []) (lines_from (next ∷ pieces)))) (on_line number read (λ after. trace_on mode (number + 1) after (next ∷ pieces)))
more mode version number before trace line next pieces (Ok after) met a rest =
    onward mode number trace after line (next ∷ pieces) met (fault_behind mode version (number + 1) (before ++ line ∷ []) (lines_from (next ∷ pieces))) (trace_on mode (number + 1) after (next ∷ pieces)) (rest after a.1.1) a.1.0 a.0
more mode version number before trace line next pieces (Err fault) met a rest =
    ap (λ (m : Option Fault). first_of number m (fault_behind mode version (number + 1) (before ++ line ∷ []) (lines_from (next ∷ pieces)))) a

empty : (rest : List ℕ) → (length rest == 0) ≡ true → rest ≡ []
empty [] h = refl
empty (byte ∷ rest) h = absurd (some (length rest) h)
  where
    some : (n : ℕ) → (suc n == 0) ≡ true → ⊥
    some n h = grind (arith, nat_tests)

pub fold_agrees : (mode : Mode) (version : Version) (number : ℕ) (before : List (List ℕ)) (trace : Traced) (piece : List ℕ) (pieces : List (List ℕ)) → Follows version before trace
    → Whole mode trace (piece ∷ pieces) (fault_behind mode version number before (lines_from (piece ∷ pieces))) (trace_on mode number trace (piece ∷ pieces))
fold_agrees mode version number before trace rest [] e =
    elim (length rest == 0) as (λ b. ((length rest == 0) ≡ b) → Whole mode trace (rest ∷ []) (fault_behind mode version number before (if b then [] else line_of rest false ∷ [])) (if b then Ok trace else Err (refusal_at number MissingNewline))) [
      | true ↦ λ h. (([], ap (λ (piece : List ℕ). piece ∷ []) (empty rest h), refl), refl)
      | false ↦ λ h. refl
    ] refl
fold_agrees mode version number before trace line (next ∷ pieces) e =
    more mode version number before trace line next pieces (after_line mode trace line) (first_fault_of (line_conditions mode version before (line_of line true))) (line_agrees mode version before trace line e)
    (λ after k. fold_agrees mode version (number + 1) (before ++ line ∷ []) after next pieces k)

-- with line 1

follows_nothing : (version : Version) → Follows version [] (nothing version)
follows_nothing version = record { declared = refl; found = λ name thread e. refl; unfound = λ name e. refl; past = λ thread h. refl }

abbrev pub WholeTrace : Mode → List (List ℕ) → Option Refusal → Result Traced Refusal → Type 0
WholeTrace mode pieces met (Ok final) = ((version : Version) × (lines : List (List ℕ)) × (pieces ≡ (header version ∷ lines) ++ [] ∷ []) × SayAll mode (nothing version) lines final) × (met ≡ None)
WholeTrace mode pieces met (Err refusal) = met ≡ Some refusal

header_agrees : (mode : Mode) (version : Version) (line : List ℕ) (pieces : List (List ℕ)) (met : Option Refusal) (read : Result Traced Refusal) → line ≡ header version → Whole mode (nothing version) pieces met read → WholeTrace mode (line ∷ pieces) met read
header_agrees mode version line pieces met (Ok final) e w =
    ((version, w.0.0, ap (λ (first : List ℕ). first ∷ pieces) e ∙ ap (λ (ps : List (List ℕ)). header version ∷ ps) w.0.1, w.0.2), w.1)
header_agrees mode version line pieces met (Err refusal) e w = w

header_is : (line : List ℕ) (version : Version) → version_in line ≡ Some version → line ≡ header version
header_is line version e =
    elim (is_text line (header number.One)) as (λ b. (is_text line (header number.One) ≡ b) → (if b then Some number.One else if is_text line (header number.Two) then Some number.Two else None) ≡ Some version → line ≡ header version) [
      | true ↦ λ t h. same line (header number.One) t ∙ ap header (let v : number.One ≡ version = cc h in v)
      | false ↦ λ t h. elim (is_text line (header number.Two)) as (λ b. (is_text line (header number.Two) ≡ b) → (if b then Some number.Two else None) ≡ Some version → line ≡ header version) [
        | true ↦ λ u k. same line (header number.Two) u ∙ ap header (let v : number.Two ≡ version = cc k in v)
        | false ↦ λ u k. (let clash : None ≡ Some version = k in cc clash)
      ] refl h
    ] refl e

headed : (mode : Mode) (line next : List ℕ) (pieces : List (List ℕ)) (version : Option Version) → version_in line ≡ version
    → WholeTrace mode (line ∷ next ∷ pieces) (first_of 1 (if is_none version then Some Header else None) (fault_behind_header mode version (lines_from (next ∷ pieces))))
    (on_header (ok_or version Header) (λ v. trace_on mode 2 (nothing v) (next ∷ pieces)))
headed mode line next pieces None e = refl
headed mode line next pieces (Some version) e =
    header_agrees mode version line (next ∷ pieces) (fault_behind mode version 2 [] (lines_from (next ∷ pieces))) (trace_on mode 2 (nothing version) (next ∷ pieces)) (header_is line version e)
    (fold_agrees mode version 2 [] (nothing version) next pieces (follows_nothing version))

pub whole_agrees : (mode : Mode) (pieces : List (List ℕ)) → WholeTrace mode pieces (fault_in mode (lines_from pieces)) (trace_in mode pieces)
whole_agrees mode [] = refl
whole_agrees mode (rest ∷ []) =
    elim (length rest == 0) as (λ b. WholeTrace mode (rest ∷ []) (fault_in mode (if b then [] else line_of rest false ∷ [])) (Err (refusal_at 1 (if b then Header else MissingNewline)))) [
      | true ↦ refl
      | false ↦ refl
    ]
whole_agrees mode (line ∷ next ∷ pieces) =
    elim (nat_lt line_max (length line)) as (λ b. WholeTrace mode (line ∷ next ∷ pieces)
    (first_of 1 (if b then Some LineTooLong else if is_none (version_in line) then Some Header else None) (fault_behind_header mode (version_in line) (lines_from (next ∷ pieces))))
    (on_header (if b then Err LineTooLong else ok_or (version_in line) Header) (λ v. trace_on mode 2 (nothing v) (next ∷ pieces)))) [
      | true ↦ refl
      | false ↦ headed mode line next pieces (version_in line) refl
    ]

-- What is a trace by the grammar is read.

not_over : (a b : ℕ) → a ≤ b → nat_lt b a ≡ false
not_over a b h = grind (arith, nat_tests)

has_room : (a b : ℕ) → a < b → nat_le b a ≡ false
has_room a b h = grind (arith, nat_tests)

kind_read : (proxied : Bool) → proxied_in (kind_word proxied) ≡ Some proxied
kind_read true = refl
kind_read false = refl

fields_read : (mode : Mode) (before : Traced) (line : List ℕ) (after : Traced) (fields : List (List ℕ)) → (length line ≤ line_max) → is_skipped line ≡ false → fields_of line ≡ fields
    → after_fields mode before fields ≡ Ok after → after_line mode before line ≡ Ok after
unfolding after_line
fields_read mode before line after fields short s f h =
    ap (λ (b : Bool). if b then Err LineTooLong else if is_skipped line then Ok before else after_fields mode before (fields_of line)) (not_over (length line) line_max short)
    ∙ ap (λ (b : Bool). if b then Ok before else after_fields mode before (fields_of line)) s ∙ ap (after_fields mode before) f ∙ h

skipped_read : (mode : Mode) (before : Traced) (line : List ℕ) → (length line ≤ line_max) → is_skipped line ≡ true → after_line mode before line ≡ Ok before
unfolding after_line
skipped_read mode before line short s =
    ap (λ (b : Bool). if b then Err LineTooLong else if is_skipped line then Ok before else after_fields mode before (fields_of line)) (not_over (length line) line_max short)
    ∙ ap (λ (b : Bool). if b then Ok before else after_fields mode before (fields_of line)) s

pub says_read : (mode : Mode) (before : Traced) (line : List ℕ) (after : Traced) → Says mode before line after → after_line mode before line ≡ Ok after
says_read mode before line after (short, inl (s, e)) = skipped_read mode before line short s ∙ ap Ok (sym e)
says_read mode before line after (short, inr (s, inl (name, f, label, free, room, e))) =
    fields_read mode before line after (codes "thread" ∷ name ∷ []) short s f
    (ap (λ (b : Bool). after_thread before (if b then Some name else None)) label
    ∙ ap (λ (b : Bool). if b then Err DuplicateName else if nat_le threads_max (length before.threads) then Err TooManyThreads else Ok (with_thread before name)) free
    ∙ ap (λ (b : Bool). if b then Err TooManyThreads else Ok (with_thread before name)) (has_room (length before.threads) threads_max room) ∙ ap Ok (sym e))
says_read mode before line after (short, inr (s, inr (inl (backend, f, kind, label, free, room, e)))) =
    fields_read mode before line after (codes "backend" ∷ backend.name ∷ kind_word backend.proxied ∷ []) short s f
    (ap (λ (kind : Option Bool). after_backend before (with_kind mode backend.name kind)) (kind_read backend.proxied)
    ∙ ap (λ (b : Bool). after_backend before (if b && is_label backend.name then Some (backend_line backend.name backend.proxied) else None)) kind
    ∙ ap (λ (b : Bool). after_backend before (if b then Some (backend_line backend.name backend.proxied) else None)) label
    ∙ ap (λ (b : Bool). if b then Err DuplicateName else if nat_le backends_max (length before.backends + 1) then Err TooManyBackends else Ok (with_backend before backend)) free
    ∙ ap (λ (b : Bool). if b then Err TooManyBackends else Ok (with_backend before backend)) (has_room (length before.backends + 1) backends_max room) ∙ ap Ok (sym e))
says_read mode before line after (short, inr (s, inr (inr (label, word, fields, f, name, l, thread, t, form, w, call, c, room, e)))) =
    fields_read mode before line after (label ∷ word ∷ fields) short s f
    (ap (λ (found : Option (List ℕ)). after_label mode before found label (word ∷ fields)) l
    ∙ ap (λ (number : Option ℕ). after_call before number (word ∷ fields)) t
    ∙ ap (λ (row : Option Form). after_call_of before thread (call_behind (option_map (λ f. f (openings_of thread before.calls) fields) row))) w
    ∙ ap (λ (made : Option TraceCall). after_call_of before thread (ok_or made BadArgument)) c
    ∙ ap (λ (b : Bool). if b then Err TooManyCalls else Ok (with_call before thread call)) (has_room (length before.calls) calls_max room) ∙ ap Ok (sym e))

pub all_read : (mode : Mode) (number : ℕ) (before : Traced) (lines : List (List ℕ)) (after : Traced) → SayAll mode before lines after → trace_on mode number before (lines ++ [] ∷ []) ≡ Ok after
all_read mode number before [] after h = ap Ok (sym h)
all_read mode number before (line ∷ []) after (between, says, rest) =
    ap (λ (read : Result Traced Fault). on_line number read (λ made. trace_on mode (number + 1) made ([] ∷ []))) (says_read mode before line between says) ∙ all_read mode (number + 1) between [] after rest
all_read mode number before (line ∷ next ∷ lines) after (between, says, rest) =
    ap (λ (read : Result Traced Fault). on_line number read (λ made. trace_on mode (number + 1) made (next ∷ lines ++ [] ∷ []))) (says_read mode before line between says)
    ∙ all_read mode (number + 1) between (next ∷ lines) after rest

version_read : (version : Version) → version_of (header version) ≡ Ok version
version_read number.One = refl
version_read number.Two = refl

first_read : (mode : Mode) (line : List ℕ) (lines : List (List ℕ)) → trace_in mode ((line ∷ lines) ++ [] ∷ []) ≡ on_header (version_of line) (λ version. trace_on mode 2 (nothing version) (lines ++ [] ∷ []))
first_read mode line [] = refl
first_read mode line (next ∷ lines) = refl

pub reads_at : (bytes : List ℕ) (mode : Mode) (trace : Traced) → Reads bytes mode trace → trace_at mode bytes ≡ Ok trace
reads_at bytes mode trace (version, lines, p, says) =
    ap (trace_in mode) p ∙ first_read mode (header version) lines
    ∙ ap (λ (told : Result Version Fault). on_header told (λ v. trace_on mode 2 (nothing v) (lines ++ [] ∷ []))) (version_read version)
    ∙ all_read mode 2 (nothing version) lines trace says

-- the trace that is read, or the refusal
pub read_or_refused : (bytes : List ℕ) (mode : Mode) (read : Result Traced Refusal) → trace_at mode bytes ≡ read
    → ((trace : Traced) × Reads bytes mode trace × (first_fault bytes mode ≡ None)) ⊎ ((refusal : Refusal) × (first_fault bytes mode ≡ Some refusal) × ((trace : Traced) → Reads bytes mode trace → ⊥))
read_or_refused bytes mode (Ok trace) e =
    let w = subst (λ (read : Result Traced Refusal). WholeTrace mode (pieces_of bytes) (first_fault bytes mode) read) e (whole_agrees mode (pieces_of bytes)) in
    inl (trace, w.0, w.1)
read_or_refused bytes mode (Err refusal) e =
    let w = subst (λ (read : Result Traced Refusal). WholeTrace mode (pieces_of bytes) (first_fault bytes mode) read) e (whole_agrees mode (pieces_of bytes)) in
    inr (refusal, w, λ trace h. (let clash : Err refusal ≡ Ok trace = sym e ∙ reads_at bytes mode trace h in cc))

pub reads_one : (bytes : List ℕ) (mode : Mode) (one other : Traced) → Reads bytes mode one → Reads bytes mode other → one ≡ other
reads_one bytes mode one other h k = let e : Ok one ≡ Ok other = sym (reads_at bytes mode one h) ∙ reads_at bytes mode other k in (cc)

pub reads_what_is_read : (bytes : List ℕ) (mode : Mode) (trace : Traced) → trace_at mode bytes ≡ Ok trace → Reads bytes mode trace
reads_what_is_read bytes mode trace e =
    (subst (λ (read : Result Traced Refusal). WholeTrace mode (pieces_of bytes) (first_fault bytes mode) read) e (whole_agrees mode (pieces_of bytes))).0

pub refuses_what_is_refused : (bytes : List ℕ) (mode : Mode) (refusal : Refusal) → trace_at mode bytes ≡ Err refusal → first_fault bytes mode ≡ Some refusal
refuses_what_is_refused bytes mode refusal e =
    subst (λ (read : Result Traced Refusal). WholeTrace mode (pieces_of bytes) (first_fault bytes mode) read) e (whole_agrees mode (pieces_of bytes))
