-- What a line says where no condition of it holds, and what lines have declared then.
use Rattle.std.proofs.Common.{◌≡◌, ℕ, ◌+◌, ◌&&◌, ◌≤◌, ◌<◌, inl, inr, nat_le, nat_lt, if◌then◌else◌, Bool, true, false, List, [], ◌∷◌, ◌++◌, length, map, codes, Option, None, Some, is_some, Ok, Err, refl, sym, ◌∙◌, ap, subst, arith, append-nil, length-append}
use Rattle.std.proofs.lemmas.Bool.Decides.{nat_tests}
use Rattle.std.proofs.lemmas.List.{map-append}
use Rattle.std.proofs.lemmas.Slice.Eq.{bytes_eq-Decides}
use Rattle.wf_core.specs.Limits.{line_max, threads_max, backends_max, calls_max}
use Rattle.wf_core.specs.Names.{is_text}
use Rattle.trace_text.specs.declared.trace_call.TraceCall.{TraceCall}
use Rattle.trace_text.specs.declared.refusal.Fault.TheVariants.{UnknownWord, LineTooLong}
use Rattle.trace_text.specs.declared.trace.BackendLine.{BackendLine}
use Rattle.trace_text.specs.declared.trace.Mode.{Mode}
use Rattle.trace_text.specs.declared.version.Version.{Version}
use Rattle.trace_text.specs.Traces.{Traced, is_declared, thread_number, with_thread, with_backend, with_call, next_call, backend_line}
use Rattle.trace_text.specs.Fields.{fields_of, is_skipped, is_label, label_in}
use Rattle.trace_text.specs.Openings.{openings_of}
use Rattle.trace_text.specs.Words.{Form, form_of, has_kind, name_in, proxied_in, with_kind, backend_in}
use Rattle.trace_text.specs.Lines.{after_thread, after_backend, after_declaration, after_label, after_fields, after_line}
use Rattle.trace_text.specs.Grammar.{Says, kind_word}
use Rattle.trace_text.specs.Faults.{line_of, opening_in, fault_where, statement_of, thread_in, backend_name_in, is_call, Declarations, openings_by, first_fault_of, declaration_conditions, label_conditions, field_conditions, skipped_conditions, line_conditions, thread_conditions, backend_conditions}
use Rattle.trace_text.proofs.Agreement.{declarations_of, Agrees, guard, thread_agrees, backend_agrees, call_agrees}
use Rattle.trace_text.proofs.Followed.{Follows, follows_same, follows_thread, follows_call}
use Rattle.trace_text.proofs.Growth.{growth}
use Rattle.trace_text.proofs.Rows.{opening_is}
use Rattle.trace_text.proofs.TextFields.{both}

below : (a b : ℕ) → nat_le b a ≡ false → a < b
below a b h = grind (arith, nat_tests)

within : (a b : ℕ) → nat_lt b a ≡ false → a ≤ b
within a b h = grind (arith, nat_tests)

pub same : (a b : List ℕ) → is_text a b ≡ true → a ≡ b
same a b h = (bytes_eq-Decides a b).0 h

-- the name behind `thread`

label_is : (name : List ℕ) (b : Bool) (found : List ℕ) → (if b then Some name else None) ≡ Some found → (b ≡ true) × (name ≡ found)
label_is name true found e = (refl, (cc))
label_is name false found e = (cc)

pub name_is : (fields : List (List ℕ)) (found : List ℕ) → name_in fields ≡ Some found → (fields ≡ found ∷ []) × (is_label found ≡ true)
name_is [] found e = (cc)
name_is (name ∷ []) found e =
    let h = label_is name (is_label name) found e in (ap (λ (n : List ℕ). n ∷ []) h.1, subst (λ (n : List ℕ). is_label n ≡ true) h.1 h.0)
name_is (name ∷ other ∷ fields) found e = (cc)

-- the name and the kind behind `backend`

kind_is : (word : List ℕ) (proxied : Bool) → proxied_in word ≡ Some proxied → word ≡ kind_word proxied
kind_is word proxied e =
    elim (is_text word (codes "memory")) as (λ b. (is_text word (codes "memory") ≡ b) → (if b then Some false else if is_text word (codes "proxied") then Some true else None) ≡ Some proxied → word ≡ kind_word proxied) [
      | true ↦ λ t h. same word (codes "memory") t ∙ ap kind_word (let p : false ≡ proxied = cc h in p)
      | false ↦ λ t h. elim (is_text word (codes "proxied")) as (λ b. (is_text word (codes "proxied") ≡ b) → (if b then Some true else None) ≡ Some proxied → word ≡ kind_word proxied) [
        | true ↦ λ u k. same word (codes "proxied") u ∙ ap kind_word (let p : true ≡ proxied = cc k in p)
        | false ↦ λ u k. (cc)
      ] refl h
    ] refl e

kind_with_name : (mode : Mode) (name kind : List ℕ) (proxied : Option Bool) (found : BackendLine) → proxied_in kind ≡ proxied → with_kind mode name proxied ≡ Some found
    → (name ∷ kind ∷ [] ≡ found.name ∷ kind_word found.proxied ∷ []) × (has_kind mode found.proxied ≡ true) × (is_label found.name ≡ true)
kind_with_name mode name kind None found p e = (cc)
kind_with_name mode name kind (Some proxied) found p e =
    elim (has_kind mode proxied && is_label name) as (λ b. (has_kind mode proxied && is_label name ≡ b) → (if b then Some (backend_line name proxied) else None) ≡ Some found
    → (name ∷ kind ∷ [] ≡ found.name ∷ kind_word found.proxied ∷ []) × (has_kind mode found.proxied ≡ true) × (is_label found.name ≡ true)) [
      | true ↦ λ t h. (
          let f : backend_line name proxied ≡ found = cc h in
          let k = kind_is kind proxied p in
          let parts = both (has_kind mode proxied) (is_label name) t in (
            ap (λ (word : List ℕ). name ∷ word ∷ []) k ∙ ap (λ (b : BackendLine). b.name ∷ kind_word b.proxied ∷ []) f,
            subst (λ (b : BackendLine). has_kind mode b.proxied ≡ true) f parts.0,
            subst (λ (b : BackendLine). is_label b.name ≡ true) f parts.1,
          )
          )
      | false ↦ λ t h. (cc)
    ] refl e

pub backend_is : (mode : Mode) (fields : List (List ℕ)) (found : BackendLine) → backend_in mode fields ≡ Some found
    → (fields ≡ found.name ∷ kind_word found.proxied ∷ []) × (has_kind mode found.proxied ≡ true) × (is_label found.name ≡ true)
backend_is mode [] found e = (cc)
backend_is mode (name ∷ []) found e = (cc)
backend_is mode (name ∷ kind ∷ []) found e = kind_with_name mode name kind (proxied_in kind) found refl e
backend_is mode (name ∷ kind ∷ other ∷ fields) found e = (cc)

-- a field that ends in `:` is neither `thread` nor `backend`

not_word : (first name word : List ℕ) → label_in word ≡ None → label_in first ≡ Some name → is_text first word ≡ false
not_word first name word none label =
    elim (is_text first word) as (λ b. (is_text first word ≡ b) → is_text first word ≡ false) [
      | true ↦ λ t. (let clash : None ≡ Some name = sym none ∙ ap label_in (sym (same first word t)) ∙ label in cc clash)
      | false ↦ λ t. t
    ] refl

no_thread : (first name : List ℕ) (fields : List (List ℕ)) → label_in first ≡ Some name → thread_in (first ∷ fields) ≡ None
no_thread first name [] label = refl
no_thread first name (field ∷ []) label = ap (λ (b : Bool). if b then Some field else None) (not_word first name (codes "thread") refl label)
no_thread first name (field ∷ other ∷ fields) label = refl

no_backend : (first name : List ℕ) (fields : List (List ℕ)) → label_in first ≡ Some name → backend_name_in (first ∷ fields) ≡ None
no_backend first name [] label = refl
no_backend first name (field ∷ []) label = refl
no_backend first name (field ∷ kind ∷ []) label = ap (λ (b : Bool). if b then Some field else None) (not_word first name (codes "backend") refl label)
no_backend first name (field ∷ kind ∷ other ∷ fields) label = refl

statement_is : (line : List ℕ) (fields : List (List ℕ)) → is_skipped line ≡ false → fields_of line ≡ fields → statement_of line ≡ fields
statement_is line fields s e = ap (λ (b : Bool). if b then [] else fields_of line) s ∙ e

none_more : (n : ℕ) → n ≡ n + 0
none_more n = omega arith

-- what a line says, and what it and those before it have declared
abbrev pub Tells : Mode → Version → List (List ℕ) → Traced → List ℕ → Traced → Type 0
Tells mode version before trace line after = Says mode trace line after × Follows version (before ++ line ∷ []) after

skips : (mode : Mode) (version : Version) (before : List (List ℕ)) (trace : Traced) (line : List ℕ) → Follows version before trace → (length line ≤ line_max) → is_skipped line ≡ true → Tells mode version before trace line trace
skips mode version before trace line e short s =
    let nothing : statement_of line ≡ [] = ap (λ (b : Bool). if b then [] else fields_of line) s in (
      (short, inl (s, refl)),
      follows_same version before line trace trace e (λ name. ap (opening_in name) nothing) refl refl
          (growth version before line trace trace None None false e.declared (ap thread_in nothing) (ap backend_name_in nothing) (ap is_call nothing)
          refl (sym (append-nil trace.threads)) (sym (append-nil (map (λ backend. backend.name) trace.backends))) (none_more (length trace.calls))),
    )

declares_thread : (mode : Mode) (version : Version) (before : List (List ℕ)) (trace : Traced) (line name : List ℕ) → Follows version before trace → (length line ≤ line_max) → is_skipped line ≡ false
    → fields_of line ≡ codes "thread" ∷ name ∷ [] → is_label name ≡ true → is_declared trace name ≡ false → (length trace.threads < threads_max) → Tells mode version before trace line (with_thread trace name)
declares_thread mode version before trace line name e short s f label free room =
    let fields = statement_is line (codes "thread" ∷ name ∷ []) s f in (
      (short, inr (s, inl (name, f, label, free, room, refl))),
      follows_thread version before line name trace e (λ other. ap (opening_in other) fields)
          (growth version before line trace (with_thread trace name) (Some name) None false e.declared (ap thread_in fields) (ap backend_name_in fields) (ap is_call fields)
          refl refl (sym (append-nil (map (λ backend. backend.name) trace.backends))) (none_more (length trace.calls))),
    )

declares_backend : (mode : Mode) (version : Version) (before : List (List ℕ)) (trace : Traced) (line : List ℕ) (backend : BackendLine) → Follows version before trace → (length line ≤ line_max) → is_skipped line ≡ false
    → fields_of line ≡ codes "backend" ∷ backend.name ∷ kind_word backend.proxied ∷ [] → has_kind mode backend.proxied ≡ true → is_label backend.name ≡ true → is_declared trace backend.name ≡ false → (length trace.backends + 1 < backends_max)
    → Tells mode version before trace line (with_backend trace backend)
declares_backend mode version before trace line backend e short s f kind label free room =
    let fields = statement_is line (codes "backend" ∷ backend.name ∷ kind_word backend.proxied ∷ []) s f in (
      (short, inr (s, inr (inl (backend, f, kind, label, free, room, refl)))),
      follows_same version before line trace (with_backend trace backend) e (λ name. ap (opening_in name) fields) refl refl
          (growth version before line trace (with_backend trace backend) None (Some backend.name) false e.declared (ap thread_in fields) (ap backend_name_in fields) (ap is_call fields)
          refl (sym (append-nil trace.threads)) (map-append (λ (b : BackendLine). b.name) trace.backends (backend ∷ [])) (none_more (length trace.calls))),
    )

makes_call : (mode : Mode) (version : Version) (before : List (List ℕ)) (trace : Traced) (line label name word : List ℕ) (fields : List (List ℕ)) (thread : ℕ) (form : Form) (call : TraceCall)
    → Follows version before trace → (length line ≤ line_max) → is_skipped line ≡ false → fields_of line ≡ label ∷ word ∷ fields → label_in label ≡ Some name
    → thread_number trace name ≡ Some thread → form_of trace.version word ≡ Some form → form (openings_of thread trace.calls) fields ≡ Some call → (length trace.calls < calls_max)
    → Tells mode version before trace line (with_call trace thread call)
makes_call mode version before trace line label name word fields thread form call e short s f l t w c room =
    let all = statement_is line (label ∷ word ∷ fields) s f in (
      (short, inr (s, inr (inr (label, word, fields, f, name, l, thread, t, form, w, call, c, room, refl)))),
      follows_call version before line label name word fields trace thread call e all l t (opening_is trace.version word form (openings_of thread trace.calls) fields call w c)
          (growth version before line trace (with_call trace thread call) None None true e.declared (ap thread_in all ∙ no_thread label name (word ∷ fields) l) (ap backend_name_in all ∙ no_backend label name (word ∷ fields) l)
          (ap is_call all ∙ ap is_some l)
          refl (sym (append-nil trace.threads)) (sym (append-nil (map (λ backend. backend.name) trace.backends))) (length-append trace.calls (next_call trace thread call ∷ []))),
    )

-- by the fields

declaration_agrees : (mode : Mode) (version : Version) (before : List (List ℕ)) (trace : Traced) (line first : List ℕ) (fields : List (List ℕ)) → Follows version before trace → (length line ≤ line_max) → is_skipped line ≡ false
    → fields_of line ≡ first ∷ fields → Agrees (after_declaration mode trace first fields) (first_fault_of (declaration_conditions mode (declarations_of trace) first fields)) (Tells mode version before trace line)
declaration_agrees mode version before trace line first fields e short s f =
    let Then : Traced → Type 0 = Tells mode version before trace line in
    elim (is_text first (codes "thread")) as (λ b. (is_text first (codes "thread") ≡ b)
    → Agrees (if b then after_thread trace (name_in fields) else if is_text first (codes "backend") then after_backend trace (backend_in mode fields) else Err UnknownWord)
    (first_fault_of (if b then thread_conditions (declarations_of trace) fields else if is_text first (codes "backend") then backend_conditions mode (declarations_of trace) fields else fault_where UnknownWord true ∷ [])) Then) [
      | true ↦ λ t. thread_agrees trace (name_in fields) Then (λ found n free room.
          let named = name_is fields found n in
          declares_thread mode version before trace line found e short s (f ∙ ap (λ (word : List ℕ). word ∷ fields) (same first (codes "thread") t) ∙ ap (λ (rest : List (List ℕ)). codes "thread" ∷ rest) named.0) named.1 free
          (below (length trace.threads) threads_max room))
      | false ↦ λ t. elim (is_text first (codes "backend")) as (λ b. (is_text first (codes "backend") ≡ b)
          → Agrees (if b then after_backend trace (backend_in mode fields) else Err UnknownWord)
          (first_fault_of (if b then backend_conditions mode (declarations_of trace) fields else fault_where UnknownWord true ∷ [])) Then) [
            | true ↦ λ u. backend_agrees trace (backend_in mode fields) Then (λ found n free room.
                let named = backend_is mode fields found n in
                declares_backend mode version before trace line found e short s (f ∙ ap (λ (word : List ℕ). word ∷ fields) (same first (codes "backend") u) ∙ ap (λ (rest : List (List ℕ)). codes "backend" ∷ rest) named.0) named.1 named.2 free
                (below (length trace.backends + 1) backends_max room))
            | false ↦ λ u. refl
          ] refl
    ] refl

label_agrees : (mode : Mode) (version : Version) (before : List (List ℕ)) (trace : Traced) (line first : List ℕ) (fields : List (List ℕ)) (label : Option (List ℕ)) → Follows version before trace → (length line ≤ line_max) → is_skipped line ≡ false
    → fields_of line ≡ first ∷ fields → label_in first ≡ label
    → Agrees (after_label mode trace label first fields) (first_fault_of (label_conditions mode (declarations_of trace) (openings_by before) label first fields)) (Tells mode version before trace line)
label_agrees mode version before trace line first fields None e short s f l = declaration_agrees mode version before trace line first fields e short s f
label_agrees mode version before trace line first fields (Some name) e short s f l =
    call_agrees trace (openings_by before name) (thread_number trace name) fields (Tells mode version before trace line) (e.found name) (λ thread word rest form made t w r c room.
    makes_call mode version before trace line first name word rest thread form made e short s (f ∙ ap (λ (behind : List (List ℕ)). first ∷ behind) w) l t r c (below (length trace.calls) calls_max room))

fields_agree : (mode : Mode) (version : Version) (before : List (List ℕ)) (trace : Traced) (line : List ℕ) (fields : List (List ℕ)) → Follows version before trace → (length line ≤ line_max) → is_skipped line ≡ false
    → fields_of line ≡ fields → Agrees (after_fields mode trace fields) (first_fault_of (field_conditions mode (declarations_of trace) (openings_by before) fields)) (Tells mode version before trace line)
fields_agree mode version before trace line [] e short s f = refl
fields_agree mode version before trace line (first ∷ fields) e short s f = label_agrees mode version before trace line first fields (label_in first) e short s f refl

skip_agrees : (mode : Mode) (version : Version) (before : List (List ℕ)) (trace : Traced) (line : List ℕ) → Follows version before trace → (length line ≤ line_max)
    → Agrees (if is_skipped line then Ok trace else after_fields mode trace (fields_of line)) (first_fault_of (skipped_conditions (is_skipped line) (field_conditions mode (declarations_of trace) (openings_by before) (fields_of line)))) (Tells mode version before trace line)
skip_agrees mode version before trace line e short =
    elim (is_skipped line) as (λ b. (is_skipped line ≡ b)
    → Agrees (if b then Ok trace else after_fields mode trace (fields_of line)) (first_fault_of (skipped_conditions b (field_conditions mode (declarations_of trace) (openings_by before) (fields_of line)))) (Tells mode version before trace line)) [
      | true ↦ λ s. (refl, skips mode version before trace line e short s)
      | false ↦ λ s. fields_agree mode version before trace line (fields_of line) e short s refl
    ] refl

-- a line behind others
pub line_agrees : (mode : Mode) (version : Version) (before : List (List ℕ)) (trace : Traced) (line : List ℕ) → Follows version before trace
    → Agrees (after_line mode trace line) (first_fault_of (line_conditions mode version before (line_of line true))) (Tells mode version before trace line)
unfolding after_line
line_agrees mode version before trace line e =
    subst (λ (k : Declarations). Agrees (after_line mode trace line) (if nat_lt line_max (length line) then Some LineTooLong else first_fault_of (skipped_conditions (is_skipped line) (field_conditions mode k (openings_by before) (fields_of line)))) (Tells mode version before trace line)) (sym e.declared)
    (guard (nat_lt line_max (length line)) LineTooLong _ _ (Tells mode version before trace line) (λ h. skip_agrees mode version before trace line e (within (length line) line_max h)))
