-- The lines that declare threads and backends.
use Rattle.std.proofs.Common.{◌≡◌, ℕ, ◌+◌, ◌<◌, ◌≤◌, ◌==◌, ◌&&◌, ◌||◌, inl, inr, nat_le, not, Bool, true, false, List, [], ◌∷◌, ◌++◌, length, codes, refl, sym, ◌∙◌, ap, subst, arith, append_assoc, length-append}
use Rattle.std.specs.List.{list_all, list_any}
use Rattle.std.proofs.lemmas.Bool.Decides.{nat_tests}
use Rattle.std.proofs.lemmas.List.Elements.{All-nil, All-cons}
use Rattle.std.proofs.lemmas.List.Splits.{slice_split_at, slice_split_none}
use Rattle.std.proofs.lemmas.Slice.Eq.{bytes_eq-Decides}
use Rattle.wf_core.specs.Limits.{line_max, threads_max, backends_max}
use Rattle.wf_core.specs.Names.{is_text}
use Rattle.trace_text.specs.declared.trace.BackendLine.{BackendLine}
use Rattle.trace_text.specs.declared.trace.Mode.{Mode}
use Rattle.trace_text.specs.declared.version.Version.{Version}
use Rattle.trace_text.specs.Traces.{Traced, is_declared}
use Rattle.trace_text.specs.Fields.{fields_of, is_label, is_label_byte, label_max}
use Rattle.trace_text.specs.Grammar.{Says, kind_word}
use Rattle.trace_text.specs.TraceTexts.{thread_line, backend_text}
use Rattle.trace_text.specs.Words.{has_kind}
use Rattle.trace_text.proofs.TextFields.{unequal}
use Rattle.trace_laws.proofs.Pieces.{Lacks, Each, Clean, join_keeps, row_of_fields}
use Rattle.trace_laws.proofs.PrintedFields.{High, at_least, clean_from_high}
use Rattle.trace_laws.proofs.Builds.{either_false, fails_more}
use Rattle.trace_laws.proofs.CallLines.{with_calls}

-- what holds of a thread behind those before it
pub record ThreadStands (front : List (List ℕ)) (name : List ℕ) : Type 0 where
  pub label : is_label name ≡ true
  pub no_main : is_text name (codes "main") ≡ false
  pub free : list_any (λ thread. is_text thread name) front ≡ false
  pub room : length front < threads_max

-- and of a backend, which is declared behind all threads
pub record BackendStands (mode : Mode) (threads : List (List ℕ)) (front : List BackendLine) (backend : BackendLine) : Type 0 where
  pub kind : has_kind mode backend.proxied ≡ true
  pub label : is_label backend.name ≡ true
  pub no_main : is_text backend.name (codes "main") ≡ false
  pub no_thread : list_any (λ thread. is_text thread backend.name) threads ≡ false
  pub free : list_any (λ other. is_text other.name backend.name) front ≡ false
  pub room : length front + 1 < backends_max

-- Names.

both_true : (a b : Bool) → a && b ≡ true → (a ≡ true) × (b ≡ true)
both_true true b h = (refl, h)
both_true false b h = (cc)

label_byte : (byte : ℕ) → is_label_byte byte ≡ true → 33 ≤ byte
label_byte byte h = grind (arith, nat_tests)

label_bytes : (name : List ℕ) → list_all is_label_byte name ≡ true → High name
label_bytes [] h = All-nil (λ (b : ℕ). 33 ≤ b)
label_bytes (byte ∷ name) h =
    let parts = both_true (is_label_byte byte) (list_all is_label_byte name) h in
    All-cons (λ (b : ℕ). 33 ≤ b) byte name (label_byte byte parts.0) (label_bytes name parts.1)

name_clean : (name : List ℕ) → is_label name ≡ true → Clean name
name_clean name h = clean_from_high name (label_bytes name (both_true (not (length name == 0) && nat_le (length name) label_max) (list_all is_label_byte name) h).1)

name_short : (name : List ℕ) → is_label name ≡ true → length name ≤ 16
name_short name h =
    let parts = both_true (not (length name == 0) && nat_le (length name) label_max) (list_all is_label_byte name) h in
    at_most (length name) (both_true (not (length name == 0)) (nat_le (length name) label_max) parts.0).1
  where
    at_most : (n : ℕ) → nat_le n 16 ≡ true → n ≤ 16
    at_most n h = grind (arith, nat_tests)

pub other_text : (a b : List ℕ) → is_text a b ≡ false → is_text b a ≡ false
other_text a b h = unequal b a (λ same. let clash : true ≡ false = sym ((bytes_eq-Decides a b).1 (sym same)) ∙ h in cc clash)

-- none of the three
free_parts : (a b c : Bool) → a || b || c ≡ false → (a ≡ false) × (b ≡ false) × (c ≡ false)
free_parts a b c h = let parts = either_false (a || b) c h in let others = either_false a b parts.0 in (others.0, others.1, parts.1)

pub declared_parts : (trace : Traced) (name : List ℕ) → is_declared trace name ≡ false
    → (is_text name (codes "main") ≡ false) × (list_any (λ thread. is_text thread name) trace.threads ≡ false) × (list_any (λ backend. is_text backend.name name) trace.backends ≡ false)
declared_parts trace name h = free_parts (is_text name (codes "main")) (list_any (λ thread. is_text thread name) trace.threads) (list_any (λ backend. is_text backend.name name) trace.backends) h

undeclared : (a b c : Bool) → a ≡ false → b ≡ false → c ≡ false → a || b || c ≡ false
undeclared a b c h k l = ap (λ (x : Bool). x || b || c) h ∙ ap (λ (x : Bool). x || c) k ∙ l

-- Their lines.

line_lacks : (line : List ℕ) (fields : List (List ℕ)) → fields_of line ≡ fields → Each (Lacks 10) fields → Lacks 10 line
line_lacks line fields cut lack =
    subst (λ (text : List ℕ). Lacks 10 text) (sym (row_of_fields line fields cut)) (join_keeps (λ b. (b == 10) ≡ false) 32 fields refl lack)

word_lacks : (word : List ℕ) → list_all (nat_le 33) word ≡ true → Lacks 10 word
word_lacks word h = (clean_from_high word (at_least 33 word h)).1

thread_fields : (name : List ℕ) → Lacks 32 name → fields_of (thread_line name) ≡ codes "thread" ∷ name ∷ []
thread_fields name lack = ap (λ (pieces : List (List ℕ)). codes "thread" ∷ pieces) (slice_split_none (λ (byte : ℕ). byte == 32) name lack)

pub thread_line_says : (mode : Mode) (version : Version) (front : List (List ℕ)) (name : List ℕ) → ThreadStands front name
    → Says mode (with_calls version front [] []) (thread_line name) (with_calls version (front ++ name ∷ []) [] []) × Lacks 10 (thread_line name)
thread_line_says mode version front name stands =
    let clean = name_clean name stands.label in
    let small = name_short name stands.label in
    let cut = thread_fields name clean.0 in
    let long : length (thread_line name) ≡ 7 + length name = length-append (codes "thread ") name in (
      (omega arith, inr (refl, inl (name, cut, stands.label, undeclared (is_text name (codes "main")) (list_any (λ thread. is_text thread name) front) false stands.no_main stands.free refl, stands.room, refl))),
      line_lacks (thread_line name) (codes "thread" ∷ name ∷ []) cut (word_lacks (codes "thread") refl, (clean.1, tt)),
    )

kind_fields : (proxied : Bool) → fields_of (kind_word proxied) ≡ kind_word proxied ∷ []
kind_fields true = refl
kind_fields false = refl

kind_lacks : (proxied : Bool) → Lacks 10 (kind_word proxied)
kind_lacks true = word_lacks (codes "proxied") refl
kind_lacks false = word_lacks (codes "memory") refl

kind_short : (proxied : Bool) → length (kind_word proxied) ≤ 7
kind_short true = omega arith
kind_short false = omega arith

backend_fields : (backend : BackendLine) → Lacks 32 backend.name → fields_of (backend_text backend) ≡ codes "backend" ∷ backend.name ∷ kind_word backend.proxied ∷ []
backend_fields backend lack =
    ap fields_of (append_assoc (codes "backend " ++ backend.name) (codes " ") (kind_word backend.proxied) ∙ append_assoc (codes "backend ") backend.name (32 ∷ kind_word backend.proxied))
    ∙ ap (λ (pieces : List (List ℕ)). codes "backend" ∷ pieces) (slice_split_at (λ (byte : ℕ). byte == 32) backend.name 32 (kind_word backend.proxied) lack refl)
    ∙ ap (λ (pieces : List (List ℕ)). codes "backend" ∷ backend.name ∷ pieces) (kind_fields backend.proxied)

backend_short : (backend : BackendLine) → length backend.name ≤ 16 → length (backend_text backend) ≤ line_max
backend_short backend small =
    let kind = kind_short backend.proxied in
    omega (arith, length-append (codes "backend " ++ backend.name ++ codes " ") (kind_word backend.proxied), length-append (codes "backend " ++ backend.name) (codes " "), length-append (codes "backend ") backend.name)

pub backend_line_says : (mode : Mode) (version : Version) (threads : List (List ℕ)) (front : List BackendLine) (backend : BackendLine) → BackendStands mode threads front backend
    → Says mode (with_calls version threads front []) (backend_text backend) (with_calls version threads (front ++ backend ∷ []) []) × Lacks 10 (backend_text backend)
backend_line_says mode version threads front backend stands =
    let clean = name_clean backend.name stands.label in
    let cut = backend_fields backend clean.0 in (
      (
        backend_short backend (name_short backend.name stands.label),
        inr (
          refl,
          inr (inl (
            backend,
            cut,
            stands.kind,
            stands.label,
            undeclared (is_text backend.name (codes "main")) (list_any (λ thread. is_text thread backend.name) threads) (list_any (λ other. is_text other.name backend.name) front) stands.no_main stands.no_thread stands.free,
            stands.room,
            refl,
          )),
        ),
      ),
      line_lacks (backend_text backend) (codes "backend" ∷ backend.name ∷ kind_word backend.proxied ∷ []) cut (word_lacks (codes "backend") refl, (clean.1, (kind_lacks backend.proxied, tt))),
    )

-- With one thread more of another name.
pub backend_with_thread : (mode : Mode) (threads : List (List ℕ)) (thread : List ℕ) (front : List BackendLine) (backend : BackendLine) → is_text backend.name thread ≡ false
    → BackendStands mode threads front backend → BackendStands mode (threads ++ thread ∷ []) front backend
backend_with_thread mode threads thread front backend other stands =
    record {
      kind = stands.kind;
      label = stands.label;
      no_main = stands.no_main;
      no_thread = fails_more (λ t. is_text t backend.name) threads thread stands.no_thread (other_text backend.name thread other);
      free = stands.free;
      room = stands.room;
    }
