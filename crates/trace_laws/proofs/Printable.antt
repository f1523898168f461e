-- A trace that was read is one whose printed lines say it.
use Rattle.std.proofs.Common.{◌≡◌, ℕ, inl, inr, false, List, [], ◌∷◌, ◌++◌, map, refl, sym, ◌∙◌, ap, subst, append_assoc}
use Rattle.std.specs.List.{flat_map}
use Rattle.std.proofs.lemmas.Grind.{flat_map-append}
use Rattle.wf_core.specs.Names.{is_text}
use Rattle.trace_text.specs.declared.trace.BackendLine.{BackendLine}
use Rattle.trace_text.specs.declared.trace.CallLine.{CallLine}
use Rattle.trace_text.specs.declared.trace.Mode.{Mode}
use Rattle.trace_text.specs.declared.trace.Mode.TheVariants.{Plain}
use Rattle.trace_text.specs.declared.version.Version.{Version}
use Rattle.trace_text.specs.declared.version.Version.TheVariants as number
use Rattle.trace_text.specs.Versions.{header}
use Rattle.trace_text.specs.Traces.{Traced, nothing}
use Rattle.trace_text.specs.Fields.{pieces_of}
use Rattle.trace_text.specs.Grammar.{Says, SayAll, Reads}
use Rattle.trace_text.specs.TraceTexts.{thread_line, backend_text, call_line, ended, text_of_trace}
use Rattle.trace_text.proofs.Whole.{reads_one}
use Rattle.trace_laws.proofs.Pieces.{Lacks, Each, pieces_lack, each_front, each_append, lines_again}
use Rattle.trace_laws.proofs.Builds.{Builds, builds_more, builds_change, builds_fail, builds_say, say_append}
use Rattle.trace_laws.proofs.CallLines.{CallStands, call_stands, stands_with_thread, with_calls, call_line_says}
use Rattle.trace_laws.proofs.Declarations.{ThreadStands, BackendStands, declared_parts, thread_line_says, backend_line_says, backend_with_thread}

-- each line that is printed of the trace can be read, behind those before it
pub record IsPrintable (mode : Mode) (trace : Traced) : Type 0 where
  pub threads : Builds ThreadStands [] trace.threads
  pub backends : Builds (BackendStands mode trace.threads) [] trace.backends
  pub calls : Builds (CallStands trace.version trace.threads) [] trace.calls

-- What a line says keeps it so.
says_printable : (mode : Mode) (before : Traced) (line : List ℕ) (after : Traced) → Lacks 10 line → IsPrintable mode before → Says mode before line after → IsPrintable mode after
says_printable mode before line after lack printable (short, inl (s, e)) = subst (IsPrintable mode) (sym e) printable
says_printable mode before line after lack printable (short, inr (s, inl (name, f, label, free, room, e))) =
    let parts = declared_parts before name free in
    subst (IsPrintable mode) (sym e) (record {
      threads = builds_more ThreadStands [] before.threads name printable.threads (record { label = label; no_main = parts.0; free = parts.1; room = room });
      backends = builds_change (λ front backend. BackendStands mode before.threads front backend × (is_text backend.name name ≡ false)) (BackendStands mode (before.threads ++ name ∷ [])) [] before.backends
          (λ front backend h. backend_with_thread mode before.threads name front backend h.1 h.0)
          (builds_fail (BackendStands mode before.threads) (λ backend. is_text backend.name name) [] before.backends parts.2 printable.backends);
      calls = builds_change (CallStands before.version before.threads) (CallStands before.version (before.threads ++ name ∷ [])) [] before.calls (λ front call h. stands_with_thread before.version before.threads name front call h) printable.calls;
    })
says_printable mode before line after lack printable (short, inr (s, inr (inl (backend, f, kind, label, free, room, e)))) =
    let parts = declared_parts before backend.name free in
    subst (IsPrintable mode) (sym e) (record {
      threads = printable.threads;
      backends = builds_more (BackendStands mode before.threads) [] before.backends backend printable.backends
          (record { kind = kind; label = label; no_main = parts.0; no_thread = parts.1; free = parts.2; room = room });
      calls = printable.calls;
    })
says_printable mode before line after lack printable (short, inr (s, inr (inr (first, word, fields, f, name, l, thread, t, form, w, call, c, room, e)))) =
    subst (IsPrintable mode) (sym e) (record {
      threads = printable.threads;
      backends = printable.backends;
      calls = builds_more (CallStands before.version before.threads) [] before.calls _ printable.calls (call_stands before line first name word fields thread form call lack short s f l t w c room);
    })

all_printable : (mode : Mode) (before : Traced) (lines : List (List ℕ)) (after : Traced) → Each (Lacks 10) lines → IsPrintable mode before → SayAll mode before lines after → IsPrintable mode after
all_printable mode before [] after lack printable e = subst (IsPrintable mode) (sym e) printable
all_printable mode before (line ∷ lines) after lack printable (between, says, rest) =
    all_printable mode between lines after lack.1 (says_printable mode before line between lack.0 printable says) rest

read_printable : (bytes : List ℕ) (mode : Mode) (trace : Traced) → Reads bytes mode trace → IsPrintable mode trace
read_printable bytes mode trace (version, lines, cut, says) =
    let lack = each_front (Lacks 10) (header version ∷ lines) ([] ∷ []) (subst (λ (pieces : List (List ℕ)). Each (Lacks 10) pieces) cut (pieces_lack 10 bytes)) in
    all_printable mode (nothing version) lines trace lack.1 (record { threads = tt; backends = tt; calls = tt }) says

-- The printed lines.

abbrev lines_of : Traced → List (List ℕ)
lines_of trace = map thread_line trace.threads ++ map backend_text trace.backends ++ map (call_line trace.threads) trace.calls

flat_map_of : {X : Type 0} (line : X → List ℕ) (xs : List X) → flat_map (λ x. ended (line x)) xs ≡ flat_map ended (map line xs)
flat_map_of line [] = refl
flat_map_of line (x ∷ xs) = ap (λ (rest : List ℕ). ended (line x) ++ rest) (flat_map_of line xs)

text_lines : (trace : Traced) → text_of_trace trace ≡ flat_map ended (header trace.version ∷ lines_of trace)
text_lines trace =
    let threads = map thread_line trace.threads in
    let backends = map backend_text trace.backends in
    let calls = map (call_line trace.threads) trace.calls in
    joins (ended (header trace.version)) (ended (header trace.version)) _ (flat_map ended threads) _ (flat_map ended backends) _ (flat_map ended calls)
    refl
    (flat_map_of thread_line trace.threads) (flat_map_of backend_text trace.backends) (flat_map_of (call_line trace.threads) trace.calls)
    ∙ ap (λ (text : List ℕ). ended (header trace.version) ++ text) (ap (λ (text : List ℕ). text ++ flat_map ended calls) (sym (flat_map-append ended threads backends)) ∙ sym (flat_map-append ended (threads ++ backends) calls))
  where
    regroup : (a b c d : List ℕ) → a ++ b ++ c ++ d ≡ a ++ (b ++ c ++ d)
    regroup a b c d = append_assoc (a ++ b) c d ∙ append_assoc a b (c ++ d) ∙ ap (λ (t : List ℕ). a ++ t) (sym (append_assoc b c d))

    joins : (a x b y c z d w : List ℕ) → a ≡ x → b ≡ y → c ≡ z → d ≡ w → a ++ b ++ c ++ d ≡ x ++ (y ++ z ++ w)
    joins a x b y c z d w e f g h = regroup a b c d ∙ (cc)

lines_say : (mode : Mode) (version : Version) (threads : List (List ℕ)) (backends : List BackendLine) (calls : List CallLine)
    → Builds ThreadStands [] threads → Builds (BackendStands mode threads) [] backends → Builds (CallStands version threads) [] calls
    → SayAll mode (nothing version) (lines_of (with_calls version threads backends calls)) (with_calls version threads backends calls) × Each (Lacks 10) (lines_of (with_calls version threads backends calls))
lines_say mode version threads backends calls t b c =
    let first = builds_say ThreadStands mode (λ front. with_calls version front [] []) thread_line [] threads (thread_line_says mode version) t in
    let second = builds_say (BackendStands mode threads) mode (λ front. with_calls version threads front []) backend_text [] backends (backend_line_says mode version threads) b in
    let third = builds_say (CallStands version threads) mode (λ front. with_calls version threads backends front) (call_line threads) [] calls (call_line_says mode version threads backends) c in (
      say_append mode (nothing version) (with_calls version threads backends []) (with_calls version threads backends calls) (map thread_line threads ++ map backend_text backends) (map (call_line threads) calls)
          (say_append mode (nothing version) (with_calls version threads [] []) (with_calls version threads backends []) (map thread_line threads) (map backend_text backends) first.0 second.0) third.0,
      each_append (Lacks 10) (map thread_line threads ++ map backend_text backends) (map (call_line threads) calls)
          (each_append (Lacks 10) (map thread_line threads) (map backend_text backends) first.1 second.1) third.1,
    )

printable_reads : (mode : Mode) (trace : Traced) → IsPrintable mode trace → Reads (text_of_trace trace) mode trace
printable_reads mode trace printable =
    let lines = lines_say mode trace.version trace.threads trace.backends trace.calls printable.threads printable.backends printable.calls in (
      trace.version,
      lines_of trace,
      ap pieces_of (text_lines trace) ∙ lines_again (header trace.version ∷ lines_of trace) (header_lacks trace.version, lines.1),
      lines.0,
    )
  where
    header_lacks : (version : Version) → Lacks 10 (header version)
    header_lacks number.One = (pieces_lack 10 (header number.One)).0
    header_lacks number.Two = (pieces_lack 10 (header number.Two)).0

pub printed_reads : (mode : Mode) (bytes : List ℕ) (trace : Traced) → Reads bytes mode trace → Reads (text_of_trace trace) mode trace
printed_reads mode bytes trace reads = printable_reads mode trace (read_printable bytes mode trace reads)

-- What a mode says is said in the plain one, which has every kind of backend.

in_plain : (mode : Mode) (before : Traced) (line : List ℕ) (after : Traced) → Says mode before line after → Says Plain before line after
in_plain mode before line after (short, inl skips) = (short, inl skips)
in_plain mode before line after (short, inr (s, inl thread)) = (short, inr (s, inl thread))
in_plain mode before line after (short, inr (s, inr (inl (backend, f, kind, label, free, room, e)))) = (short, inr (s, inr (inl (backend, f, refl, label, free, room, e))))
in_plain mode before line after (short, inr (s, inr (inr call))) = (short, inr (s, inr (inr call)))

all_in_plain : (mode : Mode) (before : Traced) (lines : List (List ℕ)) (after : Traced) → SayAll mode before lines after → SayAll Plain before lines after
all_in_plain mode before [] after e = e
all_in_plain mode before (line ∷ lines) after (between, says, rest) = (between, in_plain mode before line between says, all_in_plain mode between lines after rest)

reads_in_plain : (bytes : List ℕ) (mode : Mode) (trace : Traced) → Reads bytes mode trace → Reads bytes Plain trace
reads_in_plain bytes mode trace (version, lines, cut, says) = (version, lines, cut, all_in_plain mode (nothing version) lines trace says)

pub one_trace : (mode other_mode : Mode) (bytes other_bytes : List ℕ) (trace other : Traced) → Reads bytes mode trace → Reads other_bytes other_mode other → text_of_trace trace ≡ text_of_trace other → trace ≡ other
one_trace mode other_mode bytes other_bytes trace other reads others same =
    let first = reads_in_plain (text_of_trace trace) mode trace (printed_reads mode bytes trace reads) in
    let second = reads_in_plain (text_of_trace other) other_mode other (printed_reads other_mode other_bytes other others) in
    reads_one (text_of_trace other) Plain trace other (subst (λ (text : List ℕ). Reads text Plain trace) same first) second
