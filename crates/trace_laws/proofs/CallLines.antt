-- The line of a call: what it was read to be is printed as a line that is read so, and is no longer.
use Rattle.std.proofs.Common.{◌≡◌, ℕ, zero, suc, ◌+◌, ◌-◌, ◌<◌, ◌≤◌, ◌==◌, inr, Bool, true, false, if◌then◌else◌, List, [], ◌∷◌, ◌++◌, length, take, drop, get_or, slice_index_or, position, codes, None, Some, refl, sym, ◌∙◌, ap, subst, arith, append_assoc, take-append-drop, drop-cons, drop_of_length-le}
use Rattle.std.specs.List.{join_with_byte}
use Rattle.std.proofs.lemmas.Bool.Decides.{nat_tests}
use Rattle.std.proofs.lemmas.List.Quantifiers.{position-Some}
use Rattle.wf_core.specs.Limits.{line_max, calls_max}
use Rattle.wf_core.specs.Names.{is_text}
use Rattle.trace_text.specs.declared.trace_call.TraceCall.{TraceCall}
use Rattle.trace_text.specs.declared.trace.BackendLine.{BackendLine}
use Rattle.trace_text.specs.declared.trace.CallLine.{CallLine}
use Rattle.trace_text.specs.declared.trace.Mode.{Mode}
use Rattle.trace_text.specs.declared.version.Version.{Version}
use Rattle.trace_text.specs.Traces.{Traced, calls_of, next_call, thread_name, thread_number}
use Rattle.trace_text.specs.Fields.{fields_of, is_skipped, label_in}
use Rattle.trace_text.specs.Grammar.{Says}
use Rattle.trace_text.specs.Openings.{openings_of}
use Rattle.trace_text.specs.TraceTexts.{call_fields, call_line}
use Rattle.trace_text.specs.Words.{Form, form_of}
use Rattle.trace_text.proofs.Positions.{found_before}
use Rattle.trace_laws.proofs.Pieces.{Lacks, Each, Clean, fields_clean, split_join, join_keeps, join_shorter, row_of_fields}
use Rattle.trace_laws.proofs.Numerals.{some_is}
use Rattle.trace_laws.proofs.PrintedFields.{is_word}
use Rattle.trace_laws.proofs.Rows.{row_again}

abbrev pub label : List ℕ → List ℕ
label name = name ++ 58 ∷ []

-- the fields behind a label make the call, and their line is one that can be read
pub record Row (version : Version) (openings : List Bool) (name : List ℕ) (call : TraceCall) : Type 0 where
  pub word : List ℕ
  pub form : Form
  pub fields : List (List ℕ)
  pub fields_are : call_fields call ≡ word ∷ fields
  pub has_form : form_of version word ≡ Some form
  pub same : form openings fields ≡ Some call
  pub has_label : label_in (label name) ≡ Some name
  pub clean : Each Clean (label name ∷ word ∷ fields)
  pub short : length (join_with_byte 32 (label name ∷ word ∷ fields)) ≤ line_max
  pub no_skip : is_skipped (join_with_byte 32 (label name ∷ word ∷ fields)) ≡ false

-- what holds of a call of a trace with these threads, behind the calls before it
pub record CallStands (version : Version) (threads : List (List ℕ)) (front : List CallLine) (line : CallLine) : Type 0 where
  pub name : List ℕ
  pub name_is : thread_name threads line.thread ≡ name
  pub has_thread : position (λ thread. is_text thread name) threads ≡ Some line.thread
  pub number : line.number ≡ calls_of line.thread front + 1
  pub room : length front < calls_max
  pub row : Row version (openings_of line.thread front) name line.call

-- A label is a name and a byte 58.

label_is : (field name : List ℕ) → label_in field ≡ Some name → field ≡ label name
label_is field name e =
    elim (slice_index_or field (length field - 1) 0 == 58) as (λ b. ((slice_index_or field (length field - 1) 0 == 58) ≡ b) → (if b then Some (take (length field - 1) field) else None) ≡ Some name → field ≡ label name) [
      | true ↦ λ t h. ends_in field (take (length field - 1) field) name (is_colon _ t) refl (some_is _ name h)
      | false ↦ λ t h. (let clash : None ≡ Some name = h in cc clash)
    ] refl e
  where
    is_colon : (byte : ℕ) → (byte == 58) ≡ true → byte ≡ 58
    is_colon byte t = grind (arith, nat_tests)

    some_bytes : (field : List ℕ) → get_or field (length field - 1) 0 ≡ 58 → 0 < length field
    some_bytes [] e = absurd (omega arith)
    some_bytes (byte ∷ field) e = omega arith

    ends_in : (field front name : List ℕ) → get_or field (length field - 1) 0 ≡ 58 → front ≡ take (length field - 1) field → front ≡ name → field ≡ name ++ 58 ∷ []
    ends_in field front name last cut same =
        let long = some_bytes field last in
        let past : drop (suc (length field - 1)) field ≡ [] = drop_of_length-le field {i = suc (length field - 1)} (omega arith) in
        sym (take-append-drop (length field - 1) field)
        ∙ ap (λ (rest : List ℕ). take (length field - 1) field ++ rest) (drop-cons field (length field - 1) 0 (omega arith))
        ∙ ap (λ (byte : ℕ). take (length field - 1) field ++ byte ∷ drop (suc (length field - 1)) field) last
        ∙ ap (λ (rest : List ℕ). take (length field - 1) field ++ 58 ∷ rest) past
        ∙ ap (λ (text : List ℕ). text ++ 58 ∷ []) (sym cut ∙ same)

-- The first byte of a line is that of its label.

no_skip_by_label : (name : List ℕ) (texts others : List (List ℕ)) → is_skipped (join_with_byte 32 (label name ∷ texts)) ≡ false → is_skipped (join_with_byte 32 (label name ∷ others)) ≡ false
no_skip_by_label name texts others h = first_byte (label name) others (some_byte name) (sym (first_of (label name) texts (some_byte name)) ∙ h)
  where
    some_byte : (name : List ℕ) → (byte : ℕ) × (rest : List ℕ) × (label name ≡ byte ∷ rest)
    some_byte [] = (58, [], refl)
    some_byte (byte ∷ name) = (byte, name ++ 58 ∷ [], refl)

    first_of : (text : List ℕ) (texts : List (List ℕ)) → (some : (byte : ℕ) × (rest : List ℕ) × (text ≡ byte ∷ rest)) → is_skipped (join_with_byte 32 (text ∷ texts)) ≡ (some.0 == 35)
    first_of text [] some = ap is_skipped some.2
    first_of text (next ∷ texts) some = ap (λ (t : List ℕ). is_skipped (t ++ 32 ∷ join_with_byte 32 (next ∷ texts))) some.2

    first_byte : (text : List ℕ) (texts : List (List ℕ)) → (some : (byte : ℕ) × (rest : List ℕ) × (text ≡ byte ∷ rest)) → (some.0 == 35) ≡ false → is_skipped (join_with_byte 32 (text ∷ texts)) ≡ false
    first_byte text texts some e = first_of text texts some ∙ e

-- what the line was read to be
row_of_line : (version : Version) (openings : List Bool) (line first name word : List ℕ) (fields : List (List ℕ)) (form : Form) (call : TraceCall) → Lacks 10 line → length line ≤ line_max → is_skipped line ≡ false
    → fields_of line ≡ first ∷ word ∷ fields → label_in first ≡ Some name → form_of version word ≡ Some form → form openings fields ≡ Some call → Row version openings name call
row_of_line version openings line first name word fields form call lack short s f l w c =
    let labels = label_is first name l in
    let cut : fields_of line ≡ label name ∷ word ∷ fields = f ∙ ap (λ (text : List ℕ). text ∷ word ∷ fields) labels in
    let clean = subst (λ (texts : List (List ℕ)). Each Clean texts) cut (fields_clean line lack) in
    let again = row_again version word form w openings fields call clean.1.1 c in
    let row = row_of_fields line (label name ∷ word ∷ fields) cut in
    record {
      word = word;
      form = form;
      fields = again.texts;
      fields_are = again.fields_are;
      has_form = w;
      same = again.same;
      has_label = ap label_in (sym labels) ∙ l;
      clean = (clean.0, (clean.1.0, again.clean));
      short = no_longer (join_with_byte 32 (label name ∷ word ∷ again.texts)) (join_with_byte 32 (label name ∷ word ∷ fields)) line
          (join_shorter 32 (label name ∷ word ∷ again.texts) (label name ∷ word ∷ fields) (omega arith, (omega arith, again.short))) (sym row) short;
      no_skip = no_skip_by_label name (word ∷ fields) (word ∷ again.texts) (ap is_skipped (sym row) ∙ s);
    }
  where
    no_longer : (new old line : List ℕ) → length new ≤ length old → old ≡ line → length line ≤ line_max → length new ≤ line_max
    no_longer new old line h e k = let same = ap length e in omega arith

name_at : (threads : List (List ℕ)) (thread : ℕ) → thread_name threads thread ≡ get_or threads thread []
name_at [] thread = refl
name_at (name ∷ threads) zero = refl
name_at (name ∷ threads) (suc thread) = name_at threads thread

name_by : (threads : List (List ℕ)) (name : List ℕ) (thread : ℕ) → position (λ other. is_text other name) threads ≡ Some thread → thread_name threads thread ≡ name
name_by threads name thread e = name_at threads thread ∙ is_word (get_or threads thread []) name (position-Some (λ other. is_text other name) threads thread [] e).1

-- the new call stands behind those before it
pub call_stands : (before : Traced) (line first name word : List ℕ) (fields : List (List ℕ)) (thread : ℕ) (form : Form) (call : TraceCall) → Lacks 10 line → length line ≤ line_max → is_skipped line ≡ false
    → fields_of line ≡ first ∷ word ∷ fields → label_in first ≡ Some name → thread_number before name ≡ Some thread → form_of before.version word ≡ Some form → form (openings_of thread before.calls) fields ≡ Some call
    → length before.calls < calls_max → CallStands before.version before.threads before.calls (next_call before thread call)
call_stands before line first name word fields thread form call lack short s f l t w c room =
    record {
      name = name;
      name_is = name_by before.threads name thread t;
      has_thread = t;
      number = refl;
      room = room;
      row = row_of_line before.version (openings_of thread before.calls) line first name word fields form call lack short s f l w c;
    }

-- and stands with one thread more
pub stands_with_thread : (version : Version) (threads : List (List ℕ)) (thread : List ℕ) (front : List CallLine) (line : CallLine) → CallStands version threads front line → CallStands version (threads ++ thread ∷ []) front line
stands_with_thread version threads thread front line stands =
    let has_thread = found_before (λ other. is_text other stands.name) threads thread line.thread stands.has_thread in
    record { name = stands.name; name_is = name_by (threads ++ thread ∷ []) stands.name line.thread has_thread; has_thread = has_thread; number = stands.number; room = stands.room; row = stands.row }

-- The printed line.

line_is : (version : Version) (threads : List (List ℕ)) (front : List CallLine) (line : CallLine) (stands : CallStands version threads front line) → call_line threads line ≡ join_with_byte 32 (label stands.name ∷ stands.row.word ∷ stands.row.fields)
line_is version threads front line stands =
    ap (λ (name : List ℕ). (name ++ codes ": ") ++ join_with_byte 32 (call_fields line.call)) stands.name_is
    ∙ ap (λ (fields : List (List ℕ)). (stands.name ++ codes ": ") ++ join_with_byte 32 fields) stands.row.fields_are
    ∙ append_assoc stands.name (codes ": ") (join_with_byte 32 (stands.row.word ∷ stands.row.fields))
    ∙ sym (append_assoc stands.name (58 ∷ []) (32 ∷ join_with_byte 32 (stands.row.word ∷ stands.row.fields)))

each_lacks : (texts : List (List ℕ)) → Each Clean texts → Each (Lacks 32) texts × Each (Lacks 10) texts
each_lacks [] clean = (tt, tt)
each_lacks (text ∷ texts) clean = let rest = each_lacks texts clean.1 in ((clean.0.0, rest.0), (clean.0.1, rest.1))

abbrev pub with_calls : Version → List (List ℕ) → List BackendLine → List CallLine → Traced
with_calls version threads backends calls = record { version = version; threads = threads; backends = backends; calls = calls }

same_number : (line : CallLine) (number : ℕ) → line.number ≡ number → line ≡ record { thread = line.thread; number = number; call = line.call }
same_number line number e = ap (λ (n : ℕ). record { thread = line.thread; number = n; call = line.call }) e

pub call_line_says : (mode : Mode) (version : Version) (threads : List (List ℕ)) (backends : List BackendLine) (front : List CallLine) (line : CallLine) → CallStands version threads front line
    → Says mode (with_calls version threads backends front) (call_line threads line) (with_calls version threads backends (front ++ line ∷ [])) × Lacks 10 (call_line threads line)
call_line_says mode version threads backends front line stands =
    let row = stands.row in
    let lacks = each_lacks (label stands.name ∷ row.word ∷ row.fields) row.clean in
    subst (λ (text : List ℕ). Says mode (with_calls version threads backends front) text (with_calls version threads backends (front ++ line ∷ [])) × Lacks 10 text) (sym (line_is version threads front line stands)) (
      (
        row.short,
        inr (
          row.no_skip,
          inr (inr (
            label stands.name,
            row.word,
            row.fields,
            split_join 32 (label stands.name) (row.word ∷ row.fields) lacks.0,
            stands.name,
            row.has_label,
            line.thread,
            stands.has_thread,
            row.form,
            row.has_form,
            line.call,
            row.same,
            stands.room,
            ap (λ (last : CallLine). with_calls version threads backends (front ++ last ∷ [])) (same_number line (calls_of line.thread front + 1) stands.number),
          )),
        ),
      ),
      join_keeps (λ b. (b == 10) ≡ false) 32 (label stands.name ∷ row.word ∷ row.fields) refl lacks.1,
    )
