-- The backends of a trace can be mounted under their names.
use Rattle.std.proofs.Common.{◌≡◌, ℕ, ◌+◌, ◌==◌, ◌<◌, inl, inr, not, nat_le, Bool, true, false, ◌&&◌, List, [], ◌∷◌, ◌++◌, length, length-append, None, refl, sym, subst, arith, codes}
use Rattle.std.specs.List.{list_all}
use Rattle.std.proofs.lemmas.Bool.Decides.{nat_tests}
use Rattle.wf_core.specs.Limits.{backends_max, name_max}
use Rattle.wf_core.specs.Names.{is_name, is_name_byte, is_dot, is_dot_dot, is_filename, is_text}
use Rattle.trace_text.specs.declared.trace.BackendLine.{BackendLine}
use Rattle.trace_text.specs.declared.trace.Mode.{Mode}
use Rattle.trace_text.specs.Traces.{Traced, nothing}
use Rattle.trace_text.specs.Fields.{is_label, is_label_byte, label_max}
use Rattle.trace_text.specs.Grammar.{Says, SayAll, Reads}
use Rattle.trace_text.specs.Faults.{first_fault}
use Rattle.trace_text.specs.Reading.{trace_at}
use Rattle.trace_text.proofs.TextFields.{both}
use Rattle.trace_text.proofs.Whole.{read_or_refused}
use Rattle.run_engine.specs.RunStores.{AreMountable}

name_byte : (byte : ℕ) → is_label_byte byte ≡ true → is_name_byte byte ≡ true
name_byte byte h = grind (arith, nat_tests, h)

not_dot : (byte : ℕ) → is_label_byte byte ≡ true → (byte == 46) ≡ false
not_dot byte h = grind (arith, nat_tests, h)

and : (a b : Bool) → a ≡ true → b ≡ true → a && b ≡ true
and a b h k = cc

not_both : (a b : Bool) → a ≡ false → a && b ≡ false
not_both a b h = cc

name_bytes : (field : List ℕ) → list_all is_label_byte field ≡ true → list_all is_name_byte field ≡ true
name_bytes [] h = refl
name_bytes (byte ∷ field) h =
    let parts = both (is_label_byte byte) (list_all is_label_byte field) h in
    and (is_name_byte byte) (list_all is_name_byte field) (name_byte byte parts.0) (name_bytes field parts.1)

filename : (field : List ℕ) → not (length field == 0) ≡ true → list_all is_label_byte field ≡ true → is_filename field ≡ true
filename [] some h = cc
filename (byte ∷ field) some h =
    let first : (byte == 46) ≡ false = not_dot byte (both (is_label_byte byte) (list_all is_label_byte field) h).0 in
    let dot : is_dot (byte ∷ field) ≡ false = not_both (byte == 46) (is_text field []) first in
    let dots : is_dot_dot (byte ∷ field) ≡ false = not_both (byte == 46) (is_text field (codes ".")) first in
    let all = name_bytes (byte ∷ field) h in
    cc

-- a label is a name
label_is_name : (field : List ℕ) → is_label field ≡ true → is_name field ≡ true
label_is_name field h =
    let (front, bytes) = both (not (length field == 0) && nat_le (length field) label_max) (list_all is_label_byte field) h in
    let (some, few) = both (not (length field == 0)) (nat_le (length field) label_max) front in
    let small : nat_le (length field) name_max ≡ true = grind (arith, nat_tests, few) in
    and (nat_le (length field) name_max) (is_filename field) small (filename field some bytes)

all_named : (lines : List BackendLine) (line : BackendLine) → list_all (λ (l : BackendLine). is_name l.name) lines ≡ true → is_name line.name ≡ true → list_all (λ (l : BackendLine). is_name l.name) (lines ++ line ∷ []) ≡ true
all_named [] line h named = and (is_name line.name) true named refl
all_named (first ∷ lines) line h named =
    let parts = both (is_name first.name) (list_all (λ (l : BackendLine). is_name l.name) lines) h in
    and (is_name first.name) _ parts.0 (all_named lines line parts.1 named)

one_more : (lines : List BackendLine) (line : BackendLine) → AreMountable lines → length lines + 1 < backends_max → is_label line.name ≡ true → AreMountable (lines ++ line ∷ [])
one_more lines line are few label =
    let more : length (lines ++ line ∷ []) ≡ length lines + 1 = length-append lines (line ∷ []) in
    record {
      few = omega (arith, more, few);
      names = all_named lines line are.names (label_is_name line.name label);
    }

line_keeps : (mode : Mode) (before : Traced) (line : List ℕ) (after : Traced) → AreMountable before.backends → Says mode before line after → AreMountable after.backends
line_keeps mode before line after are (short, inl (skipped, is)) = subst (λ (t : Traced). AreMountable t.backends) (sym is) are
line_keeps mode before line after are (short, inr (not_skipped, inl (name, fields, label, new, few, is))) = subst (λ (t : Traced). AreMountable t.backends) (sym is) are
line_keeps mode before line after are (short, inr (not_skipped, inr (inl (backend, fields, kind, label, new, few, is)))) =
    subst (λ (t : Traced). AreMountable t.backends) (sym is) (one_more before.backends backend are few label)
line_keeps mode before line after are (short, inr (not_skipped, inr (inr call))) =
    let (label, word, fields, are_fields, name, is_label, thread, is_thread, form, is_form, made, is_made, few, is) = call in
    subst (λ (t : Traced). AreMountable t.backends) (sym is) are

lines_keep : (mode : Mode) (before : Traced) (lines : List (List ℕ)) (after : Traced) → AreMountable before.backends → SayAll mode before lines after → AreMountable after.backends
lines_keep mode before [] after are is = subst (λ (t : Traced). AreMountable t.backends) (sym is) are
lines_keep mode before (line ∷ lines) after are (between, says, rest) = lines_keep mode between lines after (line_keeps mode before line between are says) rest

none_mountable : AreMountable []
none_mountable = record { few = omega arith; names = refl }

pub mountable : (bytes : List ℕ) (mode : Mode) (trace : Traced) → Reads bytes mode trace → AreMountable trace.backends
mountable bytes mode trace (version, lines, are, say) = lines_keep mode (nothing version) lines trace none_mountable say

-- bytes that are a trace have no faulty line
pub no_fault : (bytes : List ℕ) (mode : Mode) (trace : Traced) → Reads bytes mode trace → first_fault bytes mode ≡ None
no_fault bytes mode trace reads =
    elim (read_or_refused bytes mode (trace_at mode bytes) refl) [
      | inl (other, is, none) ↦ none
      | inr (refusal, is, not_read) ↦ absurd (not_read trace reads)
    ]
