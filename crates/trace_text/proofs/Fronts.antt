-- The first lines of a text: the bytes of lines have those lines, and the first faulty one is the last of a front.
use Rattle.std.proofs.Common.{◌≡◌, ◌≢◌, ℕ, zero, suc, ◌+◌, ◌-◌, ◌==◌, ◌⊎◌, inl, inr, if◌then◌else◌, cond, Bool, true, false, List, [], ◌∷◌, ◌++◌, length, take, Option, None, Some, refl, sym, ◌∙◌, ap, arith, append_assoc, append-nil}
use Rattle.std.specs.List.{All, onto_first}
use Rattle.std.proofs.lemmas.List.Elements.{All-nil, All-cons}
use Rattle.std.proofs.lemmas.List.Splits.{slice_split_at, slice_split_none}
use Rattle.trace_text.specs.declared.refusal.Fault.{Fault}
use Rattle.trace_text.specs.declared.refusal.Refusal.{Refusal}
use Rattle.trace_text.specs.declared.trace.Mode.{Mode}
use Rattle.trace_text.specs.declared.version.Version.{Version}
use Rattle.trace_text.specs.Versions.{version_in}
use Rattle.trace_text.specs.Fields.{pieces_of}
use Rattle.trace_text.specs.Reading.{trace_at}
use Rattle.trace_text.specs.Refusals.{refusal_at}
use Rattle.trace_text.specs.Faults.{Line, line_of, lines_from, lines_of, first_fault_of, line_conditions, header_conditions, first_of, fault_behind, fault_behind_header, fault_in, first_fault}
use Rattle.trace_text.specs.Laws.{IsRead, line_bytes, text_of, front_of}
use Rattle.trace_text.proofs.Cuts.{first_piece}
use Rattle.trace_text.proofs.Whole.{read_or_refused}

-- Lines that a text can have: no byte 10 in them, and one behind each but for the last, which then has a byte.

abbrev pub Lacks : List ℕ → Type 0
Lacks text = All (λ byte. (byte == 10) ≡ false) text

abbrev pub AllLack : List (List ℕ) → Type 0
AllLack [] = Unit {0}
AllLack (piece ∷ pieces) = Lacks piece × AllLack pieces

abbrev pub AreLines : List Line → Type 0
AreLines [] = Unit {0}
AreLines (line ∷ []) = Lacks line.text × ((line.ended ≡ true) ⊎ ((line.ended ≡ false) × ((length line.text == 0) ≡ false)))
AreLines (line ∷ next ∷ lines) = Lacks line.text × (line.ended ≡ true) × AreLines (next ∷ lines)

onto_lacks : (byte : ℕ) (pieces : List (List ℕ)) → (byte == 10) ≡ false → AllLack pieces → AllLack (onto_first byte pieces)
onto_lacks byte [] h lack = (All-cons (λ (b : ℕ). (b == 10) ≡ false) byte [] h (All-nil (λ (b : ℕ). (b == 10) ≡ false)), tt)
onto_lacks byte (piece ∷ pieces) h lack = (All-cons (λ (b : ℕ). (b == 10) ≡ false) byte piece h lack.0, lack.1)

pieces_lack : (text : List ℕ) → AllLack (pieces_of text)
pieces_lack [] = (All-nil (λ (b : ℕ). (b == 10) ≡ false), tt)
pieces_lack (byte ∷ text) =
    elim (byte == 10) as (λ b. ((byte == 10) ≡ b) → AllLack (cond b ([] ∷ pieces_of text) (onto_first byte (pieces_of text)))) [
      | true ↦ λ h. (All-nil (λ (b : ℕ). (b == 10) ≡ false), pieces_lack text)
      | false ↦ λ h. onto_lacks byte (pieces_of text) h (pieces_lack text)
    ] refl

ended_line : (text : List ℕ) (lines : List Line) → Lacks text → AreLines lines → AreLines (line_of text true ∷ lines)
ended_line text [] lack are = (lack, inl refl)
ended_line text (next ∷ lines) lack are = (lack, refl, are)

from_pieces : (pieces : List (List ℕ)) → AllLack pieces → AreLines (lines_from pieces)
from_pieces [] lack = tt
from_pieces (rest ∷ []) lack =
    elim (length rest == 0) as (λ b. ((length rest == 0) ≡ b) → AreLines (if b then [] else line_of rest false ∷ [])) [
      | true ↦ λ h. tt
      | false ↦ λ h. (lack.0, inr (refl, h))
    ] refl
from_pieces (text ∷ next ∷ pieces) lack = ended_line text (lines_from (next ∷ pieces)) lack.0 (from_pieces (next ∷ pieces) lack.1)

take_lines : (count : ℕ) (lines : List Line) → AreLines lines → AreLines (take count lines)
take_lines zero lines are = tt
take_lines (suc count) [] are = tt
take_lines (suc zero) (line ∷ []) are = are
take_lines (suc (suc count)) (line ∷ []) are = are
take_lines (suc zero) (line ∷ next ∷ lines) are = (are.0, inl are.1)
take_lines (suc (suc count)) (line ∷ next ∷ lines) are = (are.0, are.1, take_lines (suc count) (next ∷ lines) are.2)

-- The lines of the bytes of lines are those lines.

line_first : (text rest : List ℕ) → Lacks text → lines_of (text ++ 10 ∷ rest) ≡ line_of text true ∷ lines_of rest
line_first text rest lack =
    let behind = first_piece (λ byte. byte == 10) rest in
    ap lines_from (slice_split_at (λ (byte : ℕ). byte == 10) text 10 rest lack refl ∙ ap (λ (pieces : List (List ℕ)). text ∷ pieces) behind.2)
    ∙ ap (λ (pieces : List (List ℕ)). line_of text true ∷ lines_from pieces) (sym behind.2)

ended_first : (line : Line) (rest : List ℕ) → Lacks line.text → line.ended ≡ true → lines_of (line_bytes line ++ rest) ≡ line ∷ lines_of rest
ended_first line rest lack ended =
    ap (λ (b : Bool). lines_of ((line.text ++ (if b then 10 ∷ [] else [])) ++ rest)) ended
    ∙ ap lines_of (append_assoc line.text (10 ∷ []) rest) ∙ line_first line.text rest lack ∙ ap (λ (b : Bool). line_of line.text b ∷ lines_of rest) (sym ended)

unended_last : (line : Line) → Lacks line.text → line.ended ≡ false → (length line.text == 0) ≡ false → lines_of (line_bytes line ++ []) ≡ line ∷ []
unended_last line lack ended some =
    ap lines_of (append-nil (line_bytes line)) ∙ ap (λ (b : Bool). lines_of (line.text ++ (if b then 10 ∷ [] else []))) ended ∙ ap lines_of (append-nil line.text)
    ∙ ap lines_from (slice_split_none (λ (byte : ℕ). byte == 10) line.text lack)
    ∙ ap (λ (b : Bool). if b then [] else line_of line.text false ∷ []) some ∙ ap (λ (b : Bool). line_of line.text b ∷ []) (sym ended)

pub lines_again : (lines : List Line) → AreLines lines → lines_of (text_of lines) ≡ lines
lines_again [] are = refl
lines_again (line ∷ []) (lack, inl ended) = ended_first line [] lack ended
lines_again (line ∷ []) (lack, inr (ended, some)) = unended_last line lack ended some
lines_again (line ∷ next ∷ lines) (lack, ended, are) =
    ended_first line (text_of (next ∷ lines)) lack ended ∙ ap (λ (more : List Line). line ∷ more) (lines_again (next ∷ lines) are)

pub front_lines : (count : ℕ) (bytes : List ℕ) → lines_of (front_of count bytes) ≡ take count (lines_of bytes)
front_lines count bytes = lines_again (take count (lines_of bytes)) (take_lines count (lines_of bytes) (from_pieces (pieces_of bytes) (pieces_lack bytes)))

-- The first faulty line is the last of a front.

abbrev pub Fronts : Mode → Version → ℕ → List (List ℕ) → List Line → Refusal → Type 0
Fronts mode version number before lines refusal =
    (k : ℕ) × (refusal.line ≡ number + k) × (fault_behind mode version number before (take k lines) ≡ None) × (fault_behind mode version number before (take (suc k) lines) ≡ Some refusal)

some_is : {A : Type 0} (x y : A) → Some x ≡ Some y → x ≡ y
some_is x y e = (cc)

here : (mode : Mode) (version : Version) (number : ℕ) (before : List (List ℕ)) (line : Line) (lines : List Line) (refusal : Refusal) (met : Option Fault) → first_fault_of (line_conditions mode version before line) ≡ met
    → first_of number met (fault_behind mode version (number + 1) (before ++ line.text ∷ []) lines) ≡ Some refusal
    → (fault_behind mode version (number + 1) (before ++ line.text ∷ []) lines ≡ Some refusal → Fronts mode version (number + 1) (before ++ line.text ∷ []) lines refusal)
    → Fronts mode version number before (line ∷ lines) refusal
here mode version number before line lines refusal None m e more =
    let rest = more e in (
      suc rest.0,
      rest.1 ∙ next_number number rest.0,
      ap (λ (met : Option Fault). first_of number met (fault_behind mode version (number + 1) (before ++ line.text ∷ []) (take rest.0 lines))) m ∙ rest.2,
      ap (λ (met : Option Fault). first_of number met (fault_behind mode version (number + 1) (before ++ line.text ∷ []) (take (suc rest.0) lines))) m ∙ rest.3,
    )
  where
    next_number : (n k : ℕ) → (n + 1) + k ≡ n + suc k
    next_number n k = omega arith
here mode version number before line lines refusal (Some fault) m e more = (
  0,
  sym (ap (λ (r : Refusal). r.line) (some_is (refusal_at number fault) refusal e)) ∙ none_more number,
  refl,
  ap (λ (met : Option Fault). first_of number met None) m ∙ e,
)
  where
    none_more : (n : ℕ) → n ≡ n + 0
    none_more n = omega arith

fronts : (mode : Mode) (version : Version) (number : ℕ) (before : List (List ℕ)) (lines : List Line) (refusal : Refusal) → fault_behind mode version number before lines ≡ Some refusal → Fronts mode version number before lines refusal
fronts mode version number before [] refusal e = (let clash : None ≡ Some refusal = e in cc clash)
fronts mode version number before (line ∷ lines) refusal e =
    here mode version number before line lines refusal (first_fault_of (line_conditions mode version before line)) refl e
    (fronts mode version (number + 1) (before ++ line.text ∷ []) lines refusal)

-- with line 1

behind_header : (mode : Mode) (line : Line) (lines : List Line) (refusal : Refusal) (met : Option Fault) (told : Option Version) → first_fault_of (header_conditions line) ≡ met → version_in line.text ≡ told
    → first_of 1 met (fault_behind_header mode told lines) ≡ Some refusal
    → (fault_in mode (take refusal.line (line ∷ lines)) ≡ Some refusal) × (refusal.line ≢ 1 → fault_in mode (take (refusal.line - 1) (line ∷ lines)) ≡ None)
behind_header mode line lines refusal None None m t e = (let clash : None ≡ Some refusal = e in cc clash)
behind_header mode line lines refusal None (Some version) m t e =
    let front = fronts mode version 2 [] lines refusal e in
    let whole : refusal.line ≡ suc (suc front.0) = front.1 ∙ later front.0 in
    let others : refusal.line - 1 ≡ suc front.0 = ap (λ (n : ℕ). n - 1) whole ∙ before front.0 in (
      ap (λ (n : ℕ). fault_in mode (take n (line ∷ lines))) whole ∙ told_by (take (suc front.0) lines) ∙ front.3,
      λ other. ap (λ (n : ℕ). fault_in mode (take n (line ∷ lines))) others ∙ told_by (take front.0 lines) ∙ front.2,
    )
  where
    later : (k : ℕ) → 2 + k ≡ suc (suc k)
    later k = omega arith

    before : (k : ℕ) → suc (suc k) - 1 ≡ suc k
    before k = omega arith

    told_by : (front : List Line) → fault_in mode (line ∷ front) ≡ fault_behind mode version 2 [] front
    told_by front =
        ap (λ (met : Option Fault). first_of 1 met (fault_behind_header mode (version_in line.text) front)) m
        ∙ ap (λ (known : Option Version). fault_behind_header mode known front) t
behind_header mode line lines refusal (Some fault) told m t e =
    let first : refusal.line ≡ 1 = sym (ap (λ (r : Refusal). r.line) (some_is (refusal_at 1 fault) refusal e)) in (
      ap (λ (n : ℕ). fault_in mode (take n (line ∷ lines))) first ∙ ap (λ (met : Option Fault). first_of 1 met (fault_behind_header mode (version_in line.text) [])) m ∙ e,
      λ other. absurd (other first),
    )

empty_front : (count : ℕ) → take {A = Line} count [] ≡ []
empty_front zero = refl
empty_front (suc count) = refl

whole_fronts : (mode : Mode) (lines : List Line) (refusal : Refusal) → fault_in mode lines ≡ Some refusal
    → (fault_in mode (take refusal.line lines) ≡ Some refusal) × (refusal.line ≢ 1 → fault_in mode (take (refusal.line - 1) lines) ≡ None)
whole_fronts mode [] refusal e = (ap (fault_in mode) (empty_front refusal.line) ∙ e, λ other. absurd (other (sym (ap (λ (r : Refusal). r.line) (some_is _ refusal e)))))
whole_fronts mode (line ∷ lines) refusal e = behind_header mode line lines refusal (first_fault_of (header_conditions line)) (version_in line.text) refl refl e

-- a text without a faulty line is a trace
faultless : (bytes : List ℕ) (mode : Mode) → first_fault bytes mode ≡ None → IsRead bytes mode
faultless bytes mode e =
    elim (read_or_refused bytes mode (trace_at mode bytes) refl) [
      | inl read ↦ read
      | inr refused ↦ (let clash : None ≡ Some refused.0 = sym e ∙ refused.1 in cc clash)
    ]

pub lines_before : (bytes : List ℕ) (mode : Mode) (refusal : Refusal) → first_fault bytes mode ≡ Some refusal → refusal.line ≢ 1 → IsRead (front_of (refusal.line - 1) bytes) mode
lines_before bytes mode refusal e other =
    faultless (front_of (refusal.line - 1) bytes) mode
    (ap (fault_in mode) (front_lines (refusal.line - 1) bytes) ∙ (whole_fronts mode (lines_of bytes) refusal e).1 other)

pub lines_with_it : (bytes : List ℕ) (mode : Mode) (refusal : Refusal) → first_fault bytes mode ≡ Some refusal → first_fault (front_of refusal.line bytes) mode ≡ Some refusal
lines_with_it bytes mode refusal e = ap (fault_in mode) (front_lines refusal.line bytes) ∙ (whole_fronts mode (lines_of bytes) refusal e).0
