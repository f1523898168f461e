-- What a reader may conclude from the definitions of the grammar, of its faults and of the texts.
use Rattle.std.specs.Prelude.{◌≡◌, ◌≢◌, ℕ, ◌-◌, ◌<◌, ◌↔◌, ◌⊎◌, if◌then◌else◌, List, [], ◌∷◌, ◌++◌, All, take, None, Some}
use Rattle.std.specs.List.{flat_map}
use Rattle.trace_text.specs.declared.refusal.Refusal.{Refusal}
use Rattle.trace_text.specs.declared.trace.Mode.{Mode}
use Rattle.trace_text.specs.Traces.{Traced}
use Rattle.trace_text.specs.Fields.{text_field, text_in}
use Rattle.trace_text.specs.Grammar.{Reads}
use Rattle.trace_text.specs.Faults.{Line, lines_of, first_fault}
use Rattle.trace_text.specs.Spelling.{SpellsText}

-- bytes are a trace and have no faulty line
abbrev pub IsRead : List ℕ → Mode → Type 0
IsRead bytes mode = (trace : Traced) × Reads bytes mode trace × (first_fault bytes mode ≡ None)

-- they have a first faulty line and are no trace
abbrev pub IsRefused : List ℕ → Mode → Type 0
IsRefused bytes mode = (refusal : Refusal) × (first_fault bytes mode ≡ Some refusal) × ((trace : Traced) → Reads bytes mode trace → ⊥)

-- exactly one of the two has a value, and that is one
pub record ReadsOrRefuses : Type 0 where
  pub either : (bytes : List ℕ) (mode : Mode) → IsRead bytes mode ⊎ IsRefused bytes mode
  pub one : (bytes : List ℕ) (mode : Mode) (trace other : Traced) → Reads bytes mode trace → Reads bytes mode other → trace ≡ other

-- the bytes of lines
abbrev pub line_bytes : Line → List ℕ
line_bytes line = line.text ++ (if line.ended then 10 ∷ [] else [])

abbrev pub text_of : List Line → List ℕ
text_of lines = flat_map line_bytes lines

-- the first `count` lines of a text
abbrev pub front_of : ℕ → List ℕ → List ℕ
front_of count bytes = text_of (take count (lines_of bytes))

-- the lines before a faulty one are a trace by themselves, and with it they are none, for the same fault
pub record FaultsComeFirst : Type 0 where
  pub before : (bytes : List ℕ) (mode : Mode) (refusal : Refusal) → first_fault bytes mode ≡ Some refusal → refusal.line ≢ 1 → IsRead (front_of (refusal.line - 1) bytes) mode
  pub with_it : (bytes : List ℕ) (mode : Mode) (refusal : Refusal) → first_fault bytes mode ≡ Some refusal → first_fault (front_of refusal.line bytes) mode ≡ Some refusal

-- what a text field stands for, both ways, and that a printed one stands for what was printed
pub record FieldsAreTexts : Type 0 where
  pub stands : (field text : List ℕ) → (text_in field ≡ Some text) ↔ SpellsText field text
  pub printed : (text : List ℕ) → All (λ byte. byte < 256) text → text_in (text_field text) ≡ Some text
