-- What lines have declared, with one line more.
use Rattle.std.proofs.Common.{◌≡◌, ℕ, ◌+◌, cond, Bool, List, [], ◌∷◌, ◌++◌, length, map, count_by, Option, None, Some, refl, sym, ◌∙◌, ap, arith}
use Rattle.std.specs.List.{filter_map, cons_option}
use Rattle.std.specs.Option.{option_to_list}
use Rattle.std.proofs.lemmas.List.Elements.{filter_map-append}
use Rattle.std.proofs.lemmas.List.Sums.{sum_by-append}
use Rattle.trace_text.specs.declared.version.Version.{Version}
use Rattle.trace_text.specs.Traces.{Traced}
use Rattle.trace_text.specs.Faults.{statement_of, thread_in, backend_name_in, is_call, Declarations, declarations}
use Rattle.trace_text.proofs.Agreement.{declarations_of}

as_list : {A : Type 0} (x : Option A) → cons_option x [] ≡ option_to_list x
as_list None = refl
as_list (Some x) = refl

pub one_more : {A B : Type 0} (h : A → Option B) (before : List A) (line : A) (x : Option B) → h line ≡ x → filter_map h (before ++ line ∷ []) ≡ filter_map h before ++ option_to_list x
one_more {A} {B} h before line x e =
    filter_map-append h before (line ∷ []) ∙ ap (λ (found : Option B). filter_map h before ++ cons_option found []) e ∙ ap (λ (front : List B). filter_map h before ++ front) (as_list x)

pub count_more : {A : Type 0} (p : A → Bool) (before : List A) (line : A) (b : Bool) → p line ≡ b → count_by p (before ++ line ∷ []) ≡ count_by p before + cond b 1 0
count_more {A} p before line b e =
    let more : count_by p (before ++ line ∷ []) ≡ count_by p before + (0 + cond (p line) 1 0) = sum_by-append (λ (x : A). cond (p x) 1 0) before (line ∷ []) in
    more ∙ ap (λ (n : ℕ). count_by p before + n) (zero_before (cond (p line) 1 0) ∙ ap (λ (c : Bool). cond c 1 0) e)
  where
    zero_before : (n : ℕ) → 0 + n ≡ n
    zero_before n = omega arith

declarations_are : (version : Version) (threads backends : List (List ℕ)) (calls : ℕ) (trace : Traced) → version ≡ trace.version → threads ≡ trace.threads → backends ≡ map (λ backend. backend.name) trace.backends → calls ≡ length trace.calls
    → record { version = version; threads = threads; backends = backends; calls = calls } ≡ declarations_of trace
declarations_are version threads backends calls trace v e f g = cc

-- a line declares what it says, and the trace has that beside what it had
pub growth : (version : Version) (before : List (List ℕ)) (line : List ℕ) (trace after : Traced) (thread backend : Option (List ℕ)) (call : Bool) → declarations version before ≡ declarations_of trace
    → thread_in (statement_of line) ≡ thread → backend_name_in (statement_of line) ≡ backend → is_call (statement_of line) ≡ call
    → after.version ≡ trace.version → after.threads ≡ trace.threads ++ option_to_list thread → map (λ backend. backend.name) after.backends ≡ map (λ backend. backend.name) trace.backends ++ option_to_list backend
    → length after.calls ≡ length trace.calls + cond call 1 0 → declarations version (before ++ line ∷ []) ≡ declarations_of after
growth version before line trace after thread backend call e t b c av at ab ac =
    declarations_are version _ _ _ after
    (ap (λ (k : Declarations). k.version) e ∙ sym av)
    (one_more (λ text. thread_in (statement_of text)) before line thread t ∙ ap (λ (k : Declarations). k.threads ++ option_to_list thread) e ∙ sym at)
    (one_more (λ text. backend_name_in (statement_of text)) before line backend b ∙ ap (λ (k : Declarations). k.backends ++ option_to_list backend) e ∙ sym ab)
    (count_more (λ text. is_call (statement_of text)) before line call c ∙ ap (λ (k : Declarations). k.calls + cond call 1 0) e ∙ sym ac)
