-- What holds of each row holds of the row of a word.
use Rattle.std.proofs.Common.{◌≡◌, ℕ, Bool, true, false, cond, List, [], ◌∷◌, find, Option, None, Some, option_map, refl, sym, ◌∙◌, ap, subst}
use Rattle.std.specs.Option.{option_or}
use Rattle.std.proofs.lemmas.Slice.Eq.{bytes_eq-Decides}
use Rattle.wf_core.specs.Names.{is_text}
use Rattle.trace_text.specs.declared.trace_call.TraceCall.{TraceCall}
use Rattle.trace_text.specs.Openings.{is_opening, is_opening_word}
use Rattle.trace_text.specs.declared.version.Version.{Version}
use Rattle.trace_text.specs.declared.version.Version.TheVariants as number
use Rattle.trace_text.specs.Words.{Form, Row, row, path_rows, pair_rows, descriptor_rows, data_rows, base_rows, relative_rows, form_among, later_form, form_of}

abbrev pub OfEach : (List ℕ → Form → Type 0) → List Row → Type 0
OfEach P [] = Unit {0}
OfEach P (row ∷ rows) = P row.word row.form × OfEach P rows

some_is : {A : Type 0} (x y : A) → Some x ≡ Some y → x ≡ y
some_is x y e = (cc)

pub among : (P : List ℕ → Form → Type 0) (rows : List Row) (word : List ℕ) (form : Form) → OfEach P rows → form_among rows word ≡ Some form → P word form
among P [] word form each e = (let clash : None ≡ Some form = e in cc clash)
among P (row ∷ rows) word form each e =
    elim (is_text word row.word) as (λ b. (is_text word row.word ≡ b) → option_map (λ (r : Row). r.form) (cond b (Some row) (find (λ (r : Row). is_text word r.word) rows)) ≡ Some form → P word form) [
      | true ↦ λ t h. subst (λ (f : Form). P word f) (some_is row.form form h) (subst (λ (w : List ℕ). P w row.form) (sym ((bytes_eq-Decides word row.word).0 t)) each.0)
      | false ↦ λ t h. among P rows word form each.1 h
    ] refl e

either : {A : Type 0} (first second : Option A) (x : A) (P : Type 0) → (first ≡ Some x → P) → (second ≡ Some x → P) → option_or first second ≡ Some x → P
either None second x P f g e = g e
either (Some y) second x P f g e = f e

later : (P : List ℕ → Form → Type 0) (version : Version) (word : List ℕ) (form : Form) → OfEach P base_rows → OfEach P relative_rows → later_form version word ≡ Some form → P word form
later P number.One word form bases relatives e = (let clash : None ≡ Some form = e in cc clash)
later P number.Two word form bases relatives e = either (form_among base_rows word) (form_among relative_rows word) form (P word form) (among P base_rows word form bases) (among P relative_rows word form relatives) e

pub of_row : (P : List ℕ → Form → Type 0) (version : Version) (word : List ℕ) (form : Form) → OfEach P path_rows → OfEach P pair_rows → OfEach P descriptor_rows → OfEach P data_rows → OfEach P base_rows → OfEach P relative_rows
    → form_of version word ≡ Some form → P word form
of_row P version word form paths pairs descriptors transfers bases relatives e =
    let transfer_calls = option_or (form_among data_rows word) (later_form version word) in
    let numbers = option_or (form_among descriptor_rows word) transfer_calls in
    either (form_among path_rows word) (option_or (form_among pair_rows word) numbers) form (P word form)
    (among P path_rows word form paths) (either (form_among pair_rows word) numbers form (P word form)
    (among P pair_rows word form pairs) (either (form_among descriptor_rows word) transfer_calls form (P word form)
    (among P descriptor_rows word form descriptors) (either (form_among data_rows word) (later_form version word) form (P word form)
    (among P data_rows word form transfers) (later P version word form bases relatives)))) e

pub map_or : {A B : Type 0} (f : A → B) (first second : Option A) → option_map f (option_or first second) ≡ option_or (option_map f first) (option_map f second)
map_or f None second = refl
map_or f (Some x) second = refl

-- The call of a word, table by table.

abbrev pub Found : Type 0
Found = Option (Option TraceCall)

abbrev pub call_among : List Row → List ℕ → List Bool → List (List ℕ) → Found
call_among rows word openings fields = option_map (λ form. form openings fields) (form_among rows word)

abbrev pub later_by : Version → List ℕ → List Bool → List (List ℕ) → Found
later_by version word openings fields = option_map (λ form. form openings fields) (later_form version word)

abbrev pub call_by : Version → List ℕ → List Bool → List (List ℕ) → Found
call_by version word openings fields = option_map (λ form. form openings fields) (form_of version word)

-- the first of five
abbrev first_of : Found → Found → Found → Found → Found → Found
first_of p q d t l = option_or p (option_or q (option_or d (option_or t l)))

by_tables : (version : Version) (word : List ℕ) (openings : List Bool) (fields : List (List ℕ))
    → call_by version word openings fields
    ≡ first_of (call_among path_rows word openings fields) (call_among pair_rows word openings fields) (call_among descriptor_rows word openings fields) (call_among data_rows word openings fields) (later_by version word openings fields)
by_tables version word openings fields =
    let read : Form → Option TraceCall = λ form. form openings fields in
    let transfer_calls = option_or (form_among data_rows word) (later_form version word) in
    let numbers = option_or (form_among descriptor_rows word) transfer_calls in
    map_or read (form_among path_rows word) (option_or (form_among pair_rows word) numbers)
    ∙ ap (option_or (call_among path_rows word openings fields)) (map_or read (form_among pair_rows word) numbers
    ∙ ap (option_or (call_among pair_rows word openings fields)) (map_or read (form_among descriptor_rows word) transfer_calls
    ∙ ap (option_or (call_among descriptor_rows word openings fields)) (map_or read (form_among data_rows word) (later_form version word))))

module _ (version : Version) (word : List ℕ) (openings : List Bool) (fields : List (List ℕ)) where
  abbrev paths : Found
  paths = call_among path_rows word openings fields

  abbrev pairs : Found
  pairs = call_among pair_rows word openings fields

  abbrev numbers : Found
  numbers = call_among descriptor_rows word openings fields

  abbrev data_calls : Found
  data_calls = call_among data_rows word openings fields

  abbrev whole : Found
  whole = call_by version word openings fields

  abbrev later_calls : Found
  later_calls = later_by version word openings fields

  tables : whole ≡ first_of paths pairs numbers data_calls later_calls
  tables = by_tables version word openings fields

  pub found_first : (call : Option TraceCall) → paths ≡ Some call → Some call ≡ whole
  found_first call p = sym (tables ∙ ap (λ (f : Found). first_of f pairs numbers data_calls later_calls) p)

  second : paths ≡ None → whole ≡ first_of None pairs numbers data_calls later_calls
  second p = tables ∙ ap (λ (f : Found). first_of f pairs numbers data_calls later_calls) p

  pub found_second : (call : Option TraceCall) → paths ≡ None → pairs ≡ Some call → Some call ≡ whole
  found_second call p q = sym (second p ∙ ap (λ (f : Found). first_of None f numbers data_calls later_calls) q)

  third : paths ≡ None → pairs ≡ None → whole ≡ first_of None None numbers data_calls later_calls
  third p q = second p ∙ ap (λ (f : Found). first_of None f numbers data_calls later_calls) q

  pub found_third : (call : Option TraceCall) → paths ≡ None → pairs ≡ None → numbers ≡ Some call → Some call ≡ whole
  found_third call p q d = sym (third p q ∙ ap (λ (f : Found). first_of None None f data_calls later_calls) d)

  fourth : paths ≡ None → pairs ≡ None → numbers ≡ None → whole ≡ first_of None None None data_calls later_calls
  fourth p q d = third p q ∙ ap (λ (f : Found). first_of None None f data_calls later_calls) d

  pub found_fourth : (call : Option TraceCall) → paths ≡ None → pairs ≡ None → numbers ≡ None → data_calls ≡ Some call → Some call ≡ whole
  found_fourth call p q d t = sym (fourth p q d ∙ ap (λ (f : Found). first_of None None None f later_calls) t)

  pub found_last : paths ≡ None → pairs ≡ None → numbers ≡ None → data_calls ≡ None → later_calls ≡ whole
  found_last p q d t = sym (fourth p q d ∙ ap (λ (f : Found). first_of None None None f later_calls) t)

-- what is made is made of something
pub made_of : {A B : Type 0} (make : A → B) (read : Option A) (made : B) → option_map make read ≡ Some made → (x : A) × (read ≡ Some x) × (make x ≡ made)
made_of make None made e = (let clash : None ≡ Some made = e in cc clash)
made_of make (Some x) made e = (x, refl, some_is (make x) made e)

-- A word is an opening call's where the call is one.

abbrev Opens : List ℕ → Form → Type 0
Opens word form = (openings : List Bool) (fields : List (List ℕ)) (call : TraceCall) → form openings fields ≡ Some call → is_opening_word word ≡ is_opening call

opens : {A : Type 0} (make : A → TraceCall) (read : Option A) (call : TraceCall) (opening : Bool) → ((x : A) → opening ≡ is_opening (make x)) → option_map make read ≡ Some call → opening ≡ is_opening call
opens make read call opening each e = let made = made_of make read call e in each made.0 ∙ ap is_opening made.2

pub opening_is : (version : Version) (word : List ℕ) (form : Form) (openings : List Bool) (fields : List (List ℕ)) (call : TraceCall) → form_of version word ≡ Some form → form openings fields ≡ Some call → is_opening_word word ≡ is_opening call
opening_is version word form openings fields call e =
    of_row Opens version word form
    ((λ o f c. opens _ _ c false (λ x. refl)), ((λ o f c. opens _ _ c false (λ x. refl)), ((λ o f c. opens _ _ c false (λ x. refl)), ((λ o f c. opens _ _ c false (λ x. refl)), ((λ o f c. opens _ _ c false (λ x. refl)), ((λ o f c. opens _ _ c false (λ x. refl)), tt))))))
    ((λ o f c. opens _ _ c false (λ x. refl)), ((λ o f c. opens _ _ c false (λ x. refl)), ((λ o f c. opens _ _ c false (λ x. refl)), ((λ o f c. opens _ _ c true (λ x. refl)), tt))))
    ((λ o f c. opens _ _ c false (λ x. refl)), ((λ o f c. opens _ _ c true (λ x. refl)), ((λ o f c. opens _ _ c true (λ x. refl)), ((λ o f c. opens _ _ c false (λ x. refl)), ((λ o f c. opens _ _ c false (λ x. refl)), tt)))))
    ((λ o f c. opens _ _ c false (λ x. refl)), ((λ o f c. opens _ _ c false (λ x. refl)), ((λ o f c. opens _ _ c false (λ x. refl)), ((λ o f c. opens _ _ c false (λ x. refl)), ((λ o f c. opens _ _ c false (λ x. refl)), tt)))))
    ((λ o f c. opens _ _ c false (λ x. refl)), ((λ o f c. opens _ _ c false (λ x. refl)), ((λ o f c. opens _ _ c false (λ x. refl)), ((λ o f c. opens _ _ c false (λ x. refl)), tt))))
    ((λ o f c. opens _ _ c false (λ x. refl)), ((λ o f c. opens _ _ c false (λ x. refl)), ((λ o f c. opens _ _ c true (λ x. refl)), ((λ o f c. opens _ _ c false (λ x. refl)), tt)))) e openings fields call
