-- What a field was read to be is printed as a field that is read so, and is no longer.
use Rattle.std.proofs.Common.{◌≡◌, ℕ, suc, ◌+◌, ◌/◌, ◌%◌, ◌<◌, ◌≤◌, ◌==◌, ◌&&◌, ◌⊎◌, inl, inr, nat_le, nat_lt, Bool, true, false, if◌then◌else◌, List, [], ◌∷◌, ◌++◌, length, codes, Option, None, Some, option_map, refl, sym, ◌∙◌, ap, subst, arith, length-append}
use Rattle.std.specs.List.{All, list_all, flat_map}
use Rattle.std.proofs.lemmas.Bool.Decides.{nat_tests}
use Rattle.std.proofs.lemmas.List.Elements.{All-nil, All-cons, All-append}
use Rattle.std.proofs.lemmas.Slice.Eq.{bytes_eq-Decides}
use Rattle.std.specs.Fmt.{decimal, signed_decimal}
use Rattle.wf_core.specs.Limits.{offset_max}
use Rattle.wf_core.specs.Names.{is_text, has_no_nul}
use Rattle.file_store.specs.declared.file_operation.Access.{Access}
use Rattle.file_store.specs.declared.file_operation.Access.TheVariants as access
use Rattle.file_store.specs.declared.file_operation.Whence.{Whence}
use Rattle.file_store.specs.declared.file_operation.Whence.TheVariants as whence
use Rattle.trace_text.specs.declared.trace_call.Descriptor.{Descriptor}
use Rattle.trace_text.specs.declared.trace_call.Descriptor.TheVariants.{Number, ReplyOf}
use Rattle.trace_text.specs.declared.trace_call.TraceBase.{TraceBase}
use Rattle.trace_text.specs.declared.trace_call.TraceBase.TheVariants.{Cwd, Fd}
use Rattle.trace_text.specs.Openings.{is_opening_at}
use Rattle.trace_text.specs.Fields.{is_plain, byte_field, text_field, text_in, path_in, unless_nul, hex_digit, number_in, number_max, count_in, offset_in}
use Rattle.trace_text.specs.Spelling.{IsHex, SpellsByte, SpellsBytes, SpellsText}
use Rattle.trace_text.specs.TraceTexts.{base_field, descriptor_field, whence_field, access_field}
use Rattle.trace_text.specs.Words.{base_in, descriptor_in, reply_of, whence_in, access_in}
use Rattle.trace_text.proofs.SpellingLemmas.{text_spelled, printed_is_read}
use Rattle.trace_laws.proofs.Pieces.{Clean}
use Rattle.trace_laws.proofs.Numerals.{some_is, number_again, signed_again}

-- what is printed of what a field stands for stands for it too, and can stand in the field's place
pub record KeepsField {A : Type 0} (read : List ℕ → Option A) (print : A → List ℕ) (field : List ℕ) (x : A) : Type 0 where
  pub same : read (print x) ≡ Some x
  pub short : length (print x) ≤ length field
  pub clean : Clean (print x)

-- of every field that can stand in a line
abbrev pub Prints : {A : Type 0} → (List ℕ → Option A) → (A → List ℕ) → Type 0
Prints {A} read print = (field : List ℕ) (x : A) → Clean field → read field ≡ Some x → KeepsField read print field x

-- one of the two, with how the test went
pub by_test : {A : Type 0} (b : Bool) (x y : Option A) (z : A) → (if b then x else y) ≡ Some z → (b ≡ true) × (x ≡ Some z) ⊎ (b ≡ false) × (y ≡ Some z)
by_test true x y z e = inl (refl, e)
by_test false x y z e = inr (refl, e)

pub is_word : (field word : List ℕ) → is_text field word ≡ true → field ≡ word
is_word field word t = (bytes_eq-Decides field word).0 t

-- What is printed as it was spelled.
pub prints_exactly : {A : Type 0} (read : List ℕ → Option A) (print : A → List ℕ) → ((field : List ℕ) (x : A) → read field ≡ Some x → print x ≡ field) → Prints read print
prints_exactly read print exact field x clean e =
    let spelled = exact field x e in
    record { same = ap read spelled ∙ e; short = subst (λ (text : List ℕ). length text ≤ length field) (sym spelled) (omega arith); clean = subst Clean (sym spelled) clean }

pub count_prints : Prints count_in decimal
count_prints = prints_exactly count_in decimal (λ field n e. number_again number_max field n (omega arith) e)

pub offset_prints : Prints offset_in signed_decimal
offset_prints = prints_exactly offset_in signed_decimal (λ field z e. signed_again offset_max field z (omega arith) e)

number_of : (read : Option ℕ) (descriptor : Descriptor) → option_map Number read ≡ Some descriptor → (n : ℕ) × (read ≡ Some n) × (descriptor ≡ Number n)
number_of None descriptor e = (let clash : None ≡ Some descriptor = e in cc clash)
number_of (Some n) descriptor e = (n, refl, sym (some_is (Number n) descriptor e))

reply_of_call : (openings : List Bool) (read : Option ℕ) (descriptor : Descriptor) → reply_of openings read ≡ Some descriptor → (n : ℕ) × (read ≡ Some n) × (descriptor ≡ ReplyOf n)
reply_of_call openings None descriptor e = (let clash : None ≡ Some descriptor = e in cc clash)
reply_of_call openings (Some n) descriptor e =
    elim (is_opening_at openings n) as (λ b. (if b then Some (ReplyOf n) else None) ≡ Some descriptor → (m : ℕ) × (Some n ≡ Some m) × (descriptor ≡ ReplyOf m)) [
      | true ↦ λ h. (n, refl, sym (some_is (ReplyOf n) descriptor h))
      | false ↦ λ h. (let clash : None ≡ Some descriptor = h in cc clash)
    ] e

descriptor_exact : (openings : List Bool) (field : List ℕ) (descriptor : Descriptor) → descriptor_in openings field ≡ Some descriptor → descriptor_field descriptor ≡ field
descriptor_exact openings [] descriptor e = (let clash : None ≡ Some descriptor = e in cc clash)
descriptor_exact openings (byte ∷ field) descriptor e =
    elim (byte == 64) as (λ b. ((byte == 64) ≡ b) → (if b then reply_of openings (number_in number_max field) else option_map Number (number_in number_max (byte ∷ field))) ≡ Some descriptor → descriptor_field descriptor ≡ byte ∷ field) [
      | true ↦ λ t h. (
          let made = reply_of_call openings (number_in number_max field) descriptor h in
          ap descriptor_field made.2 ∙ ap (λ (rest : List ℕ). 64 ∷ rest) (number_again number_max field made.0 (omega arith) made.1) ∙ ap (λ (b : ℕ). b ∷ field) (sym (at_sign byte t))
          )
      | false ↦ λ t h. (
          let made = number_of (number_in number_max (byte ∷ field)) descriptor h in
          ap descriptor_field made.2 ∙ number_again number_max (byte ∷ field) made.0 (omega arith) made.1
          )
    ] refl e
  where
    at_sign : (byte : ℕ) → (byte == 64) ≡ true → byte ≡ 64
    at_sign byte t = grind (arith, nat_tests)

pub descriptor_prints : (openings : List Bool) → Prints (descriptor_in openings) descriptor_field
descriptor_prints openings = prints_exactly (descriptor_in openings) descriptor_field (descriptor_exact openings)

descriptor_base : (read : Option Descriptor) (base : TraceBase) → option_map Fd read ≡ Some base → (descriptor : Descriptor) × (read ≡ Some descriptor) × (base ≡ Fd descriptor)
descriptor_base None base e = (let clash : None ≡ Some base = e in cc clash)
descriptor_base (Some descriptor) base e = (descriptor, refl, sym (some_is (Fd descriptor) base e))

base_exact : (openings : List Bool) (field : List ℕ) (base : TraceBase) → base_in openings field ≡ Some base → base_field base ≡ field
base_exact openings field base e =
    elim (is_text field (codes "cwd")) as (λ b. (is_text field (codes "cwd") ≡ b) → (if b then Some Cwd else option_map Fd (descriptor_in openings field)) ≡ Some base → base_field base ≡ field) [
      | true ↦ λ t h. ap base_field (sym (some_is Cwd base h)) ∙ sym (is_word field (codes "cwd") t)
      | false ↦ λ t h. (
          let made = descriptor_base (descriptor_in openings field) base h in
          ap base_field made.2 ∙ descriptor_exact openings field made.0 made.1
          )
    ] refl e

pub base_prints : (openings : List Bool) → Prints (base_in openings) base_field
base_prints openings = prints_exactly (base_in openings) base_field (base_exact openings)

-- a word for a value
word_exact : {A : Type 0} (print : A → List ℕ) (field word : List ℕ) (value x : A) → is_text field word ≡ true → Some value ≡ Some x → print value ≡ word → print x ≡ field
word_exact print field word value x t e p = ap print (sym (some_is value x e)) ∙ p ∙ sym (is_word field word t)

whence_exact : (field : List ℕ) (x : Whence) → whence_in field ≡ Some x → whence_field x ≡ field
whence_exact field x e =
    elim (by_test (is_text field (codes "set")) (Some whence.Set) (if is_text field (codes "cur") then Some whence.Cur else if is_text field (codes "end") then Some whence.End else None) x e) [
      | inl (t, h) ↦ word_exact whence_field field (codes "set") whence.Set x t h refl
      | inr (t, h) ↦ elim (by_test (is_text field (codes "cur")) (Some whence.Cur) (if is_text field (codes "end") then Some whence.End else None) x h) [
        | inl (u, k) ↦ word_exact whence_field field (codes "cur") whence.Cur x u k refl
        | inr (u, k) ↦ elim (by_test (is_text field (codes "end")) (Some whence.End) None x k) [
          | inl (v, l) ↦ word_exact whence_field field (codes "end") whence.End x v l refl
          | inr (v, l) ↦ (let clash : None ≡ Some x = l in cc clash)
        ]
      ]
    ]

pub whence_prints : Prints whence_in whence_field
whence_prints = prints_exactly whence_in whence_field whence_exact

pub access_exact : (field : List ℕ) (x : Access) → access_in field ≡ Some x → access_field x ≡ field
access_exact field x e =
    elim (by_test (is_text field (codes "r")) (Some access.Read) (if is_text field (codes "w") then Some access.Write else if is_text field (codes "rw") then Some access.ReadWrite else None) x e) [
      | inl (t, h) ↦ word_exact access_field field (codes "r") access.Read x t h refl
      | inr (t, h) ↦ elim (by_test (is_text field (codes "w")) (Some access.Write) (if is_text field (codes "rw") then Some access.ReadWrite else None) x h) [
        | inl (u, k) ↦ word_exact access_field field (codes "w") access.Write x u k refl
        | inr (u, k) ↦ elim (by_test (is_text field (codes "rw")) (Some access.ReadWrite) None x k) [
          | inl (v, l) ↦ word_exact access_field field (codes "rw") access.ReadWrite x v l refl
          | inr (v, l) ↦ (let clash : None ≡ Some x = l in cc clash)
        ]
      ]
    ]

-- Text fields.

abbrev pub High : List ℕ → Type 0
High text = All (λ byte. 33 ≤ byte) text

pub clean_from_high : (text : List ℕ) → High text → Clean text
clean_from_high text high = ((λ k d low. other 32 _ (omega arith) (high k d low)), (λ k d low. other 10 _ (omega arith) (high k d low)))
  where
    other : (cut byte : ℕ) → cut < 33 → 33 ≤ byte → (byte == cut) ≡ false
    other cut byte small high = grind (arith, nat_tests)

-- of a text that is written out
pub at_least : (low : ℕ) (text : List ℕ) → list_all (nat_le low) text ≡ true → All (λ byte. low ≤ byte) text
at_least low [] h = All-nil (λ (b : ℕ). low ≤ b)
at_least low (byte ∷ text) h =
    let parts = and_parts (nat_le low byte) (list_all (nat_le low) text) h in
    All-cons (λ (b : ℕ). low ≤ b) byte text (is_least low byte parts.0) (at_least low text parts.1)
  where
    and_parts : (a b : Bool) → a && b ≡ true → (a ≡ true) × (b ≡ true)
    and_parts true b h = (refl, h)
    and_parts false b h = (cc)

    is_least : (low byte : ℕ) → nat_le low byte ≡ true → low ≤ byte
    is_least low byte h = grind (arith, nat_tests)

plain_range : (byte : ℕ) → is_plain byte ≡ true → (33 ≤ byte) × (byte ≤ 126)
plain_range byte h = grind (arith, nat_tests)

hex_small : (digit value : ℕ) → IsHex digit value → value < 16
hex_small digit value (inl (low, high, e)) = omega arith
hex_small digit value (inr (inl (low, high, e))) = omega arith
hex_small digit value (inr (inr (low, high, e))) = omega arith

byte_small : (field : List ℕ) (byte : ℕ) (rest : List ℕ) → SpellsByte field byte rest → byte < 256
byte_small field byte rest (inl (p, e)) = let range = plain_range byte p in omega arith
byte_small field byte rest (inr (high, low, h, l, e, hh, ll, b)) = let a = hex_small high h hh in let c = hex_small low l ll in omega arith

bytes_small : (field text : List ℕ) → SpellsBytes field text → All (λ byte. byte < 256) text
bytes_small field [] s = All-nil (λ (b : ℕ). b < 256)
bytes_small field (byte ∷ text) (rest, first, s) = All-cons (λ (b : ℕ). b < 256) byte text (byte_small field byte rest first) (bytes_small rest text s)

text_small : (field text : List ℕ) → SpellsText field text → All (λ byte. byte < 256) text
text_small field [] s = All-nil (λ (b : ℕ). b < 256)
text_small field (byte ∷ text) s = bytes_small field (byte ∷ text) s

byte_length : (b : Bool) (byte : ℕ) → length (if b then byte ∷ [] else 37 ∷ hex_digit (byte / 16) ∷ hex_digit (byte % 16) ∷ []) ≤ 3
byte_length true byte = omega arith
byte_length false byte = omega arith

byte_short : (field : List ℕ) (byte : ℕ) (rest : List ℕ) → SpellsByte field byte rest → length (byte_field byte) + length rest ≤ length field
byte_short field byte rest (inl (p, e)) =
    let one : length (byte_field byte) ≡ 1 = ap (λ (b : Bool). length (if b then byte ∷ [] else 37 ∷ hex_digit (byte / 16) ∷ hex_digit (byte % 16) ∷ [])) p in
    let long : length field ≡ suc (length rest) = ap length e in
    omega arith
byte_short field byte rest (inr (high, low, h, l, e, hh, ll, b)) =
    let three : length (byte_field byte) ≤ 3 = byte_length (is_plain byte) byte in
    let long : length field ≡ suc (suc (suc (length rest))) = ap length e in
    omega arith

bytes_short : (field text : List ℕ) → SpellsBytes field text → length (flat_map byte_field text) ≤ length field
bytes_short field [] s = omega arith
bytes_short field (byte ∷ text) (rest, first, s) =
    let more = bytes_short rest text s in
    let front = byte_short field byte rest first in
    let whole : length (byte_field byte ++ flat_map byte_field text) ≡ length (byte_field byte) + length (flat_map byte_field text) = length-append (byte_field byte) (flat_map byte_field text) in
    omega arith

text_short : (field text : List ℕ) → SpellsText field text → length (text_field text) ≤ length field
text_short field [] s = let same : length field ≡ 2 = ap length s in omega arith
text_short field (byte ∷ text) s = bytes_short field (byte ∷ text) s

digit_high : (value : ℕ) → 33 ≤ hex_digit value
digit_high value =
    elim (nat_lt value 10) as (λ b. 33 ≤ (if b then 48 + value else 55 + value)) [
      | true ↦ omega arith
      | false ↦ omega arith
    ]

byte_high : (byte : ℕ) → High (byte_field byte)
byte_high byte =
    let P : ℕ → Type 0 = λ b. 33 ≤ b in
    elim (is_plain byte) as (λ b. (is_plain byte ≡ b) → High (if b then byte ∷ [] else 37 ∷ hex_digit (byte / 16) ∷ hex_digit (byte % 16) ∷ [])) [
      | true ↦ λ p. All-cons P byte [] (plain_range byte p).0 (All-nil P)
      | false ↦ λ p. All-cons P 37 (hex_digit (byte / 16) ∷ hex_digit (byte % 16) ∷ []) (omega arith)
          (All-cons P (hex_digit (byte / 16)) (hex_digit (byte % 16) ∷ []) (digit_high (byte / 16)) (All-cons P (hex_digit (byte % 16)) [] (digit_high (byte % 16)) (All-nil P)))
    ] refl

bytes_high : (text : List ℕ) → High (flat_map byte_field text)
bytes_high [] = All-nil (λ (b : ℕ). 33 ≤ b)
bytes_high (byte ∷ text) = All-append (λ (b : ℕ). 33 ≤ b) (byte_field byte) (flat_map byte_field text) (byte_high byte) (bytes_high text)

text_high : (text : List ℕ) → High (text_field text)
text_high [] = at_least 33 (codes "%_") refl
text_high (byte ∷ text) = bytes_high (byte ∷ text)

pub text_prints : Prints text_in text_field
text_prints field text clean e =
    let spelled = text_spelled field text e in
    record { same = printed_is_read text (text_small field text spelled); short = text_short field text spelled; clean = clean_from_high (text_field text) (text_high text) }

without_nul : (read : Option (List ℕ)) (text : List ℕ) → unless_nul read ≡ Some text → (read ≡ Some text) × (has_no_nul text ≡ true)
without_nul None text e = (let clash : None ≡ Some text = e in cc clash)
without_nul (Some found) text e =
    elim (by_test (has_no_nul found) (Some found) None text e) [
      | inl (t, h) ↦ (h, ap has_no_nul (sym (some_is found text h)) ∙ t)
      | inr (t, h) ↦ (let clash : None ≡ Some text = h in cc clash)
    ]

pub path_prints : Prints path_in text_field
path_prints field text clean e =
    let parts = without_nul (text_in field) text e in
    let printed = text_prints field text clean parts.0 in
    record { same = ap unless_nul printed.same ∙ ap (λ (b : Bool). if b then Some text else None) parts.1; short = printed.short; clean = printed.clean }
