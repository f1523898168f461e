-- A text field stands for what it spells, and a printed one for what was printed.
use Rattle.std.proofs.Common.{◌≡◌, ℕ, suc, ◌+◌, ◌-◌, ◌*◌, ◌/◌, ◌%◌, ◌<◌, ◌≤◌, ◌==◌, ◌&&◌, inl, inr, nat_le, nat_lt, if◌then◌else◌, Bool, true, false, List, [], ◌∷◌, ◌++◌, length, codes, Option, None, Some, option_map, option_and_then, refl, sym, ◌∙◌, ap, subst, arith}
use Rattle.std.specs.List.{All, flat_map}
use Rattle.std.proofs.lemmas.Bool.Decides.{nat_tests}
use Rattle.std.proofs.lemmas.List.Elements.{All-head, All-tail}
use Rattle.std.proofs.lemmas.Slice.Eq.{bytes_eq-Decides}
use Rattle.wf_core.specs.Names.{is_text}
use Rattle.trace_text.specs.Fields.{is_digit, is_plain, hex_value, escape_value, onto, onto_escaped, bytes_in, text_in, hex_digit, byte_field, text_field}
use Rattle.trace_text.specs.Spelling.{IsHex, SpellsBytes, SpellsText}
use Rattle.trace_text.proofs.TextFields.{plain_first, unequal}

-- digits

between : (low high n : ℕ) → nat_le low n && nat_le n high ≡ true → (low ≤ n) × (n ≤ high)
between low high n h = grind (arith, nat_tests)

in_between : (low high n : ℕ) → low ≤ n → n ≤ high → nat_le low n && nat_le n high ≡ true
in_between low high n h k = grind (arith, nat_tests)

not_between : (low high n : ℕ) → high < n → nat_le low n && nat_le n high ≡ false
not_between low high n h = grind (arith, nat_tests)

some_is : {A : Type 0} (x y : A) → Some x ≡ Some y → x ≡ y
some_is x y e = (cc)

hex_is : (digit value : ℕ) → hex_value digit ≡ Some value → IsHex digit value
hex_is digit value e =
    elim (is_digit digit) as (λ b. (is_digit digit ≡ b) → (if b then Some (digit - 48) else if nat_le 65 digit && nat_le digit 70 then Some (digit - 55) else if nat_le 97 digit && nat_le digit 102 then Some (digit - 87) else None) ≡ Some value → IsHex digit value) [
      | true ↦ λ t h. (let range = between 48 57 digit t in inl (range.0, range.1, sym (some_is (digit - 48) value h)))
      | false ↦ λ t h. elim (nat_le 65 digit && nat_le digit 70) as (λ b. (nat_le 65 digit && nat_le digit 70 ≡ b) → (if b then Some (digit - 55) else if nat_le 97 digit && nat_le digit 102 then Some (digit - 87) else None) ≡ Some value → IsHex digit value) [
        | true ↦ λ u k. (let range = between 65 70 digit u in inr (inl (range.0, range.1, sym (some_is (digit - 55) value k))))
        | false ↦ λ u k. elim (nat_le 97 digit && nat_le digit 102) as (λ b. (nat_le 97 digit && nat_le digit 102 ≡ b) → (if b then Some (digit - 87) else None) ≡ Some value → IsHex digit value) [
          | true ↦ λ v l. (let range = between 97 102 digit v in inr (inr (range.0, range.1, sym (some_is (digit - 87) value l))))
          | false ↦ λ v l. (let clash : None ≡ Some value = l in cc clash)
        ] refl k
      ] refl h
    ] refl e

is_hex : (digit value : ℕ) → IsHex digit value → hex_value digit ≡ Some value
is_hex digit value (inl (low, high, e)) =
    ap (λ (b : Bool). if b then Some (digit - 48) else if nat_le 65 digit && nat_le digit 70 then Some (digit - 55) else if nat_le 97 digit && nat_le digit 102 then Some (digit - 87) else None) (in_between 48 57 digit low high) ∙ ap Some (sym e)
is_hex digit value (inr (inl (low, high, e))) =
    ap (λ (b : Bool). if b then Some (digit - 48) else if nat_le 65 digit && nat_le digit 70 then Some (digit - 55) else if nat_le 97 digit && nat_le digit 102 then Some (digit - 87) else None) (not_between 48 57 digit (omega arith))
    ∙ ap (λ (b : Bool). if b then Some (digit - 55) else if nat_le 97 digit && nat_le digit 102 then Some (digit - 87) else None) (in_between 65 70 digit low high) ∙ ap Some (sym e)
is_hex digit value (inr (inr (low, high, e))) =
    ap (λ (b : Bool). if b then Some (digit - 48) else if nat_le 65 digit && nat_le digit 70 then Some (digit - 55) else if nat_le 97 digit && nat_le digit 102 then Some (digit - 87) else None) (not_between 48 57 digit (omega arith))
    ∙ ap (λ (b : Bool). if b then Some (digit - 55) else if nat_le 97 digit && nat_le digit 102 then Some (digit - 87) else None) (not_between 65 70 digit (omega arith))
    ∙ ap (λ (b : Bool). if b then Some (digit - 87) else None) (in_between 97 102 digit low high) ∙ ap Some (sym e)

-- an escape's two digits

escape_is : (high low : Option ℕ) (byte : ℕ) → option_and_then (λ h. option_map (λ l. 16 * h + l) low) high ≡ Some byte → (h : ℕ) × (l : ℕ) × (high ≡ Some h) × (low ≡ Some l) × (byte ≡ 16 * h + l)
escape_is None low byte e = (cc)
escape_is (Some h) None byte e = (cc)
escape_is (Some h) (Some l) byte e = (h, l, refl, refl, sym (some_is (16 * h + l) byte e))

onto_is : (byte : ℕ) (rest : Option (List ℕ)) (text : List ℕ) → onto byte rest ≡ Some text → (behind : List ℕ) × (rest ≡ Some behind) × (byte ∷ behind ≡ text)
onto_is byte None text e = (cc)
onto_is byte (Some behind) text e = (behind, refl, some_is (byte ∷ behind) text e)

onto_escaped_is : (byte : Option ℕ) (rest : Option (List ℕ)) (text : List ℕ) → onto_escaped byte rest ≡ Some text → (first : ℕ) × (behind : List ℕ) × (byte ≡ Some first) × (rest ≡ Some behind) × (first ∷ behind ≡ text)
onto_escaped_is None rest text e = (cc)
onto_escaped_is (Some first) rest text e = let more = onto_is first rest text e in (first, more.0, refl, more.1, more.2)

-- what is read is spelled

percent : (byte : ℕ) → (byte == 37) ≡ true → byte ≡ 37
percent byte h = grind (arith, nat_tests)

plain_spelled : (byte : ℕ) (rest text : List ℕ) → is_plain byte ≡ true → onto byte (bytes_in rest) ≡ Some text → ((behind : List ℕ) → bytes_in rest ≡ Some behind → SpellsBytes rest behind) → SpellsBytes (byte ∷ rest) text
plain_spelled byte rest text p e spelled =
    let more = onto_is byte (bytes_in rest) text e in
    subst (λ (whole : List ℕ). SpellsBytes (byte ∷ rest) whole) more.2 (rest, inl (p, refl), spelled more.0 more.1)

escape_spelled : (byte high low : ℕ) (rest text : List ℕ) → byte ≡ 37 → onto_escaped (escape_value high low) (bytes_in rest) ≡ Some text
    → ((behind : List ℕ) → bytes_in rest ≡ Some behind → SpellsBytes rest behind) → SpellsBytes (byte ∷ high ∷ low ∷ rest) text
escape_spelled byte high low rest text p e spelled =
    let more = onto_escaped_is (escape_value high low) (bytes_in rest) text e in
    let digits = escape_is (hex_value high) (hex_value low) more.0 more.2 in
    subst (λ (whole : List ℕ). SpellsBytes (byte ∷ high ∷ low ∷ rest) whole) more.4
    (rest, inr (high, low, digits.0, digits.1, ap (λ (b : ℕ). b ∷ high ∷ low ∷ rest) p, hex_is high digits.0 digits.2, hex_is low digits.1 digits.3, digits.4), spelled more.1 more.3)

bytes_spelled : (field text : List ℕ) → bytes_in field ≡ Some text → SpellsBytes field text
bytes_spelled [] text e = subst (λ (whole : List ℕ). SpellsBytes [] whole) (some_is [] text e) refl
bytes_spelled (byte ∷ []) text e =
    elim (is_plain byte) as (λ b. (is_plain byte ≡ b) → (if b then Some (byte ∷ []) else None) ≡ Some text → SpellsBytes (byte ∷ []) text) [
      | true ↦ λ p h. subst (λ (whole : List ℕ). SpellsBytes (byte ∷ []) whole) (some_is (byte ∷ []) text h) ([], inl (p, refl), refl)
      | false ↦ λ p h. (cc)
    ] refl e
bytes_spelled (byte ∷ next ∷ []) text e =
    elim (is_plain byte) as (λ b. (is_plain byte ≡ b) → (if b then onto byte (bytes_in (next ∷ [])) else None) ≡ Some text → SpellsBytes (byte ∷ next ∷ []) text) [
      | true ↦ λ p h. plain_spelled byte (next ∷ []) text p h (bytes_spelled (next ∷ []))
      | false ↦ λ p h. (cc)
    ] refl e
bytes_spelled (byte ∷ high ∷ low ∷ rest) text e =
    elim (is_plain byte) as (λ b. (is_plain byte ≡ b) → (if b then onto byte (bytes_in (high ∷ low ∷ rest)) else if byte == 37 then onto_escaped (escape_value high low) (bytes_in rest) else None) ≡ Some text → SpellsBytes (byte ∷ high ∷ low ∷ rest) text) [
      | true ↦ λ p h. plain_spelled byte (high ∷ low ∷ rest) text p h (bytes_spelled (high ∷ low ∷ rest))
      | false ↦ λ p h. elim (byte == 37) as (λ b. ((byte == 37) ≡ b) → (if b then onto_escaped (escape_value high low) (bytes_in rest) else None) ≡ Some text → SpellsBytes (byte ∷ high ∷ low ∷ rest) text) [
        | true ↦ λ q k. escape_spelled byte high low rest text (percent byte q) k (bytes_spelled rest)
        | false ↦ λ q k. (cc)
      ] refl h
    ] refl e

-- a field with bytes spells a text with bytes
with_bytes : (byte : ℕ) (field text : List ℕ) → SpellsBytes (byte ∷ field) text → SpellsText (byte ∷ field) text
with_bytes byte field [] s = (cc)
with_bytes byte field (first ∷ text) s = s

some_field_spelled : (field text : List ℕ) → (if length field == 0 then None else bytes_in field) ≡ Some text → SpellsText field text
some_field_spelled [] text e = (let clash : None ≡ Some text = e in cc clash)
some_field_spelled (byte ∷ field) text e = with_bytes byte field text (bytes_spelled (byte ∷ field) text (some_bytes byte field text e))
  where
    nonzero : (n : ℕ) → (suc n == 0) ≡ false
    nonzero n = grind (arith, nat_tests)

    some_bytes : (byte : ℕ) (field text : List ℕ) → (if length (byte ∷ field) == 0 then None else bytes_in (byte ∷ field)) ≡ Some text → bytes_in (byte ∷ field) ≡ Some text
    some_bytes byte field text e = ap (λ (b : Bool). if b then None else bytes_in (byte ∷ field)) (sym (nonzero (length field))) ∙ e

pub text_spelled : (field text : List ℕ) → text_in field ≡ Some text → SpellsText field text
text_spelled field text e =
    elim (is_text field (codes "%_")) as (λ b. (is_text field (codes "%_") ≡ b) → (if b then Some [] else if length field == 0 then None else bytes_in field) ≡ Some text → SpellsText field text) [
      | true ↦ λ t h. subst (λ (whole : List ℕ). SpellsText field whole) (some_is [] text h) ((bytes_eq-Decides field (codes "%_")).0 t)
      | false ↦ λ t h. some_field_spelled field text h
    ] refl e

-- what is spelled is read

bytes_read : (field text : List ℕ) → SpellsBytes field text → bytes_in field ≡ Some text
bytes_read field [] e = ap bytes_in e
bytes_read field (byte ∷ text) (rest, inl (p, e), s) = ap bytes_in e ∙ plain_first byte rest p ∙ ap (onto byte) (bytes_read rest text s)
bytes_read field (byte ∷ text) (rest, inr (high, low, h, l, e, hh, ll, b), s) =
    ap bytes_in e
    ∙ ap (λ (value : Option ℕ). onto_escaped (option_and_then (λ h. option_map (λ l. 16 * h + l) (hex_value low)) value) (bytes_in rest)) (is_hex high h hh)
    ∙ ap (λ (value : Option ℕ). onto_escaped (option_map (λ l. 16 * h + l) value) (bytes_in rest)) (is_hex low l ll)
    ∙ ap (onto (16 * h + l)) (bytes_read rest text s) ∙ ap (λ (first : ℕ). Some (first ∷ text)) (sym b)

some_field_read : (field : List ℕ) (byte : ℕ) (text : List ℕ) → bytes_in field ≡ Some (byte ∷ text) → text_in field ≡ Some (byte ∷ text)
some_field_read [] byte text e = (let clash : Some [] ≡ Some (byte ∷ text) = e in cc clash)
some_field_read (first ∷ field) byte text e =
    let other : is_text (first ∷ field) (codes "%_") ≡ false =
    unequal (first ∷ field) (codes "%_") (λ same. let clash : None ≡ Some (byte ∷ text) = ap bytes_in (sym same) ∙ e in cc clash) in
    ap (λ (b : Bool). if b then Some [] else if length (first ∷ field) == 0 then None else bytes_in (first ∷ field)) other
    ∙ ap (λ (b : Bool). if b then None else bytes_in (first ∷ field)) (nonzero (length field)) ∙ e
  where
    nonzero : (n : ℕ) → (suc n == 0) ≡ false
    nonzero n = grind (arith, nat_tests)

pub text_read : (field text : List ℕ) → SpellsText field text → text_in field ≡ Some text
text_read field [] e = ap text_in e
text_read field (byte ∷ text) s = some_field_read field byte text (bytes_read field (byte ∷ text) s)

-- what is printed spells what was printed

printed_digit : (value : ℕ) → value < 16 → IsHex (hex_digit value) value
printed_digit value small =
    elim (nat_lt value 10) as (λ b. (nat_lt value 10 ≡ b) → IsHex (if b then 48 + value else 55 + value) value) [
      | true ↦ λ t. (let below : value < 10 = lower t in inl (omega arith, omega arith, omega arith))
      | false ↦ λ t. (let above : 10 ≤ value = upper t in inr (inl (omega arith, omega arith, omega arith)))
    ] refl
  where
    lower : {value : ℕ} → nat_lt value 10 ≡ true → value < 10
    lower {value} h = grind (arith, nat_tests)

    upper : {value : ℕ} → nat_lt value 10 ≡ false → 10 ≤ value
    upper {value} h = grind (arith, nat_tests)

printed_bytes : (text : List ℕ) → All (λ byte. byte < 256) text → SpellsBytes (flat_map byte_field text) text
printed_bytes [] small = refl
printed_bytes (byte ∷ text) small =
    let first : byte < 256 = All-head (λ (b : ℕ). b < 256) byte text small in
    let rest = printed_bytes text (All-tail (λ (b : ℕ). b < 256) byte text small) in
    elim (is_plain byte) as (λ b. (is_plain byte ≡ b) → SpellsBytes ((if b then byte ∷ [] else 37 ∷ hex_digit (byte / 16) ∷ hex_digit (byte % 16) ∷ []) ++ flat_map byte_field text) (byte ∷ text)) [
      | true ↦ λ p. (flat_map byte_field text, inl (p, refl), rest)
      | false ↦ λ p. (
        flat_map byte_field text,
        inr (hex_digit (byte / 16), hex_digit (byte % 16), byte / 16, byte % 16, refl, printed_digit (byte / 16) (omega arith), printed_digit (byte % 16) (omega arith), omega arith),
        rest,
      )
    ] refl

pub printed_is_read : (text : List ℕ) → All (λ byte. byte < 256) text → text_in (text_field text) ≡ Some text
printed_is_read [] small = refl
printed_is_read (byte ∷ text) small = text_read (text_field (byte ∷ text)) (byte ∷ text) (printed_bytes (byte ∷ text) small)
