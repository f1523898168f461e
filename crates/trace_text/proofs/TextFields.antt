-- What text fields stand for.
use Rattle.std.proofs.Common.{◌≡◌, ◌≢◌, ℕ, zero, suc, ◌<◌, ◌==◌, ◌/◌, ◌%◌, ◌&&◌, Bool, true, false, if◌then◌else◌, List, [], ◌∷◌, ◌++◌, length, take, drop, get_or, position, not, codes, Option, None, Some, option_map, refl, ◌∙◌, sym, ap, subst, append_assoc, append-nil, arith}
use Rattle.std.proofs.Math.Bool.{and_assoc, and-true}
use Rattle.std.specs.List.{fold, list_all, flat_map}
use Rattle.std.proofs.lemmas.List.Quantifiers.{position-Some}
use Rattle.trace_text.proofs.Positions.{fails_at}
use Rattle.std.proofs.lemmas.Grind.{flat_map-append}
use Rattle.std.proofs.lemmas.List.{take-append-drop}
use Rattle.std.proofs.lemmas.Bool.Decides.{nat_tests}
use Rattle.std.proofs.lemmas.Slice.Eq.{bytes_eq-Decides}
use Rattle.wf_core.specs.Names.{is_text}
use Rattle.trace_text.specs.Fields.{byte_field, bytes_in, escape_value, is_plain, onto, onto_escaped, text_in, hex_digit}

-- one byte more of the front
pub onto_front : (front : List ℕ) (byte : ℕ) (rest : Option (List ℕ)) → option_map (λ bytes. (front ++ byte ∷ []) ++ bytes) rest ≡ option_map (λ bytes. front ++ bytes) (onto byte rest)
onto_front front byte None = refl
onto_front front byte (Some bytes) = ap Some (append_assoc front (byte ∷ []) bytes)

pub both : (a b : Bool) → a && b ≡ true → (a ≡ true) × (b ≡ true)
both true b h = (refl, h)
both false b h = (cc)

-- a look at each byte, whatever the ones before were
pub all_looked_at : (field : List ℕ) (plain : Bool) → fold (λ (a : Bool) (byte : ℕ). a && is_plain byte) plain field ≡ (plain && list_all is_plain field)
all_looked_at [] plain = sym (and-true plain)
all_looked_at (byte ∷ field) plain = all_looked_at field (plain && is_plain byte) ∙ and_assoc plain (is_plain byte) (list_all is_plain field)

-- a plain byte stands for itself
pub plain_first : (byte : ℕ) (rest : List ℕ) → is_plain byte ≡ true → bytes_in (byte ∷ rest) ≡ onto byte (bytes_in rest)
plain_first byte [] h = ap (λ (b : Bool). if b then Some (byte ∷ []) else None) h
plain_first byte (next ∷ []) h = ap (λ (b : Bool). if b then onto byte (bytes_in (next ∷ [])) else None) h
plain_first byte (high ∷ low ∷ rest) h =
    ap (λ (b : Bool). if b then onto byte (bytes_in (high ∷ low ∷ rest)) else if byte == 37 then onto_escaped (escape_value high low) (bytes_in rest) else None) h

pub plain_bytes : (field : List ℕ) → list_all is_plain field ≡ true → bytes_in field ≡ Some field
plain_bytes [] h = refl
plain_bytes (byte ∷ field) h =
    let parts = both (is_plain byte) (list_all is_plain field) h in
    plain_first byte field parts.0 ∙ ap (onto byte) (plain_bytes field parts.1)

-- what is not so
pub unequal : (a b : List ℕ) → (a ≡ b → ⊥) → is_text a b ≡ false
unequal a b differ = elim (is_text a b) as (λ t. (is_text a b ≡ t) → is_text a b ≡ false) [
  | true ↦ λ e. absurd (differ ((bytes_eq-Decides a b).0 e))
  | false ↦ λ e. e
] refl

-- a field of plain bytes stands for itself
pub plain_text : (field : List ℕ) → length field ≢ 0 → list_all is_plain field ≡ true → text_in field ≡ Some field
plain_text [] some h = absurd (some refl)
plain_text (byte ∷ field) some h =
    let other : is_text (byte ∷ field) (codes "%_") ≡ false =
    unequal (byte ∷ field) (codes "%_") (λ e. let clash : list_all is_plain (codes "%_") ≡ true = subst (λ (bytes : List ℕ). list_all is_plain bytes ≡ true) e h in (cc)) in
    ap (λ (b : Bool). if b then Some [] else if length (byte ∷ field) == 0 then None else bytes_in (byte ∷ field)) other
    ∙ ap (λ (b : Bool). if b then None else bytes_in (byte ∷ field)) (some_bytes byte field)
    ∙ plain_bytes (byte ∷ field) h
  where
    some_bytes : (byte : ℕ) (field : List ℕ) → (length (byte ∷ field) == 0) ≡ false
    some_bytes byte field = grind (arith, nat_tests)

-- a list that is not found empty
pub some_bytes_in : (field : List ℕ) → (length field == 0) ≡ false → length field ≢ 0
some_bytes_in field h = grind (arith, nat_tests)

-- plain bytes are printed as they are
pub plain_fields : (text : List ℕ) → list_all is_plain text ≡ true → flat_map byte_field text ≡ text
plain_fields [] h = refl
plain_fields (byte ∷ text) h =
    let parts = both (is_plain byte) (list_all is_plain text) h in
    ap (λ (b : Bool). (if b then byte ∷ [] else 37 ∷ hex_digit (byte / 16) ∷ hex_digit (byte % 16) ∷ []) ++ flat_map byte_field text) parts.0
    ∙ ap (λ (bytes : List ℕ). byte ∷ bytes) (plain_fields text parts.1)

-- a run of plain bytes is printed as it is, before what follows it
pub plain_run : (size : ℕ) (text : List ℕ) → list_all is_plain (take size text) ≡ true → flat_map byte_field text ≡ take size text ++ flat_map byte_field (drop size text)
plain_run size text h =
    ap (flat_map byte_field) (sym (take-append-drop size text)) ∙ flat_map-append byte_field (take size text) (drop size text)
    ∙ ap (λ (front : List ℕ). front ++ flat_map byte_field (drop size text)) (plain_fields (take size text) h)

-- one run more of what is printed

run_with : (text : List ℕ) (size : ℕ) (rest back whole : List ℕ) → back ≡ drop size rest → list_all is_plain (take size rest) ≡ true → text ++ flat_map byte_field rest ≡ whole
    → (text ++ take size rest) ++ flat_map byte_field back ≡ whole
run_with text size rest back whole e h so_far =
    ap (λ (left : List ℕ). (text ++ take size rest) ++ flat_map byte_field left) e ∙ append_assoc text (take size rest) (flat_map byte_field (drop size rest))
    ∙ ap (λ (more : List ℕ). text ++ more) (sym (plain_run size rest h)) ∙ so_far

nothing : (back : List ℕ) → length back ≡ 0 → back ≡ []
nothing [] h = refl
nothing (byte ∷ back) h = absurd (some (length back) h)
  where
    some : (n : ℕ) → suc n ≡ 0 → ⊥
    some n h = omega (arith, h)

pub run_last : (text : List ℕ) (size : ℕ) (rest back whole : List ℕ) → back ≡ drop size rest → length back ≡ 0 → list_all is_plain (take size rest) ≡ true → text ++ flat_map byte_field rest ≡ whole
    → text ++ take size rest ≡ whole
run_last text size rest back whole e none h so_far =
    sym (append-nil (text ++ take size rest)) ∙ ap (λ (left : List ℕ). (text ++ take size rest) ++ flat_map byte_field left) (sym (nothing back none)) ∙ run_with text size rest back whole e h so_far

pub run_more : (text : List ℕ) (size byte : ℕ) (rest back left whole : List ℕ) → back ≡ drop size rest → back ≡ byte ∷ left → list_all is_plain (take size rest) ≡ true → text ++ flat_map byte_field rest ≡ whole
    → ((text ++ take size rest) ++ byte_field byte) ++ flat_map byte_field left ≡ whole
run_more text size byte rest back left whole e cut h so_far =
    append_assoc (text ++ take size rest) (byte_field byte) (flat_map byte_field left)
    ∙ ap (λ (bytes : List ℕ). (text ++ take size rest) ++ flat_map byte_field bytes) (sym cut) ∙ run_with text size rest back whole e h so_far

-- bytes that are plain one by one

plain_each : (size : ℕ) (text : List ℕ) → ((k : ℕ) → k < size → is_plain (get_or text k 0) ≡ true) → list_all is_plain (take size text) ≡ true
plain_each zero text h = refl
plain_each (suc size) [] h = refl
plain_each (suc size) (byte ∷ text) h =
    ap (λ (b : Bool). b && list_all is_plain (take size text)) (h 0 (omega arith)) ∙ plain_each size text (λ k low. h (suc k) (omega (arith, low)))

is_so : (b : Bool) → not b ≡ false → b ≡ true
is_so true h = refl
is_so false h = (cc)

pub plain_front : (text : List ℕ) (size : ℕ) → position (λ byte. not (is_plain byte)) text ≡ Some size → list_all is_plain (take size text) ≡ true
plain_front text size e =
    let found = position-Some (λ (byte : ℕ). not (is_plain byte)) text size 0 e in
    plain_each size text (λ k low. is_so (is_plain (get_or text k 0)) (found.2 k low))

pub all_plain : (text : List ℕ) → position (λ byte. not (is_plain byte)) text ≡ None → list_all is_plain (take (length text) text) ≡ true
all_plain text e =
    plain_each (length text) text (λ k low. is_so (is_plain (get_or text k 0)) (fails_at (λ (byte : ℕ). not (is_plain byte)) text k 0 e low))
