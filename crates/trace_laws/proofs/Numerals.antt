-- A number that is read is printed as it was spelled.
use Rattle.std.proofs.Common.{◌≡◌, ℕ, zero, suc, ◌+◌, ◌-◌, ◌*◌, ◌^◌, ◌<◌, ◌≤◌, ◌==◌, ◌||◌, ℤ, pos, negsuc, Bool, true, false, if◌then◌else◌, nat_le, List, [], ◌∷◌, length, get_or, Option, None, Some, option_map, refl, sym, ◌∙◌, ap, subst, arith, rules}
use Rattle.std.specs.Fmt.{decimal, signed_decimal}
use Rattle.std.proofs.lemmas.Fmt.{decimal-digits_value}
use Rattle.std.proofs.lemmas.Str.Parse.{IsNumeralModel, numerals_by_fold}
use Rattle.std.proofs.lemmas.Bool.Decides.{nat_tests}
use Rattle.trace_text.specs.Fields.{at_most, has_leading_zero, is_digit, number_in, value_on, negative_of, signed_in}

abbrev all_digits : List ℕ → Bool
all_digits [] = true
all_digits (byte ∷ field) = if is_digit byte then all_digits field else false

abbrev value_of : ℕ → List ℕ → ℕ
value_of value [] = value
value_of value (byte ∷ field) = value_of (10 * value + (byte - 48)) field

own : IsNumeralModel (λ field. all_digits field ≡ true) (value_of 0)
own = numerals_by_fold _ (search rules) value_of (search rules)

pub some_is : {A : Type 0} (x y : A) → Some x ≡ Some y → x ≡ y
some_is x y e = (cc)

read_value : (value : ℕ) (field : List ℕ) (n : ℕ) → value_on value field ≡ Some n → (all_digits field ≡ true) × (value_of value field ≡ n)
read_value value [] n e = (refl, some_is value n e)
read_value value (byte ∷ field) n e =
    elim (is_digit byte) as (λ b. (if b then value_on (10 * value + (byte - 48)) field else None) ≡ Some n → ((if b then all_digits field else false) ≡ true) × (value_of (10 * value + (byte - 48)) field ≡ n)) [
      | true ↦ λ h. read_value (10 * value + (byte - 48)) field n h
      | false ↦ λ h. (let clash : None ≡ Some n = h in cc clash)
    ] e

within : (most : ℕ) (read : Option ℕ) (n : ℕ) → at_most most read ≡ Some n → (read ≡ Some n) × (n ≤ most)
within most None n e = (let clash : None ≡ Some n = e in cc clash)
within most (Some value) n e =
    elim (nat_le value most) as (λ b. (nat_le value most ≡ b) → (if b then Some value else None) ≡ Some n → (Some value ≡ Some n) × (n ≤ most)) [
      | true ↦ λ t h. (h, subst (λ (m : ℕ). m ≤ most) (some_is value n h) (below t))
      | false ↦ λ t h. (let clash : None ≡ Some n = h in cc clash)
    ] refl e
  where
    below : {value most : ℕ} → nat_le value most ≡ true → value ≤ most
    below {value} {most} h = grind (arith, nat_tests)

-- where neither test holds
neither : (a b : Bool) (read : Option ℕ) (n : ℕ) → (if a || b then None else read) ≡ Some n → (a ≡ false) × (b ≡ false) × (read ≡ Some n)
neither true b read n e = (let clash : None ≡ Some n = e in cc clash)
neither false true read n e = (let clash : None ≡ Some n = e in cc clash)
neither false false read n e = (refl, refl, e)

alone : (field : List ℕ) → has_leading_zero field ≡ false → get_or field 0 0 ≡ 48 → 0 < length field → length field ≡ 1
alone [] h e low = absurd (omega arith)
alone (byte ∷ []) h e low = refl
alone (byte ∷ next ∷ field) h e low = (let clash : true ≡ false = sym (is_zero byte e) ∙ h in cc clash)
  where
    is_zero : (byte : ℕ) → byte ≡ 48 → (byte == 48) ≡ true
    is_zero byte e = grind (arith, nat_tests)

some_bytes : (field : List ℕ) → (length field == 0) ≡ false → 0 < length field
some_bytes field h = grind (arith, nat_tests)

pub number_again : (most : ℕ) (field : List ℕ) (n : ℕ) → most < 2 ^ 64 → number_in most field ≡ Some n → decimal n ≡ field
number_again most field n small e =
    let tests = neither (length field == 0) (has_leading_zero field) (at_most most (value_on 0 field)) n e in
    let read = within most (value_on 0 field) n tests.2 in
    let value = read_value 0 field n read.0 in
    let long : 0 < length field = some_bytes field tests.0 in
    let low : value_of 0 field < 2 ^ 64 = subst (λ (m : ℕ). m < 2 ^ 64) (sym value.1) (omega arith) in
    ap decimal (sym value.1) ∙ decimal-digits_value own field value.0 long (λ z. alone field tests.1 z long) low

negative_again : (read : Option ℕ) (z : ℤ) → negative_of read ≡ Some z → (n : ℕ) × (read ≡ Some (suc n)) × (z ≡ negsuc n)
negative_again None z e = (let clash : None ≡ Some z = e in cc clash)
negative_again (Some zero) z e = (let clash : None ≡ Some z = e in cc clash)
negative_again (Some (suc n)) z e = (n, refl, sym (some_is (negsuc n) z e))

positive_again : (read : Option ℕ) (z : ℤ) → option_map pos read ≡ Some z → (n : ℕ) × (read ≡ Some n) × (z ≡ pos n)
positive_again None z e = (let clash : None ≡ Some z = e in cc clash)
positive_again (Some n) z e = (n, refl, sym (some_is (pos n) z e))

pub signed_again : (most : ℕ) (field : List ℕ) (z : ℤ) → most < 2 ^ 64 → signed_in most field ≡ Some z → signed_decimal z ≡ field
signed_again most [] z small e = (let clash : None ≡ Some z = e in cc clash)
signed_again most (byte ∷ field) z small e =
    elim (byte == 45) as (λ b. ((byte == 45) ≡ b) → (if b then negative_of (number_in most field) else option_map pos (number_in most (byte ∷ field))) ≡ Some z → signed_decimal z ≡ byte ∷ field) [
      | true ↦ λ t h. (
          let made = negative_again (number_in most field) z h in
          ap signed_decimal made.2 ∙ ap (λ (rest : List ℕ). 45 ∷ rest) (number_again most field (suc made.0) small made.1) ∙ ap (λ (b : ℕ). b ∷ field) (sym (minus byte t))
          )
      | false ↦ λ t h. (
          let made = positive_again (number_in most (byte ∷ field)) z h in
          ap signed_decimal made.2 ∙ number_again most (byte ∷ field) made.0 small made.1
          )
    ] refl e
  where
    minus : (byte : ℕ) → (byte == 45) ≡ true → byte ≡ 45
    minus byte t = grind (arith, nat_tests)
