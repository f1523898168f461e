-- The bytes of a page up to the last other than 0, and the lines of pages.
use Rattle.std.proofs.Common.{◌≡◌, ◌≢◌, ℕ, zero, suc, ◌+◌, ◌==◌, ◌&&◌, if◌then◌else◌, Bool, true, false, List, [], ◌∷◌, ◌++◌, length, option_map, Option, None, Some, IfSome, append_assoc, append-nil, refl, sym, ◌∙◌, ap, arith}
use Rattle.std.specs.Int.{div_ceil}
use Rattle.std.specs.List.{flat_map, range_with_len}
use Rattle.std.proofs.lemmas.Bool.Decides.{nat_tests}
use Rattle.std.proofs.lemmas.Grind.{flat_map-append}
use Rattle.file_store.specs.declared.file.File.{File}
use Rattle.file_store.specs.FileBytes.{all_zero, page_of}
use Rattle.trace_text.specs.Texts.{page_line, page_lines, pages_in, up_to_last}

zero_more : (bytes : List ℕ) → all_zero (bytes ++ 0 ∷ []) ≡ all_zero bytes
zero_more [] = refl
zero_more (byte ∷ bytes) = ap (λ (rest : Bool). (byte == 0) && rest) (zero_more bytes)

-- a last 0 is left out
pub last_zero : (bytes : List ℕ) → up_to_last (bytes ++ 0 ∷ []) ≡ up_to_last bytes
last_zero [] = refl
last_zero (byte ∷ bytes) =
    ap (λ (b : Bool). if (byte == 0) && b then [] else byte ∷ up_to_last (bytes ++ 0 ∷ [])) (zero_more bytes)
    ∙ ap (λ (rest : List ℕ). if (byte == 0) && all_zero bytes then [] else byte ∷ rest) (last_zero bytes)

no_zero : (byte : ℕ) → byte ≢ 0 → (byte == 0) ≡ false
no_zero byte h = grind (arith, nat_tests)

none_and : (b : Bool) → b && false ≡ false
none_and true = refl
none_and false = refl

not_zero : (bytes : List ℕ) (byte : ℕ) → byte ≢ 0 → all_zero (bytes ++ byte ∷ []) ≡ false
not_zero [] byte h = ap (λ (b : Bool). b && true) (no_zero byte h)
not_zero (first ∷ bytes) byte h = ap (λ (rest : Bool). (first == 0) && rest) (not_zero bytes byte h) ∙ none_and (first == 0)

-- a last byte other than 0 is the end
pub last_other : (bytes : List ℕ) (byte : ℕ) → byte ≢ 0 → up_to_last (bytes ++ byte ∷ []) ≡ bytes ++ byte ∷ []
last_other [] byte h = ap (λ (b : Bool). if b && true then [] else byte ∷ []) (no_zero byte h)
last_other (first ∷ bytes) byte h =
    ap (λ (b : Bool). if (first == 0) && b then [] else first ∷ up_to_last (bytes ++ byte ∷ [])) (not_zero bytes byte h)
    ∙ ap (λ (b : Bool). if b then [] else first ∷ up_to_last (bytes ++ byte ∷ [])) (none_and (first == 0))
    ∙ ap (λ (rest : List ℕ). first ∷ rest) (last_other bytes byte h)

-- one page more
range_more : (from count : ℕ) → range_with_len from (suc count) ≡ range_with_len from count ++ (from + count) ∷ []
range_more from zero = ap (λ (n : ℕ). n ∷ []) (same from)
  where
    same : (n : ℕ) → n ≡ n + 0
    same n = omega arith
range_more from (suc count) =
    ap (λ (rest : List ℕ). from ∷ rest) (range_more (from + 1) count ∙ ap (λ (n : ℕ). range_with_len (from + 1) count ++ n ∷ []) (next from count))
  where
    next : (n k : ℕ) → (n + 1) + k ≡ n + suc k
    next n k = omega arith

numbers_more : (count : ℕ) → range_with_len 0 (count + 1) ≡ range_with_len 0 count ++ count ∷ []
numbers_more count = ap (range_with_len 0) (one_more count) ∙ range_more 0 count ∙ ap (λ (n : ℕ). range_with_len 0 count ++ n ∷ []) (none_before count)
  where
    one_more : (n : ℕ) → n + 1 ≡ suc n
    one_more n = omega arith

    none_before : (n : ℕ) → 0 + n ≡ n
    none_before n = omega arith

pub pages_more : (old text new : List ℕ) (page : ℕ) (file : Option File) → IfSome file (λ found. text ≡ old ++ flat_map (λ page. page_line page (page_of found.bytes page)) (range_with_len 0 page))
    → IfSome file (λ found. new ≡ text ++ page_line page (page_of found.bytes page)) → IfSome file (λ found. new ≡ old ++ flat_map (λ page. page_line page (page_of found.bytes page)) (range_with_len 0 (page + 1)))
pages_more old text new page None so_far more = tt
pages_more old text new page (Some found) so_far more =
    let line : ℕ → List ℕ = λ number. page_line number (page_of found.bytes number) in
    let last : flat_map line (range_with_len 0 (page + 1)) ≡ flat_map line (range_with_len 0 page) ++ line page =
    ap (flat_map line) (numbers_more page) ∙ flat_map-append line (range_with_len 0 page) (page ∷ []) ∙ ap (λ (rest : List ℕ). flat_map line (range_with_len 0 page) ++ rest) (append-nil (line page)) in
    more ∙ ap (λ (front : List ℕ). front ++ line page) so_far ∙ append_assoc old (flat_map line (range_with_len 0 page)) (line page) ∙ ap (λ (rest : List ℕ). old ++ rest) (sym last)

-- all of them
pub pages_are : (old text : List ℕ) (size count : ℕ) (file : Option File) → option_map (λ found. length found.bytes) file ≡ Some size → count ≡ pages_in size
    → IfSome file (λ found. text ≡ old ++ flat_map (λ page. page_line page (page_of found.bytes page)) (range_with_len 0 count)) → IfSome file (λ found. text ≡ old ++ page_lines found.bytes)
pages_are old text size count None e n written = tt
pages_are old text size count (Some found) e n written =
    let sized : length found.bytes ≡ size = cc e in
    written ∙ ap (λ (k : ℕ). old ++ flat_map (λ page. page_line page (page_of found.bytes page)) (range_with_len 0 k)) (n ∙ ap pages_in (sym sized))

pub div_ceil_is : (size : ℕ) → div_ceil size 4096 ≡ pages_in size
div_ceil_is size = omega arith
