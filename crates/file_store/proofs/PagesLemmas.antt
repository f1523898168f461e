-- Lemmas on files in pages.
use Rattle.std.proofs.Common.{◌≡◌, ℕ, ◌+◌, ◌-◌, ◌≤◌, ◌==◌, Bool, true, false, not, cond, ltb, filter, ◌&&◌, List, [], ◌∷◌, ◌++◌, length, take, drop, replicate, Option, None, Some, unwrap_or, is_some, IsSome, nat_cmp, refl, sym, ap, ap₂, ◌∙◌, inl, inr, ◌⊎◌, arith}
use Rattle.std.proofs.lemmas.Bool.{false≢true}
use Rattle.std.proofs.lemmas.Bool.Decides.{Decides-eqb}
use Rattle.std.proofs.lemmas.List.{take-replicate, drop-replicate, length-replicate, replicate-append-replicate}
use Rattle.std.specs.Cmp.{nat_cmp_total, eq_by_cmp_equiv}
use Rattle.std.specs.List.Sorted.{IsStrictlySortedBy}
use Rattle.std.specs.Map.{keys_of}
use Rattle.std.specs.BTreeMap.{is_at}
use Rattle.std.proofs.lemmas.Map.Lookups.{exact_unsigned}
use Rattle.std.proofs.lemmas.Map.Views.{tells_apart}
use Rattle.std.proofs.lemmas.Map.Entries.{option_filter, lookup-filter-values, lookup-filter-keys}
use Rattle.std.proofs.lemmas.Map.Keys.{IsDistinct-from_sorted}
use Rattle.file_store.specs.FileBytes.{all_zero}
use Rattle.file_store.specs.Pages.{PageEntries, kept_page, page_at, zero_page, AreTight, AreWhole}

cases_bool : (b : Bool) → (b ≡ true) ⊎ (b ≡ false)
cases_bool true = inl refl
cases_bool false = inr refl

-- the parts of a test by `&&`
both_true : (a b : Bool) → (a && b) ≡ true → (a ≡ true) × (b ≡ true)
both_true true b e = (refl, e)
both_true false b e = absurd (false≢true e)

-- bytes that are all 0 are so many zeros
pub all_zero_is : (xs : List ℕ) → all_zero xs ≡ true → xs ≡ replicate (length xs) 0
all_zero_is [] e = refl
all_zero_is (x ∷ xs) e =
    let parts = both_true (x == 0) (all_zero xs) e in
    ap₂ (λ (y : ℕ) (ys : List ℕ). y ∷ ys) ((Decides-eqb x 0).0 parts.0) (all_zero_is xs parts.1)

pub zero_page_is : (xs : List ℕ) → all_zero xs ≡ true → length xs ≡ 4096 → xs ≡ zero_page
zero_page_is xs e l = all_zero_is xs e ∙ ap (λ (n : ℕ). replicate n 0) l

-- zeros that are written into a page of zeros leave it as it was
pub zeros_written : (start : ℕ) (piece : List ℕ) → start + length piece ≤ 4096 → all_zero piece ≡ true → zero_page ≡ take start zero_page ++ (piece ++ drop (start + length piece) zero_page)
zeros_written start piece fits e =
    let n = length piece in
    let whole : 4096 ≡ start + (n + (4096 - (start + n))) = omega arith in
    ap (λ (m : ℕ). replicate m 0) whole
    ∙ sym (replicate-append-replicate start (n + (4096 - (start + n))) 0)
    ∙ ap (λ (zs : List ℕ). replicate start 0 ++ zs) (sym (replicate-append-replicate n (4096 - (start + n)) 0))
    ∙ ap (λ (zs : List ℕ). zs ++ (replicate n 0 ++ replicate (4096 - (start + n)) 0)) (sym (take-replicate start 4096 0 (omega arith)))
    ∙ ap₂ (λ (zs ts : List ℕ). take start zero_page ++ (zs ++ ts)) (sym (all_zero_is piece e)) (sym (drop-replicate (start + n) 4096 0))

pub zeros_cleared : (start : ℕ) → start ≤ 4096 → zero_page ≡ take start zero_page ++ replicate (4096 - start) 0
zeros_cleared start fits =
    let whole : 4096 ≡ start + (4096 - start) = omega arith in
    ap (λ (m : ℕ). replicate m 0) whole
    ∙ sym (replicate-append-replicate start (4096 - start) 0)
    ∙ ap (λ (zs : List ℕ). zs ++ replicate (4096 - start) 0) (sym (take-replicate start 4096 0 fits))

-- a page by what was found of it
pub page_none : (found : Option (List ℕ)) → found ≡ None → unwrap_or found zero_page ≡ zero_page
page_none found e = ap (λ (o : Option (List ℕ)). unwrap_or o zero_page) e

pub page_some : (found : Option (List ℕ)) (kept : List ℕ) → found ≡ Some kept → unwrap_or found zero_page ≡ kept
page_some found kept e = ap (λ (o : Option (List ℕ)). unwrap_or o zero_page) e

-- what asks for a page that is not kept is zeros
pub true_from_room : (found : Option (List ℕ)) (b : Bool) → found ≡ None → (b ≡ false → IsSome found) → b ≡ true
true_from_room found true e h = refl
true_from_room found false e h = absurd (false≢true (ap is_some (sym e) ∙ h refl))

-- the pages after those that are zeros were given up
module _ (pages new : PageEntries) (ordered : IsStrictlySortedBy nat_cmp (keys_of pages)) (kept : new ≡ filter (λ (e : ℕ × List ℕ). not (all_zero e.1)) pages) where
  found_after : (page : ℕ) → kept_page new page ≡ option_filter (λ (bytes : List ℕ). not (all_zero bytes)) (kept_page pages page)
  found_after page =
      ap (λ (es : PageEntries). kept_page es page) kept
      ∙ lookup-filter-values (eq_by_cmp_equiv nat_cmp_total) (λ (bytes : List ℕ). not (all_zero bytes)) page pages (IsDistinct-from_sorted nat_cmp (keys_of pages) ordered)

  same_found : (found after : Option (List ℕ)) → after ≡ option_filter (λ (bytes : List ℕ). not (all_zero bytes)) found → length (unwrap_or found zero_page) ≡ 4096 → unwrap_or after zero_page ≡ unwrap_or found zero_page
  same_found None after e whole = page_none after e
  same_found (Some bytes) after e whole =
      elim (cases_bool (all_zero bytes)) [
        | inl zeros ↦ page_none after (e ∙ ap (λ (b : Bool). cond (not b) (Some bytes) None) zeros) ∙ sym (zero_page_is bytes zeros whole)
        | inr other ↦ page_some after bytes (e ∙ ap (λ (b : Bool). cond (not b) (Some bytes) None) other)
      ]

  pub page_after : (page : ℕ) → length (page_at pages page) ≡ 4096 → page_at new page ≡ page_at pages page
  page_after page whole = same_found (kept_page pages page) (kept_page new page) (found_after page) whole

  not_zero : (found after : Option (List ℕ)) → after ≡ option_filter (λ (bytes : List ℕ). not (all_zero bytes)) found → IsSome after → all_zero (unwrap_or after zero_page) ≡ false
  not_zero None after e some = absurd (false≢true (ap is_some (sym e) ∙ some))
  not_zero (Some bytes) after e some =
      elim (cases_bool (all_zero bytes)) [
        | inl zeros ↦ absurd (false≢true (ap is_some (sym (e ∙ ap (λ (b : Bool). cond (not b) (Some bytes) None) zeros)) ∙ some))
        | inr other ↦ ap all_zero (page_some after bytes (e ∙ ap (λ (b : Bool). cond (not b) (Some bytes) None) other)) ∙ other
      ]

  pub tight_after : AreTight new
  tight_after page some = not_zero (kept_page pages page) (kept_page new page) (found_after page) some

-- the pages below a number
pub found_below : (pages new : PageEntries) (first : ℕ) → new ≡ filter (λ (e : ℕ × List ℕ). ltb e.0 first) pages → (page : ℕ) → kept_page new page ≡ cond (ltb page first) (kept_page pages page) None
found_below pages new first kept page =
    ap (λ (es : PageEntries). kept_page es page) kept
    ∙ lookup-filter-keys (is_at (nat_cmp page)) (λ (k : ℕ). ltb k first) (ltb page first) (λ k same. ap (λ (n : ℕ). ltb n first) (sym (tells_apart exact_unsigned page k same))) pages

pub whole_below : (pages new : PageEntries) (first : ℕ) → ((page : ℕ) → kept_page new page ≡ cond (ltb page first) (kept_page pages page) None) → AreWhole pages → AreWhole new
whole_below pages new first found whole page =
    elim (cases_bool (ltb page first)) [
      | inl low ↦ ap (λ (o : Option (List ℕ)). length (unwrap_or o zero_page)) (found page ∙ ap (λ (b : Bool). cond b (kept_page pages page) None) low) ∙ whole page
      | inr high ↦ ap (λ (o : Option (List ℕ)). length (unwrap_or o zero_page)) (found page ∙ ap (λ (b : Bool). cond b (kept_page pages page) None) high) ∙ length-replicate {A = ℕ} 4096 0
    ]
