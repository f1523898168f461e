-- Lemmas on the flat bytes that pages show.
use Rattle.std.proofs.Common.{◌≡◌, ◌≢◌, ℕ, zero, suc, ◌+◌, ◌-◌, ◌*◌, ◌/◌, ◌%◌, ◌<◌, ◌≤◌, max, min, Bool, true, false, not, cond, ◌&&◌, ltb, leb, if◌then◌else◌, List, length, take, get_or, filter, Option, None, Some, unwrap_or, is_some, IsSome, nat_cmp, refl, sym, ap, ap₂, ◌∙◌, inl, inr, arith}
use Rattle.std.specs.Cmp.{nat_cmp_total, eq_by_cmp_equiv}
use Rattle.std.specs.Ordering.{eq_by_cmp}
use Rattle.std.specs.List.{range_with_len}
use Rattle.std.specs.List.Sorted.{IsStrictlySortedBy}
use Rattle.std.specs.Map.{keys_of}
use Rattle.std.specs.Set.{is_member}
use Rattle.std.proofs.lemmas.Bool.{cases_lt}
use Rattle.std.proofs.lemmas.Bool.Decides.{nat_tests}
use Rattle.std.proofs.lemmas.List.{same_lists, length-take, get_or-take, get_or_past, get_or_default, get_or-replicate}
use Rattle.std.proofs.lemmas.List.FromFn.{length-range_with_len, get_or-range_with_len, length-map-range_with_len, get_or-map-range_with_len}
use Rattle.std.proofs.lemmas.List.Kept.{IsStrictlySortedBy-filter}
use Rattle.std.proofs.lemmas.List.Sums.{length-filter}
use Rattle.std.proofs.lemmas.Map.Entries.{length-keys_of}
use Rattle.std.proofs.lemmas.Map.Keys.{IsDistinct-from_sorted, sorted_from_strictly_increasing}
use Rattle.std.proofs.lemmas.Map.Lookups.{exact_unsigned}
use Rattle.std.proofs.lemmas.Map.Made.{length-from_same_keys, is_member-filter, is_some-lookup}
use Rattle.std.proofs.lemmas.Map.Views.{tells_apart}
use Rattle.file_store.specs.FileBytes.{part, with_length, with_bytes_at, is_page_kept, page_of, page_count}
use Rattle.file_store.specs.Pages.{PageEntries, kept_page, page_at, byte_at, zero_page, flat, overlay_byte, AreWhole, AreTightWithin}
use Rattle.file_store.proofs.FileBytesLemmas.{length-resized, resized_at, length-overwritten, overwritten_at, length-part, part_at, all_zero_from}
use Rattle.file_store.proofs.WriteLemmas.{nonzero_place, not_all_zero}

pub length-flat : (size : ℕ) (pages : PageEntries) → length (flat size pages) ≡ size
length-flat size pages = length-map-range_with_len (byte_at pages) 0 size

-- the byte at an offset, also past the end, where both are 0
pub flat_at : (size : ℕ) (pages : PageEntries) → ((i : ℕ) → size ≤ i → byte_at pages i ≡ 0) → (i : ℕ) → get_or (flat size pages) i 0 ≡ byte_at pages i
flat_at size pages past i =
    elim (cases_lt i size) [
      | inl low ↦ get_or-map-range_with_len (byte_at pages) 0 size i i 0 low (omega arith)
      | inr high ↦ get_or_past (flat size pages) i 0 (omega (arith, length-flat size pages)) ∙ sym (past i high)
    ]

-- bytes that agree at each place below the size
pub flat_is : (size : ℕ) (pages : PageEntries) (xs : List ℕ) → length xs ≡ size → ((i : ℕ) → i < size → byte_at pages i ≡ get_or xs i 0) → flat size pages ≡ xs
flat_is size pages xs e h =
    same_lists (flat size pages) xs (length-flat size pages ∙ sym e) (λ k d l.
    let low : k < size = omega (arith, length-flat size pages) in
    get_or-map-range_with_len (byte_at pages) 0 size k k d low (omega arith) ∙ h k low ∙ get_or_default xs k 0 d (omega arith))

pub cut_is : (size old_size : ℕ) (old new : PageEntries) → ((i : ℕ) → old_size ≤ i → byte_at old i ≡ 0) → ((i : ℕ) → i < size → byte_at new i ≡ byte_at old i) → flat size new ≡ with_length size (flat old_size old)
cut_is size old_size old new past same =
    flat_is size new (with_length size (flat old_size old)) (length-resized size (flat old_size old)) (λ i low. same i low ∙ sym (resized_at size (flat old_size old) i low ∙ flat_at old_size old past i))

pub write_is : (size at : ℕ) (old mid new : PageEntries) (bytes : List ℕ) → ((i : ℕ) → size ≤ i → byte_at old i ≡ 0) → ((i : ℕ) → byte_at mid i ≡ byte_at old i) → ((i : ℕ) → byte_at new i ≡ overlay_byte (byte_at mid) at bytes i) → flat (max size (at + length bytes)) new ≡ with_bytes_at (flat size old) at bytes
write_is size at old mid new bytes past same written =
    let sizes : length (with_bytes_at (flat size old) at bytes) ≡ max size (at + length bytes) = length-overwritten (flat size old) at bytes ∙ ap (λ (n : ℕ). max n (at + length bytes)) (length-flat size old) in
    flat_is (max size (at + length bytes)) new (with_bytes_at (flat size old) at bytes) sizes (λ i low. written i ∙ under i ∙ sym (overwritten_at (flat size old) at bytes i))
  where
    under : (i : ℕ) → overlay_byte (byte_at mid) at bytes i ≡ overlay_byte (λ k. get_or (flat size old) k 0) at bytes i
    under i = ap (λ (b : ℕ). cond (leb at i && ltb i (at + length bytes)) (get_or bytes (i - at) 0) b) (same i ∙ sym (flat_at size old past i))

pub read_is : (size offset count len : ℕ) (pages : PageEntries) (bytes : List ℕ) → ((i : ℕ) → size ≤ i → byte_at pages i ≡ 0) → len ≡ min count (size - offset) → length bytes ≡ len → ((j : ℕ) → j < len → get_or bytes j 0 ≡ byte_at pages (offset + j)) → bytes ≡ part (flat size pages) offset count
read_is size offset count len pages bytes past e l h =
    same_lists bytes (part (flat size pages) offset count) (l ∙ e ∙ sym (length-part (flat size pages) offset count ∙ ap (λ (n : ℕ). min count (n - offset)) (length-flat size pages))) (λ k d low.
    let within : k < len = omega arith in
    let inside : k < length (part (flat size pages) offset count) = omega (arith, length-part (flat size pages) offset count, length-flat size pages) in
    get_or_default bytes k d 0 low ∙ h k within ∙ sym (part_at (flat size pages) offset count k (omega arith) ∙ flat_at size pages past (offset + k)) ∙ get_or_default (part (flat size pages) offset count) k 0 d inside)

-- which pages are kept
module _ (size : ℕ) (pages : PageEntries) (whole : AreWhole pages) (within : AreTightWithin size pages) where
  page_byte : (page j : ℕ) → j < 4096 → get_or (page_at pages page) j 0 ≡ byte_at pages (page * 4096 + j)
  page_byte page j low =
      let here : (page * 4096 + j) / 4096 ≡ page = omega arith in
      let place : (page * 4096 + j) % 4096 ≡ j = omega arith in
      sym (ap (λ (k : ℕ). get_or (page_at pages k) ((page * 4096 + j) % 4096) 0) here ∙ ap (λ (n : ℕ). get_or (page_at pages page) n 0) place)

  flat_page : (page j : ℕ) → j < 4096 → get_or (part (flat size pages) (page * 4096) 4096) j 0 ≡ get_or (page_at pages page) j 0
  flat_page page j low =
      part_at (flat size pages) (page * 4096) 4096 j low ∙ flat_at size pages within.past (page * 4096 + j) ∙ sym (page_byte page j low)

  -- a kept page has a byte other than 0 below the size
  kept_has : (page : ℕ) → IsSome (kept_page pages page) → (j : ℕ) × (j < 4096) × (page * 4096 + j < size) × (get_or (page_at pages page) j 0 ≢ 0)
  kept_has page some =
      let found = nonzero_place (page_at pages page) (within.tight page some) in
      let low : found.0 < 4096 = omega (arith, found.1, whole page) in
      (found.0, low, elim (cases_lt (page * 4096 + found.0) size) [ inl inside ↦ inside | inr past ↦ absurd (found.2 (page_byte page found.0 low ∙ within.past (page * 4096 + found.0) past)) ], found.2)

  kept_is : (page : ℕ) → is_page_kept (flat size pages) page ≡ is_some (kept_page pages page)
  kept_is page = by_cases (kept_page pages page) refl where
    by_cases : (found : Option (List ℕ)) → kept_page pages page ≡ found → is_page_kept (flat size pages) page ≡ is_some found
    by_cases (Some bytes) e =
        let has = kept_has page (ap is_some e) in
        ap not (not_all_zero (part (flat size pages) (page * 4096) 4096) has.0 (λ z. has.3 (sym (flat_page page has.0 has.1) ∙ z)))
    by_cases None e =
        let zeros : (j : ℕ) → get_or (part (flat size pages) (page * 4096) 4096) j 0 ≡ 0 =
        λ j. elim (cases_lt j 4096) [
          | inl low ↦ flat_page page j low ∙ ap (λ (o : Option (List ℕ)). get_or (unwrap_or o zero_page) j 0) e ∙ get_or-replicate 4096 j 0 0 low
          | inr high ↦ get_or_past (part (flat size pages) (page * 4096) 4096) j 0 (omega (arith, length-part (flat size pages) (page * 4096) 4096))
        ] in
        ap not (all_zero_from (part (flat size pages) (page * 4096) 4096) zeros)

  pub not_kept : (page : ℕ) → None ≡ kept_page pages page → None ≡ page_of (flat size pages) page
  not_kept page e = ap (λ (b : Bool). if b then Some (part (flat size pages) (page * 4096) 4096) else None) (ap is_some e ∙ sym (kept_is page))

  -- what is kept of a page, up to the size
  pub kept_up_to : (page count : ℕ) (bytes : List ℕ) → Some bytes ≡ kept_page pages page → count ≡ min (size - page * 4096) 4096 → Some (take count bytes) ≡ page_of (flat size pages) page
  kept_up_to page count bytes e n =
      let is : bytes ≡ page_at pages page = ap (λ (found : Option (List ℕ)). unwrap_or found zero_page) e in
      let whole_page : length bytes ≡ 4096 = ap length is ∙ whole page in
      let shown = part (flat size pages) (page * 4096) 4096 in
      let cut : take count bytes ≡ shown =
      same_lists (take count bytes) shown (omega (arith, length-take count bytes, whole_page, length-part (flat size pages) (page * 4096) 4096, length-flat size pages)) (λ k d low.
      let below : k < count = omega (arith, length-take count bytes, low) in
      let inside : k < length shown = omega (arith, below, length-part (flat size pages) (page * 4096) 4096, length-flat size pages) in
      get_or-take count bytes k d below ∙ get_or_default bytes k d 0 (omega arith) ∙ ap (λ (xs : List ℕ). get_or xs k 0) is
      ∙ sym (flat_page page k (omega arith)) ∙ get_or_default shown k 0 d inside) in
      ap Some cut ∙ ap (λ (b : Bool). if b then Some shown else None) (ap is_some e ∙ sym (kept_is page))

  range_has : (a n q : ℕ) → is_member (eq_by_cmp nat_cmp) (range_with_len a n) q ≡ (leb a q && ltb q (a + n))
  range_has a zero q = grind (arith, nat_tests)
  range_has a (suc n) q = let rest = range_has (a + 1) n q in grind (arith, nat_tests, rest)

  same_members : (q : ℕ) → is_member (eq_by_cmp nat_cmp) (keys_of pages) q ≡ is_member (eq_by_cmp nat_cmp) (filter (is_page_kept (flat size pages)) (range_with_len 0 ((length (flat size pages) + 4095) / 4096))) q
  same_members q =
      let test = is_page_kept (flat size pages) in
      let range = range_with_len 0 ((length (flat size pages) + 4095) / 4096) in
      sym (is_some-lookup (eq_by_cmp nat_cmp q) pages)
      ∙ below (is_some (kept_page pages q)) refl
      ∙ ap₂ (λ (a b : Bool). a && b) (sym (range_has 0 ((length (flat size pages) + 4095) / 4096) q)) (sym (kept_is q))
      ∙ sym (is_member-filter (eq_by_cmp_equiv nat_cmp_total) test q (λ x e. ap test (tells_apart exact_unsigned q x e)) range)
    where
      below : (b : Bool) → is_some (kept_page pages q) ≡ b → b ≡ ((leb 0 q && ltb q (0 + ((length (flat size pages) + 4095) / 4096))) && b)
      below true e =
          let has = kept_has q e in
          let low : q < 0 + ((length (flat size pages) + 4095) / 4096) = omega (arith, has.2, length-flat size pages) in
          grind (arith, nat_tests)
      below false e = grind (arith, nat_tests)

  pub count_is : IsStrictlySortedBy nat_cmp (keys_of pages) → length pages ≡ page_count (flat size pages)
  count_is ordered =
      let test = is_page_kept (flat size pages) in
      let count : ℕ = (length (flat size pages) + 4095) / 4096 in
      let range = range_with_len 0 count in
      let laws = eq_by_cmp_equiv nat_cmp_total in
      let rises = sorted_from_strictly_increasing range (λ k low.
      let here : k < count = omega (arith, length-range_with_len 0 count) in
      let next : k + 1 < count = omega (arith, length-range_with_len 0 count) in
      omega (arith, get_or-range_with_len 0 count k 0 here, get_or-range_with_len 0 count (k + 1) 0 next)) in
      let picked = IsDistinct-from_sorted nat_cmp (filter test range) (IsStrictlySortedBy-filter nat_cmp test range rises) in
      let keys = IsDistinct-from_sorted nat_cmp (keys_of pages) ordered in
      sym (length-keys_of pages)
      ∙ length-from_same_keys laws (keys_of pages) (filter test range) keys picked same_members
      ∙ length-filter test range
