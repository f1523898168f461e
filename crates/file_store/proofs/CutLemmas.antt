-- Lemmas on bytes that are cut off.
use Rattle.std.proofs.Common.{◌≡◌, ◌≢◌, ℕ, ◌+◌, ◌-◌, ◌/◌, ◌%◌, ◌<◌, ◌≤◌, Bool, cond, ltb, List, ◌++◌, take, get_or, replicate, Option, None, unwrap_or, sym, ap, ◌∙◌, inl, inr, arith}
use Rattle.std.proofs.lemmas.Bool.{cases_lt, cases_eq, lt-ltb, le-ltb}
use Rattle.std.proofs.lemmas.List.{length-take-le, get_or_append_left, get_or-append_right, get_or-take, get_or-replicate}
use Rattle.file_store.specs.Pages.{PageEntries, kept_page, page_at, byte_at, zero_page, AreWhole}

-- only the pages below a number were kept
module _ (old mid : PageEntries) (first : ℕ) (dropped : (k : ℕ) → kept_page mid k ≡ cond (ltb k first) (kept_page old k) None) where
  byte_below : (i : ℕ) → i / 4096 < first → byte_at mid i ≡ byte_at old i
  byte_below i low =
      ap (λ (o : Option (List ℕ)). get_or (unwrap_or o zero_page) (i % 4096) 0) (dropped (i / 4096) ∙ ap (λ (b : Bool). cond b (kept_page old (i / 4096)) None) (lt-ltb (i / 4096) first low))

  byte_from : (i : ℕ) → first ≤ i / 4096 → byte_at mid i ≡ 0
  byte_from i high =
      ap (λ (o : Option (List ℕ)). get_or (unwrap_or o zero_page) (i % 4096) 0) (dropped (i / 4096) ∙ ap (λ (b : Bool). cond b (kept_page old (i / 4096)) None) (le-ltb (i / 4096) first high))
      ∙ get_or-replicate 4096 (i % 4096) 0 0 (omega arith)

  -- the cut is between two pages
  pub cut_between : (size : ℕ) → size % 4096 ≡ 0 → first ≡ size / 4096 → (i : ℕ) → byte_at mid i ≡ cond (ltb i size) (byte_at old i) 0
  cut_between size even e i =
      elim (cases_lt i size) [
        | inl low ↦ byte_below i (omega arith) ∙ sym (ap (λ (b : Bool). cond b (byte_at old i) 0) (lt-ltb i size low))
        | inr high ↦ byte_from i (omega arith) ∙ sym (ap (λ (b : Bool). cond b (byte_at old i) 0) (le-ltb i size high))
      ]

  -- the cut is within a page, of which the rest was cleared
  pub cut_within : (new : PageEntries) (size : ℕ) → AreWhole mid → 0 < size % 4096 → first ≡ size / 4096 + 1 → ((k : ℕ) → k ≢ size / 4096 → kept_page new k ≡ kept_page mid k) → page_at new (size / 4096) ≡ take (size % 4096) (page_at mid (size / 4096)) ++ replicate (4096 - size % 4096) 0 → (i : ℕ) → byte_at new i ≡ cond (ltb i size) (byte_at old i) 0
  cut_within new size whole odd e others written i =
      let front = length-take-le (size % 4096) (page_at mid (size / 4096)) (omega (arith, whole (size / 4096))) in
      let below : i < size → byte_at old i ≡ cond (ltb i size) (byte_at old i) 0 = λ low. sym (ap (λ (b : Bool). cond b (byte_at old i) 0) (lt-ltb i size low)) in
      let above : size ≤ i → 0 ≡ cond (ltb i size) (byte_at old i) 0 = λ high. sym (ap (λ (b : Bool). cond b (byte_at old i) 0) (le-ltb i size high)) in
      elim (cases_eq (i / 4096) (size / 4096)) [
        | inl here ↦
            let read : byte_at new i ≡ get_or (take (size % 4096) (page_at mid (size / 4096)) ++ replicate (4096 - size % 4096) 0) (i % 4096) 0 =
            ap (λ (k : ℕ). get_or (page_at new k) (i % 4096) 0) here ∙ ap (λ (bytes : List ℕ). get_or bytes (i % 4096) 0) written in
            elim (cases_lt (i % 4096) (size % 4096)) [
              | inl low ↦
                  read
                  ∙ get_or_append_left (take (size % 4096) (page_at mid (size / 4096))) (replicate (4096 - size % 4096) 0) 0 (i % 4096) (omega arith)
                  ∙ get_or-take (size % 4096) (page_at mid (size / 4096)) (i % 4096) 0 low
                  ∙ ap (λ (k : ℕ). get_or (page_at mid k) (i % 4096) 0) (sym here)
                  ∙ byte_below i (omega arith) ∙ below (omega arith)
              | inr high ↦
                  read
                  ∙ get_or-append_right (take (size % 4096) (page_at mid (size / 4096))) (replicate (4096 - size % 4096) 0) (size % 4096) (i % 4096) 0 front high
                  ∙ get_or-replicate (4096 - size % 4096) (i % 4096 - size % 4096) 0 0 (omega arith)
                  ∙ above (omega arith)
            ]
        | inr other ↦
            let same : byte_at new i ≡ byte_at mid i = ap (λ (o : Option (List ℕ)). get_or (unwrap_or o zero_page) (i % 4096) 0) (others (i / 4096) other) in
            elim (cases_lt i size) [
              | inl low ↦ same ∙ byte_below i (omega arith) ∙ below low
              | inr high ↦ same ∙ byte_from i (omega arith) ∙ above high
            ]
      ]
