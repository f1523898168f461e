-- Lemmas on bytes that are written over others, page by page.
use Rattle.std.proofs.Common.{◌≡◌, ◌≢◌, ℕ, zero, suc, ◌+◌, ◌-◌, ◌/◌, ◌%◌, ◌<◌, ◌≤◌, ◌==◌, Bool, true, false, cond, ◌&&◌, ltb, leb, List, [], ◌∷◌, ◌++◌, length, take, drop, get_or, Option, unwrap_or, IsSome, refl, sym, ap, subst, ◌∙◌, inl, inr, arith}
use Rattle.std.proofs.lemmas.Bool.{cases_lt, cases_eq, false≢true}
use Rattle.std.proofs.lemmas.Bool.Decides.{nat_tests, Decides-eqb}
use Rattle.std.proofs.lemmas.List.{length-append, length-take-le, get_or_append_left, get_or-append_right, get_or-take, get_or-drop}
use Rattle.file_store.specs.FileBytes.{all_zero}
use Rattle.file_store.specs.Pages.{PageEntries, kept_page, page_at, byte_at, zero_page, overlay_byte, AreWhole, Touches, AreReadyFor}

-- what stands under new bytes and outside of them
pub overlaid_inside : (f : ℕ → ℕ) (at : ℕ) (new : List ℕ) (i : ℕ) → at ≤ i → i < at + length new → overlay_byte f at new i ≡ get_or new (i - at) 0
overlaid_inside f at new i low high =
    let inside : (leb at i && ltb i (at + length new)) ≡ true = grind (arith, nat_tests) in
    ap (λ (b : Bool). cond b (get_or new (i - at) 0) (f i)) inside

pub overlaid_before : (f : ℕ → ℕ) (at : ℕ) (new : List ℕ) (i : ℕ) → i < at → overlay_byte f at new i ≡ f i
overlaid_before f at new i low =
    let outside : (leb at i && ltb i (at + length new)) ≡ false = grind (arith, nat_tests) in
    ap (λ (b : Bool). cond b (get_or new (i - at) 0) (f i)) outside

pub overlaid_after : (f : ℕ → ℕ) (at : ℕ) (new : List ℕ) (i : ℕ) → at + length new ≤ i → overlay_byte f at new i ≡ f i
overlaid_after f at new i high =
    let outside : (leb at i && ltb i (at + length new)) ≡ false = grind (arith, nat_tests) in
    ap (λ (b : Bool). cond b (get_or new (i - at) 0) (f i)) outside

-- bytes that are written in two pieces
pub overlaid_append : (f g : ℕ → ℕ) (at : ℕ) (xs ys : List ℕ) → ((i : ℕ) → g i ≡ overlay_byte f at xs i) → (i : ℕ) → overlay_byte g (at + length xs) ys i ≡ overlay_byte f at (xs ++ ys) i
overlaid_append f g at xs ys first i =
    let total = length-append xs ys in
    elim (cases_lt i at) [
      | inl before ↦ overlaid_before g (at + length xs) ys i (omega arith) ∙ first i ∙ overlaid_before f at xs i before ∙ sym (overlaid_before f at (xs ++ ys) i before)
      | inr from ↦
          elim (cases_lt i (at + length xs)) [
            | inl under ↦
                overlaid_before g (at + length xs) ys i under ∙ first i ∙ overlaid_inside f at xs i from under
                ∙ sym (get_or_append_left xs ys 0 (i - at) (omega arith))
                ∙ sym (overlaid_inside f at (xs ++ ys) i from (omega arith))
            | inr past ↦
                elim (cases_lt i (at + length xs + length ys)) [
                  | inl inside ↦
                      let place : i - at - length xs ≡ i - (at + length xs) = omega arith in
                      overlaid_inside g (at + length xs) ys i past inside
                      ∙ ap (λ (n : ℕ). get_or ys n 0) (sym place)
                      ∙ sym (get_or-append_right xs ys (length xs) (i - at) 0 refl (omega arith))
                      ∙ sym (overlaid_inside f at (xs ++ ys) i from (omega arith))
                  | inr after ↦ overlaid_after g (at + length xs) ys i after ∙ first i ∙ overlaid_after f at xs i past ∙ sym (overlaid_after f at (xs ++ ys) i (omega arith))
                ]
          ]
    ]

-- a place of bytes that are not all 0
pub nonzero_place : (xs : List ℕ) → all_zero xs ≡ false → (place : ℕ) × (place < length xs) × (get_or xs place 0 ≢ 0)
nonzero_place [] e = absurd (false≢true (sym e))
nonzero_place (x ∷ xs) e =
    elim (cases_eq x 0) [
      | inl zero_byte ↦
          let rest : all_zero xs ≡ false = sym (ap (λ (b : Bool). b && all_zero xs) ((Decides-eqb x 0).1 zero_byte)) ∙ e in
          let found = nonzero_place xs rest in
          let past : found.0 + 1 < suc (length xs) = omega (arith, found.1) in
          (suc found.0, omega (arith, found.1), found.2)
      | inr other ↦ (0, omega arith, other)
    ]

-- the other way: a byte other than 0 keeps them from being all 0
pub all_zero_at : (xs : List ℕ) (place : ℕ) → all_zero xs ≡ true → get_or xs place 0 ≡ 0
all_zero_at [] place e = refl
all_zero_at (x ∷ xs) zero e = elim (cases_eq x 0) [ inl same ↦ same | inr other ↦ absurd (other (grind (arith, nat_tests))) ]
all_zero_at (x ∷ xs) (suc n) e = all_zero_at xs n (both x xs e) where
  both : (y : ℕ) (ys : List ℕ) → ((y == 0) && all_zero ys) ≡ true → all_zero ys ≡ true
  both y ys h = second (y == 0) (all_zero ys) h where
    second : (a b : Bool) → (a && b) ≡ true → b ≡ true
    second true b k = k
    second false b k = absurd (false≢true k)

-- one page in which a piece was written
module _ (old new : PageEntries) (at : ℕ) (piece : List ℕ) (whole : AreWhole old) (fits : at % 4096 + length piece ≤ 4096) (others : (k : ℕ) → k ≢ at / 4096 → kept_page new k ≡ kept_page old k) (written : page_at new (at / 4096) ≡ take (at % 4096) (page_at old (at / 4096)) ++ (piece ++ drop (at % 4096 + length piece) (page_at old (at / 4096)))) where
  page_elsewhere : (k : ℕ) → k ≢ at / 4096 → page_at new k ≡ page_at old k
  page_elsewhere k other = ap (λ (o : Option (List ℕ)). unwrap_or o zero_page) (others k other)

  pub piece_written : (i : ℕ) → byte_at new i ≡ overlay_byte (byte_at old) at piece i
  piece_written i =
      let front = length-take-le (at % 4096) (page_at old (at / 4096)) (omega (arith, whole (at / 4096))) in
      elim (cases_eq (i / 4096) (at / 4096)) [
        | inl here ↦
            let read : byte_at new i ≡ get_or (take (at % 4096) (page_at old (at / 4096)) ++ (piece ++ drop (at % 4096 + length piece) (page_at old (at / 4096)))) (i % 4096) 0 =
            ap (λ (k : ℕ). get_or (page_at new k) (i % 4096) 0) here ∙ ap (λ (bytes : List ℕ). get_or bytes (i % 4096) 0) written in
            let same : get_or (page_at old (at / 4096)) (i % 4096) 0 ≡ byte_at old i = ap (λ (k : ℕ). get_or (page_at old k) (i % 4096) 0) (sym here) in
            elim (cases_lt (i % 4096) (at % 4096)) [
              | inl before ↦
                  read
                  ∙ get_or_append_left (take (at % 4096) (page_at old (at / 4096))) (piece ++ drop (at % 4096 + length piece) (page_at old (at / 4096))) 0 (i % 4096) (omega arith)
                  ∙ get_or-take (at % 4096) (page_at old (at / 4096)) (i % 4096) 0 before
                  ∙ same
                  ∙ sym (overlaid_before (byte_at old) at piece i (omega arith))
              | inr from ↦
                  let past = get_or-append_right (take (at % 4096) (page_at old (at / 4096))) (piece ++ drop (at % 4096 + length piece) (page_at old (at / 4096))) (at % 4096) (i % 4096) 0 front from in
                  elim (cases_lt (i % 4096) (at % 4096 + length piece)) [
                    | inl inside ↦
                        let place : i % 4096 - at % 4096 ≡ i - at = omega arith in
                        read ∙ past
                        ∙ get_or_append_left piece (drop (at % 4096 + length piece) (page_at old (at / 4096))) 0 (i % 4096 - at % 4096) (omega arith)
                        ∙ ap (λ (n : ℕ). get_or piece n 0) place
                        ∙ sym (overlaid_inside (byte_at old) at piece i (omega arith) (omega arith))
                    | inr after ↦
                        let place : at % 4096 + length piece + (i % 4096 - at % 4096 - length piece) ≡ i % 4096 = omega arith in
                        read ∙ past
                        ∙ get_or-append_right piece (drop (at % 4096 + length piece) (page_at old (at / 4096))) (length piece) (i % 4096 - at % 4096) 0 refl (omega arith)
                        ∙ get_or-drop (at % 4096 + length piece) (page_at old (at / 4096)) (i % 4096 - at % 4096 - length piece) 0
                        ∙ ap (λ (n : ℕ). get_or (page_at old (at / 4096)) n 0) place
                        ∙ same
                        ∙ sym (overlaid_after (byte_at old) at piece i (omega arith))
                  ]
            ]
        | inr other ↦
            ap (λ (bytes : List ℕ). get_or bytes (i % 4096) 0) (page_elsewhere (i / 4096) other)
            ∙ sym (elim (cases_lt i at) [ inl before ↦ overlaid_before (byte_at old) at piece i before | inr from ↦ overlaid_after (byte_at old) at piece i (omega arith) ])
      ]

  -- the pages are ready for what is still to be written
  pub ready_more : (rest : List ℕ) → (0 < length rest → at % 4096 + length piece ≡ 4096) → (IsSome (kept_page new (at / 4096)) → all_zero (page_at new (at / 4096)) ≡ false) → AreReadyFor old at (piece ++ rest) → AreReadyFor new (at + length piece) rest
  ready_more rest next tight ready =
      let total = length-append piece rest in
      record {
        room = λ page t.
            let later : at + length piece + t.0 ≡ at + (length piece + t.0) = omega arith in
            let full : at % 4096 + length piece ≡ 4096 = next (omega (arith, t.1)) in
            let apart : page ≢ at / 4096 = λ e. omega (arith, e, t.2, full) in
            let old_touch : Touches page at (piece ++ rest) =
            (length piece + t.0, omega (arith, t.1), ap (λ (n : ℕ). n / 4096) (sym later) ∙ t.2, λ e. t.3 (sym (after_piece t.0) ∙ e)) in
            subst (λ (o : Option (List ℕ)). IsSome o) (sym (others page apart)) (ready.room page old_touch);
        tight = λ page kept zeros.
            elim (cases_eq page (at / 4096)) [
              | inl here ↦ absurd (false≢true (sym (tight (subst (λ (k : ℕ). IsSome (kept_page new k)) here kept)) ∙ ap (λ (k : ℕ). all_zero (page_at new k)) (sym here) ∙ zeros))
              | inr other ↦
                  let touch = ready.tight page (subst (λ (o : Option (List ℕ)). IsSome o) (others page other) kept) (ap all_zero (sym (page_elsewhere page other)) ∙ zeros) in
                  elim (cases_lt touch.0 (length piece)) [
                    | inl in_piece ↦ absurd (other (omega (arith, touch.2)))
                    | inr in_rest ↦
                        let place : length piece + (touch.0 - length piece) ≡ touch.0 = omega arith in
                        let sum : at + length piece + (touch.0 - length piece) ≡ at + touch.0 = omega arith in
                        (touch.0 - length piece, omega (arith, touch.1), ap (λ (n : ℕ). n / 4096) sum ∙ touch.2, λ e. touch.3 (ap (λ (n : ℕ). get_or (piece ++ rest) n 0) (sym place) ∙ after_piece (touch.0 - length piece) ∙ e))
                  ]
            ];
      }
    where
      after_piece : (j : ℕ) → get_or (piece ++ rest) (length piece + j) 0 ≡ get_or rest j 0
      after_piece j =
          let place : length piece + j - length piece ≡ j = omega arith in
          get_or-append_right piece rest (length piece) (length piece + j) 0 refl (omega arith) ∙ ap (λ (n : ℕ). get_or rest n 0) place

-- a piece that is not all 0 has its page
pub piece_room : (pages : PageEntries) (at : ℕ) (piece rest : List ℕ) → at % 4096 + length piece ≤ 4096 → AreReadyFor pages at (piece ++ rest) → all_zero piece ≡ false → IsSome (kept_page pages (at / 4096))
piece_room pages at piece rest fits ready e =
    let found = nonzero_place piece e in
    let page : (at + found.0) / 4096 ≡ at / 4096 = omega (arith, found.1) in
    let total = length-append piece rest in
    ready.room (at / 4096) (found.0, omega (arith, found.1), page, λ z. found.2 (sym (get_or_append_left piece rest 0 found.0 found.1) ∙ z))

-- a place of a piece is a place of the whole
pub piece_at : (bytes rest piece : List ℕ) (skip count j : ℕ) → rest ≡ drop skip bytes → piece ≡ take count rest → j < count → get_or piece j 0 ≡ get_or bytes (skip + j) 0
piece_at bytes rest piece skip count j from front low =
    ap (λ (xs : List ℕ). get_or xs j 0) front ∙ get_or-take count rest j 0 low ∙ ap (λ (xs : List ℕ). get_or xs j 0) from ∙ get_or-drop skip bytes j 0

-- a byte other than 0 of a piece has it not be all 0
pub not_all_zero : (xs : List ℕ) (j : ℕ) → get_or xs j 0 ≢ 0 → all_zero xs ≡ false
not_all_zero xs j other = by_cases (all_zero xs) refl where
  by_cases : (b : Bool) → all_zero xs ≡ b → b ≡ false
  by_cases true e = absurd (other (all_zero_at xs j e))
  by_cases false e = refl
