-- A text and its pieces between bytes of one value.
use Rattle.std.proofs.Common.{◌≡◌, ℕ, ◌≤◌, ◌==◌, true, false, cond, List, [], ◌∷◌, ◌++◌, length, refl, sym, ◌∙◌, ap, arith, append_assoc, length-append}
use Rattle.std.specs.List.{All, slice_split, onto_first, join_with_byte, flat_map}
use Rattle.std.proofs.lemmas.Bool.Decides.{nat_tests}
use Rattle.std.proofs.lemmas.List.Elements.{All-nil, All-cons, All-head, All-tail, All-append}
use Rattle.std.proofs.lemmas.List.Splits.{slice_split_at, slice_split_none, join_with_byte-slice_split}
use Rattle.trace_text.specs.Fields.{pieces_of, fields_of}
use Rattle.trace_text.specs.TraceTexts.{ended}

abbrev pub Lacks : ℕ → List ℕ → Type 0
Lacks cut text = All (λ byte. (byte == cut) ≡ false) text

abbrev pub Each : (List ℕ → Type 0) → List (List ℕ) → Type 0
Each P [] = Unit {0}
Each P (text ∷ texts) = P text × Each P texts

-- a field that can stand in a line
abbrev pub Clean : List ℕ → Type 0
Clean text = Lacks 32 text × Lacks 10 text

onto_each : (Q : ℕ → Type 0) (byte : ℕ) (pieces : List (List ℕ)) → Q byte → Each (All Q) pieces → Each (All Q) (onto_first byte pieces)
onto_each Q byte [] q each = (All-cons Q byte [] q (All-nil Q), tt)
onto_each Q byte (piece ∷ pieces) q each = (All-cons Q byte piece q each.0, each.1)

-- what holds of each byte but the cuts holds of the bytes of the pieces
pieces_keep : (Q : ℕ → Type 0) (cut : ℕ) (text : List ℕ) → All (λ byte. (byte == cut) ≡ false → Q byte) text → Each (All Q) (slice_split (λ byte. byte == cut) text)
pieces_keep Q cut [] all = (All-nil Q, tt)
pieces_keep Q cut (byte ∷ text) all =
    let P : ℕ → Type 0 = λ b. (b == cut) ≡ false → Q b in
    let rest = pieces_keep Q cut text (All-tail P byte text all) in
    elim (byte == cut) as (λ b. ((byte == cut) ≡ b) → Each (All Q) (cond b ([] ∷ slice_split (λ b. b == cut) text) (onto_first byte (slice_split (λ b. b == cut) text)))) [
      | true ↦ λ h. (All-nil Q, rest)
      | false ↦ λ h. onto_each Q byte (slice_split (λ b. b == cut) text) (All-head P byte text all h) rest
    ] refl

always : (Q P : ℕ → Type 0) (text : List ℕ) → ((byte : ℕ) → P byte → Q byte) → All P text → All Q text
always Q P text f all k d low = f _ (all k d low)

any : (P : ℕ → Type 0) (text : List ℕ) → ((byte : ℕ) → P byte) → All P text
any P text f k d low = f _

pub pieces_lack : (cut : ℕ) (text : List ℕ) → Each (Lacks cut) (slice_split (λ byte. byte == cut) text)
pieces_lack cut text = pieces_keep (λ b. (b == cut) ≡ false) cut text (any (λ b. (b == cut) ≡ false → (b == cut) ≡ false) text (λ b h. h))

both : (texts : List (List ℕ)) → Each (Lacks 32) texts → Each (Lacks 10) texts → Each Clean texts
both [] h k = tt
both (text ∷ texts) h k = ((h.0, k.0), both texts h.1 k.1)

pub fields_clean : (line : List ℕ) → Lacks 10 line → Each Clean (fields_of line)
fields_clean line lack =
    both (fields_of line) (pieces_lack 32 line)
    (pieces_keep (λ b. (b == 10) ≡ false) 32 line (always (λ b. (b == 32) ≡ false → (b == 10) ≡ false) (λ b. (b == 10) ≡ false) line (λ b h k. h) lack))

itself : (n : ℕ) → (n == n) ≡ true
itself n = grind (arith, nat_tests)

-- the pieces of a row of pieces are those
pub split_join : (cut : ℕ) (first : List ℕ) (rest : List (List ℕ)) → Each (Lacks cut) (first ∷ rest) → slice_split (λ byte. byte == cut) (join_with_byte cut (first ∷ rest)) ≡ first ∷ rest
split_join cut first [] lack = slice_split_none (λ (byte : ℕ). byte == cut) first lack.0
split_join cut first (next ∷ rest) lack =
    slice_split_at (λ (byte : ℕ). byte == cut) first cut (join_with_byte cut (next ∷ rest)) lack.0 (itself cut)
    ∙ ap (λ (pieces : List (List ℕ)). first ∷ pieces) (split_join cut next rest lack.1)

pub join_keeps : (Q : ℕ → Type 0) (cut : ℕ) (texts : List (List ℕ)) → Q cut → Each (All Q) texts → All Q (join_with_byte cut texts)
join_keeps Q cut [] q each = All-nil Q
join_keeps Q cut (text ∷ []) q each = each.0
join_keeps Q cut (text ∷ next ∷ texts) q each =
    All-append Q text (cut ∷ join_with_byte cut (next ∷ texts)) each.0 (All-cons Q cut (join_with_byte cut (next ∷ texts)) q (join_keeps Q cut (next ∷ texts) q each.1))

pub row_of_fields : (line : List ℕ) (fields : List (List ℕ)) → fields_of line ≡ fields → line ≡ join_with_byte 32 fields
row_of_fields line fields e = sym (join_with_byte-slice_split 32 line) ∙ ap (join_with_byte 32) e

-- as many texts, each no longer
abbrev pub Shorter : List (List ℕ) → List (List ℕ) → Type 0
Shorter [] [] = Unit {0}
Shorter [] (other ∷ others) = ⊥
Shorter (text ∷ texts) [] = ⊥
Shorter (text ∷ texts) (other ∷ others) = (length text ≤ length other) × Shorter texts others

pub join_shorter : (cut : ℕ) (texts others : List (List ℕ)) → Shorter texts others → length (join_with_byte cut texts) ≤ length (join_with_byte cut others)
join_shorter cut [] [] short = omega arith
join_shorter cut [] (other ∷ others) short = absurd short
join_shorter cut (text ∷ texts) [] short = absurd short
join_shorter cut (text ∷ []) (other ∷ []) short = short.0
join_shorter cut (text ∷ []) (other ∷ next ∷ others) short = absurd short.1
join_shorter cut (text ∷ next ∷ texts) (other ∷ []) short = absurd short.1
join_shorter cut (text ∷ next ∷ texts) (other ∷ following ∷ others) short =
    let rest = join_shorter cut (next ∷ texts) (following ∷ others) short.1 in
    omega (arith, length-append text (cut ∷ join_with_byte cut (next ∷ texts)), length-append other (cut ∷ join_with_byte cut (following ∷ others)))

-- lines, and then nothing
pub lines_again : (lines : List (List ℕ)) → Each (Lacks 10) lines → pieces_of (flat_map ended lines) ≡ lines ++ [] ∷ []
lines_again [] lack = refl
lines_again (line ∷ lines) lack =
    ap pieces_of (append_assoc line (10 ∷ []) (flat_map ended lines))
    ∙ slice_split_at (λ (byte : ℕ). byte == 10) line 10 (flat_map ended lines) lack.0 refl
    ∙ ap (λ (pieces : List (List ℕ)). line ∷ pieces) (lines_again lines lack.1)

pub each_front : (P : List ℕ → Type 0) (front rest : List (List ℕ)) → Each P (front ++ rest) → Each P front
each_front P [] rest each = tt
each_front P (text ∷ front) rest each = (each.0, each_front P front rest each.1)

pub each_append : (P : List ℕ → Type 0) (front rest : List (List ℕ)) → Each P front → Each P rest → Each P (front ++ rest)
each_append P [] rest h k = k
each_append P (text ∷ front) rest h k = (h.0, each_append P front rest h.1 k)
