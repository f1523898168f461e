-- Lemmas on pieces of a text, read or written one after another.
use Rattle.std.proofs.Common.{◌≡◌, ℕ, ◌+◌, ◌-◌, List, length, take, drop, ◌++◌, Option, None, Some, sym, ◌∙◌, ap, subst, append_assoc, length-drop}
use Rattle.std.proofs.Math.Seq.{take-length, take-add, take-append_seam}
use Rattle.std.proofs.lemmas.List.{take-append-drop, drop-drop}
use Rattle.std.specs.Io.KnownBytes.{Appends}

-- two pieces that were written one after another
pub appends_on : (old mid new : Option (List ℕ)) (a b : List ℕ) → Appends old mid a → Appends mid new b → Appends old new (a ++ b)
appends_on None mid new a b h k = tt
appends_on (Some xs) None new a b h k = absurd h
appends_on (Some xs) (Some ys) None a b h k = absurd k
appends_on (Some xs) (Some ys) (Some zs) a b h k = k ∙ ap (λ ws. ws ++ b) h ∙ append_assoc xs a b

-- the rest of a text, as a range that ends where the text ends
pub rest_is : (text : List ℕ) (at : ℕ) → take (length text - at) (drop at text) ≡ drop at text
rest_is text at = ap (λ (n : ℕ). take n (drop at text)) (sym (length-drop at text)) ∙ take-length (drop at text)

-- one more piece of a text was written
pub appends_next : (old mid new : Option (List ℕ)) (text : List ℕ) (at n : ℕ) → Appends old mid (take at text) → Appends mid new (take n (take (length text - at) (drop at text))) → Appends old new (take (at + n) text)
appends_next old mid new text at n h k =
    let P : List ℕ → Type 0 = λ bs. Appends old new bs in
    let e : take at text ++ take n (take (length text - at) (drop at text)) ≡ take (at + n) text = ap (λ bs. take at text ++ take n bs) (rest_is text at) ∙ sym (take-add at n text) in
    subst P e (appends_on old mid new _ _ h k)

-- a piece that was taken from the middle of a text, at the front of a buffer
pub gives : (text got rest : List ℕ) (at n : ℕ) → got ≡ take n (drop at text) → n ≡ length got → drop at text ≡ take n (got ++ rest) ++ drop (at + n) text
gives text got rest at n e h =
    sym (ap (λ zs. zs ++ drop (at + n) text) (ap (λ k. take k (got ++ rest)) h ∙ take-append_seam got rest ∙ e)
    ∙ ap (λ zs. take n (drop at text) ++ zs) (sym (drop-drop n at text)) ∙ take-append-drop n (drop at text))
