-- What a put does to what passes keep of a place.
use Rattle.std.proofs.Common.{◌≡◌, ◌≢◌, ℕ, suc, ◌+◌, ◌==◌, true, false, List, [], ◌∷◌, ◌++◌, length, filter, refl, arith, ap, ◌∙◌, if◌then◌else◌}
use Rattle.std.specs.Prelude.{count_by}
use Rattle.std.proofs.lemmas.Bool.{eq-eqb, ne_eqb}
use Rattle.std.proofs.lemmas.List.Sums.{length-filter}
use Rattle.proxy_laws.specs.Lists.{is_by}
use Rattle.post_core.specs.declared.views.Entry.{Entry}
use Rattle.post_core.specs.Kept.{kept, kept_by, kept_from, marks_of}

module _ {M : Type 0} where
  -- one more entry at the end: its sender's pass keeps it, with its number
  pub kept_more : (n s : ℕ) (es : List (Entry M)) (e : Entry M) → e.mark.sender ≡ s → kept_from n s (es ++ e ∷ []) ≡ kept_from n s es ++ kept (n + length es) e ∷ []
  kept_more n s [] e by = ap (λ b. if b then kept n e ∷ [] else []) (eq-eqb e.mark.sender s by) ∙ ap (λ k. kept k e ∷ []) (let i : n ≡ n + 0 = omega arith in i)
  kept_more n s (x ∷ es) e by = let rest = kept_more (suc n) s es e by ∙ ap (λ k. kept_from (suc n) s es ++ kept k e ∷ []) (let i : suc n + length es ≡ n + suc (length es) = omega arith in i) in
      elim (x.mark.sender == s) as (λ b. (if b then kept n x ∷ kept_from (suc n) s (es ++ e ∷ []) else kept_from (suc n) s (es ++ e ∷ [])) ≡ (if b then kept n x ∷ kept_from (suc n) s es else kept_from (suc n) s es) ++ kept (n + suc (length es)) e ∷ []) [
        | true ↦ ap (λ ks. kept n x ∷ ks) rest
        | false ↦ rest
      ]

  -- and no other pass keeps it
  pub kept_else : (n s : ℕ) (es : List (Entry M)) (e : Entry M) → e.mark.sender ≢ s → kept_from n s (es ++ e ∷ []) ≡ kept_from n s es
  kept_else n s [] e ne = ap (λ b. if b then kept n e ∷ [] else []) (ne_eqb e.mark.sender s ne)
  kept_else n s (x ∷ es) e ne = let rest = kept_else (suc n) s es e ne in
      elim (x.mark.sender == s) as (λ b. (if b then kept n x ∷ kept_from (suc n) s (es ++ e ∷ []) else kept_from (suc n) s (es ++ e ∷ [])) ≡ (if b then kept n x ∷ kept_from (suc n) s es else kept_from (suc n) s es)) [
        | true ↦ ap (λ ks. kept n x ∷ ks) rest
        | false ↦ rest
      ]

  -- a pass keeps as many as its sender put, which is the seq of its next mark
  kept_filtered : (n s : ℕ) (es : List (Entry M)) → length (kept_from n s es) ≡ length (filter (is_by s) (marks_of es))
  kept_filtered n s [] = refl
  kept_filtered n s (x ∷ es) = let rest = kept_filtered (suc n) s es in
      elim (x.mark.sender == s) as (λ b. length (if b then kept n x ∷ kept_from (suc n) s es else kept_from (suc n) s es) ≡ length (if b then x.mark ∷ filter (is_by s) (marks_of es) else filter (is_by s) (marks_of es))) [
        | true ↦ ap (λ k. suc k) rest
        | false ↦ rest
      ]

  pub kept_count : (s : ℕ) (es : List (Entry M)) → length (kept_by s es) ≡ count_by (is_by s) (marks_of es)
  kept_count s es = kept_filtered 0 s es ∙ length-filter (is_by s) (marks_of es)
