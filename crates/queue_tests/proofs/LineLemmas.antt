-- The lines of the threads of a target, as they are made and as they end.
use Rattle.std.proofs.Common.{◌≡◌, ℕ, ◌+◌, ◌-◌, ◌<◌, List, [], ◌∷◌, ◌++◌, length, map, get_or, arith, ap, sym, subst, ◌∙◌, length-append}
use Rattle.std.specs.Prelude.{All}
use Rattle.std.proofs.Math.ListN.{get_or-append}
use Rattle.std.proofs.Math.Seq.{get_or-append_seam}
use Rattle.std.proofs.lemmas.List.{length-map, map-append}
use mathlib.Core.Logic.{dite}
use native.Mathlib.Decide.{ℕ_discrete}
use Rattle.post_core.specs.declared.meant.Meant.{Ghosts}
use Rattle.post_core.specs.declared.post.PlaceUse.{PlaceUse}
use Rattle.post_core.specs.declared.post.Post.{Post}
use Rattle.post_core.specs.declared.post.SendPass.{SendPass}
use Rattle.post_core.specs.SendParts.{IsPassOf, pass_sender, pass_view, post_senders}
use Rattle.queue_tests.specs.declared.parts.Line.{Line}
use Rattle.queue_tests.specs.Beside.{AreLines, IsLine}
use Rattle.queue_tests.specs.Scenes.{AreAllPasses, MayAllSend, MaySend}

-- the numbers are 0, 1, 2 and so on
abbrev pub AreFirst : List ℕ → Type 0
AreFirst xs = (k : ℕ) → k < length xs → get_or xs k 0 ≡ k

first_pop : (xs : List ℕ) (x : ℕ) → AreFirst (xs ++ x ∷ []) → AreFirst xs × (x ≡ length xs)
first_pop xs x first = (
  (λ k near. sym (get_or-append xs (x ∷ []) 0 k near) ∙ first k (omega (arith, length-append xs (x ∷ [])))),
  sym (get_or-append_seam xs x [] 0) ∙ first (length xs) (omega (arith, length-append xs (x ∷ []))),
)

first_push : (xs : List ℕ) (x : ℕ) → AreFirst xs → x ≡ length xs → AreFirst (xs ++ x ∷ [])
first_push xs x first x_is k near = dite (ℕ_discrete k (length xs))
    (λ last. ap (λ i. get_or (xs ++ x ∷ []) i 0) last ∙ (get_or-append_seam xs x [] 0 ∙ (x_is ∙ sym last)))
    (λ before. let inside : k < length xs = omega (arith, length-append xs (x ∷ [])) in get_or-append xs (x ∷ []) 0 k inside ∙ first k inside)

pub one_longer : {X : Type 0} (ys xs : List X) (x : X) → ys ≡ xs ++ x ∷ [] → length ys ≡ length xs + 1
one_longer ys xs x is = ap length is ∙ length-append xs (x ∷ [])

module _ {X : Type 0} (P : X → Type 0) where
  pub all_push : (xs : List X) (x : X) → All P xs → P x → All P (xs ++ x ∷ [])
  all_push xs x all holds k d near = dite (ℕ_discrete k (length xs))
      (λ last. subst P (sym (ap (λ i. get_or (xs ++ x ∷ []) i d) last ∙ get_or-append_seam xs x [] d)) holds)
      (λ before. let inside : k < length xs = omega (arith, length-append xs (x ∷ [])) in subst P (sym (get_or-append xs (x ∷ []) d k inside)) (all k d inside))

  pub all_pop : (all xs : List X) (x : X) → All P all → all ≡ xs ++ x ∷ [] → All P xs × P x
  all_pop all xs x holds is = let old = subst (All P) is holds in (
    (λ k d near. subst P (get_or-append xs (x ∷ []) d k near) (old k d (omega (arith, length-append xs (x ∷ []))))),
    subst P (get_or-append_seam xs x [] x) (old (length xs) x (omega (arith, length-append xs (x ∷ [])))),
  )

module _ {J M : Type 0} {g : Ghosts J M} (post : Post J M) where
  pub split_both : (ps : List (SendPass J M g)) (us : List (PlaceUse J)) (p : SendPass J M g) (u : PlaceUse J) → MayAllSend post (ps ++ p ∷ []) (us ++ u ∷ []) → MayAllSend post ps us × MaySend post p u
  split_both [] [] p u all = (tt, all.0)
  split_both [] (x ∷ []) p u all = absurd all.1
  split_both [] (x ∷ y ∷ us) p u all = absurd all.1
  split_both (q ∷ []) [] p u all = absurd all.1
  split_both (q ∷ r ∷ ps) [] p u all = absurd all.1
  split_both (q ∷ ps) (x ∷ us) p u all = let rest = split_both ps us p u all.1 in ((all.0, rest.0), rest.1)

  abbrev pub numbers : List (SendPass J M g) → List ℕ
  numbers ps = map (λ pass. pass_sender pass) ps

  pub numbers_pop : (ps : List (SendPass J M g)) (p : SendPass J M g) → AreFirst (numbers (ps ++ p ∷ [])) → AreFirst (numbers ps) × (pass_sender p ≡ length ps)
  numbers_pop ps p first = let h = first_pop (numbers ps) (pass_sender p) (subst AreFirst (map-append (λ pass. pass_sender pass) ps (p ∷ [])) first) in (h.0, h.1 ∙ length-map ps (λ pass. pass_sender pass))

  pub numbers_push : (ps : List (SendPass J M g)) (p : SendPass J M g) → AreFirst (numbers ps) → pass_sender p ≡ length ps → AreFirst (numbers (ps ++ p ∷ []))
  numbers_push ps p first p_is = subst AreFirst (sym (map-append (λ pass. pass_sender pass) ps (p ∷ []))) (first_push (numbers ps) (pass_sender p) first (p_is ∙ sym (length-map ps (λ pass. pass_sender pass))))

  pub all_first : (ps : List (SendPass J M g)) → AreAllPasses post ps → AreFirst (numbers ps)
  all_first ps all k near = all.1.1 k (let count = all.1.0 in omega arith)

  pub first_all : (ps : List (SendPass J M g)) → All (λ pass. IsPassOf post pass) ps → AreFirst (numbers ps) → length ps ≡ post_senders post → AreAllPasses post ps
  first_all ps all first count = (all, (length-map ps (λ pass. pass_sender pass) ∙ count, λ k near. first k (let c = count in omega (arith, length-map ps (λ pass. pass_sender pass)))))

module _ (post : Post ℕ ℕ) (n : ℕ) where
  pub lines_push : (xs : List Line) (x : Line) → AreLines post n xs → IsLine post (n - 1 - length xs) x → AreLines post n (xs ++ x ∷ [])
  lines_push xs x all is k d near = dite (ℕ_discrete k (length xs))
      (λ last. subst (λ (y : ℕ × Line). IsLine post (n - 1 - y.0) y.1) (λ i. (sym last i, sym (ap (λ i. get_or (xs ++ x ∷ []) i d) last ∙ get_or-append_seam xs x [] d) i)) is)
      (λ before. let inside : k < length xs = omega (arith, length-append xs (x ∷ [])) in subst (λ y. IsLine post (n - 1 - k) y) (sym (get_or-append xs (x ∷ []) d k inside)) (all k d inside))

  pub lines_pop : (all xs : List Line) (x : Line) → AreLines post n all → all ≡ xs ++ x ∷ [] → AreLines post n xs × IsLine post (n - 1 - length xs) x
  lines_pop all xs x are all_is = let old = subst (AreLines post n) all_is are in (
    (λ k d near. subst (λ y. IsLine post (n - 1 - k) y) (get_or-append xs (x ∷ []) d k near) (old k d (omega (arith, length-append xs (x ∷ []))))),
    subst (λ y. IsLine post (n - 1 - length xs) y) (get_or-append_seam xs x [] x) (old (length xs) x (omega (arith, length-append xs (x ∷ [])))),
  )

  -- the same, where room was made before
  pub lines_more : (xs mid ys : List Line) (x : Line) → AreLines post n xs → mid ≡ xs → ys ≡ mid ++ x ∷ [] → IsLine post (n - 1 - length xs) x → AreLines post n ys
  lines_more xs mid ys x all mid_is ys_are is = subst (AreLines post n) (sym (ys_are ∙ ap (λ l. l ++ x ∷ []) mid_is)) (lines_push xs x all is)
