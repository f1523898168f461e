-- A pass that creates and releases places has the uses that it had, and the new one.
use Rattle.std.proofs.Common.{◌≡◌, ℕ, zero, suc, ◌+◌, ◌-◌, ◌<◌, inl, inr, Option, Some, None, List, [], ◌∷◌, ◌++◌, length, get_or, set, refl, arith, ap, sym, subst, ◌∙◌}
use Rattle.std.specs.Prelude.{All}
use Rattle.std.proofs.Math.Seq.{get_or-append_seam}
use Rattle.std.proofs.lemmas.Bool.{cases_lt}
use Rattle.std.proofs.lemmas.List.{get_or-set_same, get_or-set_other, set_past}
use mathlib.Core.Logic.{dite}
use native.Mathlib.Decide.{ℕ_discrete}
use Rattle.proxy_laws.specs.declared.actors.Note.{Note}
use Rattle.post_core.specs.declared.meant.Meant.{Ghosts}
use Rattle.post_core.specs.declared.post.PlaceUse.{PlaceUse}
use Rattle.post_core.specs.declared.post.Post.{Post}
use Rattle.post_core.specs.declared.post.SendPass.{SendPass}
use Rattle.post_core.specs.declared.uses.Released.{Released}
use Rattle.post_core.specs.declared.uses.Released.TheVariants as released
use Rattle.post_core.specs.declared.views.View.{View}
use Rattle.post_core.specs.LifeParts.{IsCreated, IsNewUse, IsReleased}
use Rattle.post_core.specs.LifeSteps.{IsCulled, all_found, place_culled}
use Rattle.post_core.specs.SendParts.{IsPassOf, pass_sender, pass_view}
use Rattle.post_core.specs.Views.{pass_of, place_created}
use Rattle.post_tests.specs.Scenes.{AreAllPasses, KeepsUses, MayPut}
use Rattle.post_tests.proofs.Senders.{still_may}

module _ {M : Type 0} where
  then : (v w x : View M) → KeepsUses v w → KeepsUses w x → KeepsUses v x
  then v w x a b = (b.0 ∙ a.0, b.1 ∙ a.1)

  as_it_is : (v w x : View M) → w ≡ x → KeepsUses v x → KeepsUses v w
  as_it_is v w x is a = subst (KeepsUses v) (sym is) a

  culled_same : (p : ℕ) (seen : Option Note) (v : View M) → KeepsUses v (place_culled p seen v)
  culled_same p None v = (refl, refl)
  culled_same p (Some n) v = (refl, refl)

  culls_same : (n : ℕ) (v w : View M) → IsCulled n v w → KeepsUses v w
  culls_same zero v w is = as_it_is v w v is (refl, refl)
  culls_same (suc n) v w is = as_it_is v w (place_culled (suc n) is.1 is.0) is.3 (then v is.0 (place_culled (suc n) is.1 is.0) (culls_same n v is.0 is.2) (culled_same (suc n) is.1 is.0))

  found_same : (n : ℕ) (v : View M) → KeepsUses v (all_found n v)
  found_same zero v = (refl, refl)
  found_same (suc n) v = found_same n v

  module _ {J : Type 0} (post : Post J M) where
    created_may : (p : ℕ) (v : View M) (u : PlaceUse J) → MayPut post v u → MayPut post (place_created p v) u
    created_may p v u may = (may.0, record { of = may.1.of; used = used }) where
      uses : List ℕ
      uses = (pass_of v).uses

      used : 0 < get_or (set uses p (get_or uses p 0 + 1)) u.place 0
      used = dite (ℕ_discrete u.place p)
          (λ same. elim (cases_lt p (length uses)) [
            | inl inside ↦ let one = ap (λ k. get_or (set uses p (get_or uses p 0 + 1)) k 0) same ∙ get_or-set_same uses p (get_or uses p 0 + 1) 0 inside in omega arith
            | inr past ↦ subst (λ l. 0 < get_or l u.place 0) (sym (set_past uses p (get_or uses p 0 + 1) past)) may.1.used
          ])
          (λ ne. subst (λ n. 0 < n) (sym (get_or-set_other uses p u.place (get_or uses p 0 + 1) 0 ne)) may.1.used)

    -- a pass that creates a place may still put wherever it could
    pub creates_may : (places p : ℕ) (v w : View M) → IsCreated places p v w → (u : PlaceUse J) → MayPut post v u → MayPut post w u
    creates_may places p v w is u may =
        let found = is.1 in
        let culled = still_may post v found.0 u (culls_same (places - 1) v found.0 found.1) may in
        let before = subst (λ x. MayPut post x u) (sym found.2) (still_may post found.0 (all_found (p - 1) found.0) u (found_same (p - 1) found.0) culled) in
        subst (λ x. MayPut post x u) (sym is.2) (created_may p is.0 u before)

    pub new_may : (v : View M) (u : PlaceUse J) → IsNewUse post v u → MayPut post v u
    new_may v u new = (new.1, record { of = new.0; used = (let one = new.3 in omega arith) })

  pub released_number : (p : ℕ) (v : View M) (r : Released) (w : View M) → IsReleased p v r w → (pass_of w).number ≡ (pass_of v).number
  released_number p v released.Kept w is = ap (λ x. (pass_of x).number) is.1
  released_number p v released.Freed w is = ap (λ x. (pass_of x).number) is.1
  released_number p v released.Zombie w is = ap (λ x. (pass_of x).number) is.1.2

module _ {J M : Type 0} {g : Ghosts J M} (post : Post J M) where
  -- the only pass is still the only pass
  pub only_still : (p q : SendPass J M g) → AreAllPasses post (p ∷ []) → IsPassOf post q → pass_sender q ≡ pass_sender p → AreAllPasses post (q ∷ [])
  only_still p q all is number = (one, (all.1.0, λ k near. each k near)) where
    one : All (λ x. IsPassOf post x) (q ∷ [])
    one zero d near = is
    one (suc k) d near = absurd (omega arith)

    each : (k : ℕ) → k < Rattle.post_core.specs.SendParts.post_senders post → get_or (pass_sender q ∷ []) k 0 ≡ k
    each zero near = number ∙ all.1.1 0 near
    each (suc k) near = absurd (let count = all.1.0 in omega arith)

module _ {X : Type 0} (P Q : X → Type 0) where
  pub all_turn : (xs : List X) → ((x : X) → P x → Q x) → All P xs → All Q xs
  all_turn xs turn all k d near = turn (get_or xs k d) (all k d near)

  pub all_last : (all xs : List X) (x : X) → All P all → all ≡ xs ++ x ∷ [] → P x
  all_last all xs x holds is = subst P (ap (λ l. get_or l (length xs) x) is ∙ get_or-append_seam xs x [] x) (holds (length xs) x (let long = ap length is in omega (arith, Rattle.std.proofs.Common.length-append xs (x ∷ []))))
