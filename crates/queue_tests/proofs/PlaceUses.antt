-- A pass that creates, clones and releases uses of queues.
use Rattle.std.proofs.Common.{◌≡◌, ℕ, zero, suc, ◌+◌, ◌-◌, ◌<◌, Option, Some, None, List, [], ◌∷◌, get_or, set, refl, arith, ap, sym, subst, ◌∙◌}
use Rattle.std.specs.Prelude.{All}
use Rattle.proxy_laws.specs.declared.actors.Note.{Note}
use Rattle.post_core.specs.declared.meant.Meant.{Ghosts}
use Rattle.post_core.specs.declared.post.PlaceUse.{PlaceUse}
use Rattle.post_core.specs.declared.post.Post.{Post}
use Rattle.post_core.specs.declared.post.SendPass.{SendPass}
use Rattle.post_core.specs.declared.uses.Released.{Released}
use Rattle.post_core.specs.declared.uses.Released.TheVariants as released
use Rattle.post_core.specs.declared.views.View.{View}
use Rattle.post_core.specs.LifeParts.{IsCreated, IsReleased}
use Rattle.post_core.specs.LifeSteps.{IsCulled, all_found, place_culled}
use Rattle.post_core.specs.SendParts.{IsPassOf, pass_sender, post_senders}
use Rattle.post_core.specs.Views.{pass_of}
use Rattle.queue_tests.specs.Scenes.{AreAllPasses, HasUses, MayPut}

module _ {M : Type 0} where
  abbrev clones_of : View M → ℕ
  clones_of v = (pass_of v).clones

  culled_one : (p : ℕ) (seen : Option Note) (v : View M) → clones_of (place_culled p seen v) ≡ clones_of v
  culled_one p None v = refl
  culled_one p (Some n) v = refl

  culled : (n : ℕ) (v after : View M) → IsCulled n v after → clones_of after ≡ clones_of v
  culled zero v after is = ap clones_of is
  culled (suc n) v after (before, seen, first, is) = ap clones_of is ∙ culled_one (suc n) seen before ∙ culled n v before first

  found : (n : ℕ) (v : View M) → clones_of (all_found n v) ≡ clones_of v
  found zero v = refl
  found (suc n) v = found n v

  -- to create a queue clones no use
  pub created_clones : (places p : ℕ) (v after : View M) → IsCreated places p v after → clones_of after ≡ clones_of v
  created_clones places p v after (last, (cleared, culls, last_is), is) =
      ap clones_of is ∙ ap clones_of last_is ∙ found (p - 1) cleared ∙ culled (places - 1) v cleared culls

  pub released_number : (p : ℕ) (v : View M) (r : Released) (w : View M) → IsReleased p v r w → (pass_of w).number ≡ (pass_of v).number
  released_number p v released.Kept w is = ap (λ x. (pass_of x).number) is.1
  released_number p v released.Freed w is = ap (λ x. (pass_of x).number) is.1
  released_number p v released.Zombie w is = ap (λ x. (pass_of x).number) is.1.2

module _ {J M : Type 0} (post : Post J M) where
  pub used_may : (v : View M) (u : PlaceUse J) → HasUses 1 post v u → MayPut post v u
  used_may v u used = (used.1, record { of = used.0; used = (let one = used.3 in omega arith) })

module _ {J M : Type 0} {g : Ghosts J M} (post : Post J M) where
  -- the only pass is still the only pass
  pub only_still : (p q : SendPass J M g) → AreAllPasses post (p ∷ []) → IsPassOf post q → pass_sender q ≡ pass_sender p → AreAllPasses post (q ∷ [])
  only_still p q all is number = (one, (all.1.0, λ k near. each k near)) where
    one : All (λ x. IsPassOf post x) (q ∷ [])
    one zero d near = is
    one (suc k) d near = absurd (omega arith)

    each : (k : ℕ) → k < post_senders post → get_or (pass_sender q ∷ []) k 0 ≡ k
    each zero near = number ∙ all.1.1 0 near
    each (suc k) near = absurd (let count = all.1.0 in omega arith)
