-- What the contracts of the calls on places say.
use Rattle.std.specs.Prelude.{◌≡◌, ◌≢◌, ℕ, ◌-◌, ◌<◌, slice_index}
use Rattle.proxy_laws.specs.declared.actors.Note.{Note}
use Rattle.proxy_laws.specs.declared.actors.Note.TheVariants as note
use Rattle.post_core.specs.declared.meant.Meant.{Ghosts}
use Rattle.post_core.specs.declared.post.PlaceUse.{PlaceUse}
use Rattle.post_core.specs.declared.post.Post.{Post}
use Rattle.post_core.specs.declared.post.SendPass.{SendPass}
use Rattle.post_core.specs.declared.uses.CreateAnswer.{CreateAnswer}
use Rattle.post_core.specs.declared.uses.CreateAnswer.TheVariants as answer
use Rattle.post_core.specs.declared.uses.Released.{Released}
use Rattle.post_core.specs.declared.uses.Released.TheVariants as released
use Rattle.post_core.specs.declared.views.View.{View}
use Rattle.post_core.specs.LifeSteps.{IsCulled, all_found, look_ended, use_dropped}
use Rattle.post_core.specs.SendParts.{HasPlace, IsUseFor, use_place}
use Rattle.post_core.specs.Views.{pass_of, place_created}

module _ {M : Type 0} where
  -- What a release of a use of p comes to: another use is left, or this was the last. Then the pass has looked at p's
  -- note. It has set p free where the note was none, and has left a zombie where it was not.
  abbrev pub IsReleased : ℕ → View M → Released → View M → Type 0
  IsReleased p v released.Kept after = (1 < slice_index (pass_of v).uses p) × (after ≡ use_dropped p v)
  IsReleased p v released.Freed after = (slice_index (pass_of v).uses p ≡ 1) × (after ≡ look_ended p note.None (use_dropped p v))
  IsReleased p v released.Zombie after = (slice_index (pass_of v).uses p ≡ 1) × ((n : Note) × (n ≢ note.None) × (after ≡ look_ended p n (use_dropped p v)))

  -- The pass has first tried to claim each of so many places from 1 up in turn, and looked at the zombies. After that it
  -- has found each of the places 1 to p not free.
  abbrev pub IsFoundTo : ℕ → ℕ → View M → View M → Type 0
  IsFoundTo places p v after = (culled : View M) × IsCulled (places - 1) v culled × (after ≡ all_found p culled)

  -- after that it has found each of the places but 0 not free
  abbrev pub IsAllFound : ℕ → View M → View M → Type 0
  IsAllFound places v after = IsFoundTo places (places - 1) v after

  -- after that it has found each place below p not free, and has created p
  abbrev pub IsCreated : ℕ → ℕ → View M → View M → Type 0
  IsCreated places p v after = (found : View M) × IsFoundTo places (p - 1) v found × (after ≡ place_created p found)

module _ {J M : Type 0} where
  -- the use is one of this post's for the pass with this view, and the only one of its place, which is not 0
  abbrev pub IsNewUse : Post J M → View M → PlaceUse J → Type 0
  IsNewUse post v place_use = IsUseFor post v place_use × HasPlace post (use_place place_use) × (use_place place_use ≢ 0) × (slice_index (pass_of v).uses (use_place place_use) ≡ 1)

module _ {J M : Type 0} {g : Ghosts J M} where
  abbrev pub IfMade : CreateAnswer J M g → (SendPass J M g → PlaceUse J → Type 0) → Type 0
  IfMade (answer.Made pass place_use) P = P pass place_use
  IfMade (answer.Full pass) P = Unit {0}

  abbrev pub IfFull : CreateAnswer J M g → (SendPass J M g → Type 0) → Type 0
  IfFull (answer.Made pass place_use) P = Unit {0}
  IfFull (answer.Full pass) P = P pass
