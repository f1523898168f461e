-- What the tests know of the parts of a target between two calls.
use Rattle.std.specs.Prelude.{◌≡◌, All, List, [], ◌∷◌, map}
use Rattle.post_core.specs.declared.meant.Meant.{Ghosts}
use Rattle.post_core.specs.declared.post.PlaceUse.{PlaceUse}
use Rattle.post_core.specs.declared.post.Post.{Post}
use Rattle.post_core.specs.declared.post.SendPass.{SendPass}
use Rattle.post_core.specs.declared.views.View.{View}
use Rattle.post_core.specs.Ending.{AreEach}
use Rattle.post_core.specs.SendParts.{HasPlace, IsPassOf, IsUseOf, pass_sender, pass_view, post_senders, use_place}
use Rattle.post_core.specs.Views.{pass_of}

module _ {M : Type 0} where
  -- a pass has the uses of places that it had
  abbrev pub KeepsUses : View M → View M → Type 0
  KeepsUses v w = ((pass_of w).number ≡ (pass_of v).number) × ((pass_of w).uses ≡ (pass_of v).uses)

module _ {J M : Type 0} where
  -- the pass with this view may put at the place of the use
  abbrev pub MayPut : Post J M → View M → PlaceUse J → Type 0
  MayPut post v place_use = HasPlace post (use_place place_use) × IsUseOf post v place_use

module _ {J M : Type 0} {g : Ghosts J M} where
  -- the pass may send to the place of the use
  abbrev pub MaySend : Post J M → SendPass J M g → PlaceUse J → Type 0
  MaySend post pass place_use = IsPassOf post pass × MayPut post (pass_view pass) place_use

  -- each pass may send to the place of its use
  abbrev pub MayAllSend : Post J M → List (SendPass J M g) → List (PlaceUse J) → Type 0
  MayAllSend post [] [] = Unit {0}
  MayAllSend post [] (u ∷ us) = ⊥
  MayAllSend post (p ∷ ps) [] = ⊥
  MayAllSend post (p ∷ ps) (u ∷ us) = MaySend post p u × MayAllSend post ps us

  -- these are the passes of the post's senders, in order
  abbrev pub AreAllPasses : Post J M → List (SendPass J M g) → Type 0
  AreAllPasses post passes = All (λ pass. IsPassOf post pass) passes × AreEach (post_senders post) (map (λ pass. pass_sender pass) passes)
