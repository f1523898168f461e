-- What the tests know of the parts of a target between two calls.
use Rattle.std.specs.Prelude.{◌≡◌, ◌≢◌, ℕ, ◌≤◌, All, List, [], ◌∷◌, length, map, slice_index}
use Rattle.post_core.specs.declared.meant.Meant.{Ghosts}
use Rattle.post_core.specs.declared.owner.Emptied.{Emptied}
use Rattle.post_core.specs.declared.post.PlaceUse.{PlaceUse}
use Rattle.post_core.specs.declared.post.Post.{Post}
use Rattle.post_core.specs.declared.post.SendPass.{SendPass}
use Rattle.post_core.specs.declared.views.View.{View}
use Rattle.post_core.specs.Ending.{AreEach}
use Rattle.post_core.specs.Kept.{listed}
use Rattle.post_core.specs.OwnerViews.{IsEmptiedOf, emptied_view}
use Rattle.post_core.specs.Records.{AreSettled}
use Rattle.post_core.specs.SendParts.{HasPlace, IsPassOf, IsUseFor, IsUseOf, pass_sender, pass_view, post_places, post_senders, post_target, use_place}
use Rattle.post_core.specs.Views.{pass_of}
use Rattle.mailbox.specs.declared.owner_at.Mailbox.{Mailbox}
use Rattle.mailbox.specs.Boxes.{IsMailboxOf, mailbox_view}
use Rattle.mailbox.specs.Holding.{HoldsActive}
use Rattle.mailbox.specs.Turns.{jobs_in}

module _ {M : Type 0} where
  -- a pass has the uses of places that it had
  abbrev pub KeepsUses : View M → View M → Type 0
  KeepsUses v w = ((pass_of w).number ≡ (pass_of v).number) × ((pass_of w).uses ≡ (pass_of v).uses)

  -- a pass has put at most so many jobs at p
  abbrev pub HasSent : ℕ → ℕ → View M → Type 0
  HasSent p count v = length (listed (pass_of v).own p) ≤ count

  -- a pass has put no job
  abbrev pub HasSentNone : View M → Type 0
  HasSentNone v = (p : ℕ) → HasSent p 0 v

  -- a pass has cloned no use
  abbrev pub HasClonedNone : View M → Type 0
  HasClonedNone v = (pass_of v).clones ≡ 0

module _ {J M : Type 0} where
  -- the pass with this view may put at the place of the use
  abbrev pub MayPut : Post J M → View M → PlaceUse J → Type 0
  MayPut post v place_use = HasPlace post (use_place place_use) × IsUseOf post v place_use

  -- the pass has so many uses of the use's place, which is not the system queue's
  abbrev pub HasUses : ℕ → Post J M → View M → PlaceUse J → Type 0
  HasUses n post v place_use = IsUseFor post v place_use × HasPlace post (use_place place_use) × (use_place place_use ≢ 0) × (slice_index (pass_of v).uses (use_place place_use) ≡ n)

module _ {J M : Type 0} {g : Ghosts J M} where
  -- the pass may send to the place of the use
  abbrev pub MaySend : Post J M → SendPass J M g → PlaceUse J → Type 0
  MaySend post pass place_use = IsPassOf post pass × MayPut post (pass_view pass) place_use

  -- each pass may send to the place of its use
  abbrev pub MayAllSend : Post J M → List (SendPass J M g) → List (PlaceUse J) → Type 0
  MayAllSend post [] [] = Unit {0}
  MayAllSend post [] (u ∷ us) = ⊥
  MayAllSend post (p ∷ ps) [] = ⊥
  MayAllSend post (p ∷ ps) (u ∷ us) = MaySend post p u × MayAllSend post ps us

  -- these are the passes of the post's senders, in order
  abbrev pub AreAllPasses : Post J M → List (SendPass J M g) → Type 0
  AreAllPasses post passes = All (λ pass. IsPassOf post pass) passes × AreEach (post_senders post) (map (λ pass. pass_sender pass) passes)

-- The mailbox is that of an owner of this post, whose target has the number 1, and no job is active.
abbrev pub IsBoxIdle : {g : Ghosts ℕ ℕ} → Post ℕ ℕ → Mailbox ℕ ℕ g → Type 0
IsBoxIdle post mailbox = (post_target post ≡ 1) × IsMailboxOf post mailbox × HoldsActive 1 (post_places post) (jobs_in (mailbox_view mailbox)) []

-- The end of the post's owner, with no active job.
abbrev pub IsEnd : {g : Ghosts ℕ ℕ} → Post ℕ ℕ → Emptied ℕ ℕ g → Type 0
IsEnd post emptied = IsEmptiedOf post emptied × ((p : ℕ) → AreSettled (listed (jobs_in (emptied_view emptied)) p))
