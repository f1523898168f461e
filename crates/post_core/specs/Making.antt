-- A target's table as it is made.
use Rattle.post_core.specs.declared.slots.Item.{Item}
use Rattle.task_ring.specs.Ring.{RingView}
use Rattle.std.specs.Prelude.{◌≡◌, ℕ, zero, suc, ◌+◌, ◌<◌, Some, None, List, [], ◌∷◌, ◌++◌, All, length, map, replicate, slice_set, slice_index_or}
use Rattle.post_core.specs.declared.making.Made.{Made}
use Rattle.post_core.specs.declared.meant.Meant.{Ghosts}
use Rattle.post_core.specs.declared.post.PlaceUse.{PlaceUse}
use Rattle.post_core.specs.declared.views.View.{View}
use Rattle.post_core.specs.OwnerViews.{IsOwnerOf, owner_view}
use Rattle.post_core.specs.SendParts.{IsPassOf, pass_view}
use Rattle.post_core.specs.Views.{fresh_owner, fresh_pass, fresh_passes}
use Rattle.post_core.specs.Words.{word_count}

abbrev pub opening_words : ℕ → ℕ → List ℕ
opening_words senders places = slice_set (slice_set (replicate (word_count places) 0) 0 1) 264 (senders + 2)

abbrev pub open_rings : {J : Type 0} → ℕ → List (RingView (Item J))
open_rings places = replicate places (record { items = []; cells = 0; first = 128 })

module _ {M : Type 0} where
  -- the first seat, which still has n passes from that of sender s on
  abbrev pub dealing_view : (places s n : ℕ) → View M
  dealing_view places s n = record { passes = fresh_passes places s n; owner = Some (fresh_owner places); seen = [] }

  -- a pass's view as it is made
  abbrev pub fresh_view : (places s : ℕ) → View M
  fresh_view places s = record { passes = fresh_pass places s ∷ []; owner = None; seen = [] }

  -- there are n passes, in the order of their senders, each as it is made
  pub record AreDealt (places : ℕ) (views : List (View M)) (n : ℕ) : Type 0 where
    pub count : length views ≡ n
    pub fresh : (k : ℕ) (d : View M) → k < n → slice_index_or views k d ≡ fresh_view places k

-- the owner and the passes of a target are as `make` answers them
pub record IsMade {J M : Type 0} {g : Ghosts J M} (senders places : ℕ) (made : Made J M g) : Type 0 where
  pub table : IsOwnerOf made.post made.owner
  pub owner : owner_view made.owner ≡ dealing_view places senders 0
  pub tables : All (λ pass. IsPassOf made.post pass) made.passes.items
  pub passes : AreDealt places (map (λ pass. pass_view pass) made.passes.items) senders

-- a use of place 0 for each sender, in order
abbrev pub system_uses : {J : Type 0} → ℕ → ℕ → List (PlaceUse J)
system_uses target zero = []
system_uses target (suc n) = system_uses target n ++ record { target = target; place = 0; sender = n; marker = record {} } ∷ []
