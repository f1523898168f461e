-- What the threads of a target have, side by side.
use Rattle.std.specs.Prelude.{◌≡◌, ℕ, ◌-◌, ◌<◌, IfSome, None, List, length, slice_index_or}
use Rattle.post_core.specs.declared.meant.Meant.{Ghosts}
use Rattle.post_core.specs.declared.owner.Emptied.{Emptied}
use Rattle.post_core.specs.declared.owner.Owner.{Owner}
use Rattle.post_core.specs.declared.post.Post.{Post}
use Rattle.post_core.specs.OwnerViews.{IsEmptiedOf, IsOwnerOf, emptied_view, owner_view}
use Rattle.post_tests.specs.declared.parts.Line.{Line}
use Rattle.post_tests.specs.Scenes.{HasHeld, MaySend}

-- the owner of the post, with no active job
abbrev pub IsOwnerFresh : {g : Ghosts ℕ ℕ} → Post ℕ ℕ → Owner ℕ ℕ g → Type 0
IsOwnerFresh post owner = IsOwnerOf post owner × HasHeld None (owner_view owner)

-- the end of the post's owner, with no active job
abbrev pub IsEnd : {g : Ghosts ℕ ℕ} → Post ℕ ℕ → Emptied ℕ ℕ g → Type 0
IsEnd post emptied = IsEmptiedOf post emptied × HasHeld None (emptied_view emptied)

-- the line is that of this sender, and of the owner where it has one
abbrev pub IsLine : Post ℕ ℕ → ℕ → Line → Type 0
IsLine post sender line = (line.place_use.sender ≡ sender)
    × IfSome line.pass (λ pass. MaySend post pass line.place_use)
    × IfSome line.owner (λ owner. IsOwnerFresh post owner)
    × IfSome line.emptied (λ emptied. IsEnd post emptied)

-- the lines of the senders below n, the last first
abbrev pub AreLines : Post ℕ ℕ → ℕ → List Line → Type 0
AreLines post n lines = (k : ℕ) (d : Line) → k < length lines → IsLine post (n - 1 - k) (slice_index_or lines k d)
