-- What the threads of a target have, side by side.
use Rattle.std.specs.Prelude.{◌≡◌, ℕ, ◌-◌, ◌<◌, IfSome, List, length, slice_index_or}
use Rattle.post_core.specs.declared.post.Post.{Post}
use Rattle.queue_tests.specs.declared.parts.Line.{Line}
use Rattle.queue_tests.specs.declared.parts.Owning.{Owning}
use Rattle.queue_tests.specs.Scenes.{IsBoxIdle, IsEnd, MaySend}

-- what the owner's thread has is of this post
abbrev pub IsOwning : Post ℕ ℕ → Owning → Type 0
IsOwning post owning = IfSome owning.mailbox (λ mailbox. IsBoxIdle post mailbox) × IfSome owning.emptied (λ emptied. IsEnd post emptied)

-- the line is that of this sender, and its pass, where it is there, may send to the place of its use
abbrev pub IsLine : Post ℕ ℕ → ℕ → Line → Type 0
IsLine post sender line = (line.place_use.sender ≡ sender) × IfSome line.pass (λ pass. MaySend post pass line.place_use)

-- the lines of the senders below n, the last first
abbrev pub AreLines : Post ℕ ℕ → ℕ → List Line → Type 0
AreLines post n lines = (k : ℕ) (d : Line) → k < length lines → IsLine post (n - 1 - k) (slice_index_or lines k d)
