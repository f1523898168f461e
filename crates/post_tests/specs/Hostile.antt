-- What a sender has while the owner begins to close.
use Rattle.std.specs.Prelude.{ℕ}
use Rattle.post_core.specs.declared.post.PlaceUse.{PlaceUse}
use Rattle.post_core.specs.declared.post.Post.{Post}
use Rattle.post_core.specs.SendParts.{IsNoticeOf, IsOwingOf, IsPassOf, IsRefPassOf, notice_view, owing_view, pass_view, ref_view}
use Rattle.post_tests.specs.declared.parts.Hand.{Hand}
use Rattle.post_tests.specs.declared.parts.Hand.TheVariants as hand
use Rattle.post_tests.specs.Scenes.{MayPut}

-- the sender can go on from there
abbrev pub MayLetGo : Post ℕ ℕ → PlaceUse ℕ → Hand → Type 0
MayLetGo post place_use (hand.Pass pass) = IsPassOf post pass × MayPut post (pass_view pass) place_use
MayLetGo post place_use (hand.Reference held) = IsRefPassOf post held × MayPut post (ref_view held) place_use
MayLetGo post place_use (hand.Owing owing) = IsOwingOf post owing × MayPut post (owing_view owing) place_use
MayLetGo post place_use (hand.Notice notice) = IsNoticeOf post notice × MayPut post (notice_view notice) place_use
