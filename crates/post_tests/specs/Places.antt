-- What a pass has once it has created a place.
use Rattle.std.specs.Prelude.{ℕ}
use Rattle.post_core.specs.declared.post.PlaceUse.{PlaceUse}
use Rattle.post_core.specs.declared.post.Post.{Post}
use Rattle.post_core.specs.declared.views.View.{View}
use Rattle.post_tests.specs.Scenes.{MayPut}

-- the pass may put wherever it could, and at the place of the new use
abbrev pub IsCreatedFor : Post ℕ ℕ → View ℕ → View ℕ → PlaceUse ℕ → Type 0
IsCreatedFor post v w place_use = ((u : PlaceUse ℕ) → MayPut post v u → MayPut post w u) × MayPut post w place_use
