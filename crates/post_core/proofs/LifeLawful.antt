-- Each step of a pass on the life of a place is its event, as the laws say it.
use Rattle.std.proofs.Common.{ℕ, arith, sym, refl, ◌∙◌, slice_index}
use Rattle.proxy_laws.specs.declared.records.Mark.{Mark}
use Rattle.post_core.specs.LifeLaws.{ClaimsPlace, ClonesUse, CreatesPlace, LooksNote, MarksLife, ReleasesUse}
use Rattle.post_core.specs.Words.{note_at}
use Rattle.post_core.proofs.LifeEvents.{claims, clones_use, life_is_own, life_fits, life_small, looks_note, marks_life, releases_use}
use Rattle.post_core.proofs.Placing.{creates}

module _ {J M : Type 0} (meaning : J → M) (suits : ℕ → Mark → M → Type 0) where
  pub place_is_created : CreatesPlace meaning suits
  place_is_created senders places s r id v held at is p near other free = creates meaning suits senders places s r id p v held at is near other (sym (r.words.life_is p near) ∙ free)

  pub use_is_cloned : ClonesUse meaning suits
  use_is_cloned senders places s r id v held at is p near idle used few = clones_use meaning suits senders places s r id p v held at is near idle used few _ (let a = life_small meaning suits senders places s r id p v held at is near idle used few in omega arith)

  pub use_is_released : ReleasesUse meaning suits
  use_is_released senders places s r id v held at is p near idle used nowhere other = releases_use meaning suits senders places s r id p v held at is near idle used nowhere other _
      (let a = life_is_own meaning suits senders places s r id p v held at is near idle used nowhere other in let b = life_fits meaning suits senders places s r id p v held at is near idle used nowhere other in omega arith)

  pub place_is_claimed : ClaimsPlace meaning suits
  place_is_claimed senders places s r id v held at is p near nowhere zombie = claims meaning suits senders places s r id p v held at is near nowhere zombie

  pub note_is_looked_at : LooksNote meaning suits
  note_is_looked_at senders places s r id v held at is p near looks = looks_note meaning suits senders places s r id p v held at is near looks (slice_index s.words (note_at p)) refl

  pub life_is_marked : MarksLife meaning suits
  life_is_marked senders places s r id v held at is p near looks saw = marks_life meaning suits senders places s r id p v held at is near looks saw
