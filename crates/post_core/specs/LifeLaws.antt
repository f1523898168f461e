-- Each step of a pass on the life of a place is its event, as the laws on the other steps of senders say it.
use Rattle.std.specs.Prelude.{◌≡◌, ◌≢◌, ℕ, ◌+◌, ◌-◌, ◌%◌, ◌^◌, ◌<◌, IsTrue, slice_index}
use Rattle.atomic_table.specs.Table.{keeps, stepped}
use Rattle.proxy_laws.specs.declared.actors.Look.TheVariants as look
use Rattle.proxy_laws.specs.declared.actors.Phase.TheVariants as phase
use Rattle.proxy_laws.specs.declared.events.Event.TheVariants as event
use Rattle.proxy_laws.specs.declared.records.Mark.{Mark}
use Rattle.proxy_laws.specs.Phases.{has_seen_note, life_after_mark, looks_at}
use Rattle.post_core.specs.LifeSteps.{life_marked, note_looked, place_claimed, use_cloned, use_dropped}
use Rattle.post_core.specs.Rule.{IsEvent, clones_max}
use Rattle.post_core.specs.SendLaws.{OfEachPass}
use Rattle.post_core.specs.Views.{pass_of, place_created}
use Rattle.post_core.specs.Words.{life_at, note_at}

module _ {J M : Type 0} (meaning : J → M) (suits : ℕ → Mark → M → Type 0) where
  -- an exchange of a life of 0 for one use
  abbrev pub CreatesPlace : Type 0
  CreatesPlace = OfEachPass meaning suits (λ senders places s r id v held. (p : ℕ) → p < places → p ≢ 0 → slice_index s.words (life_at p) ≡ 0
      → IsEvent meaning suits senders places s r (event.Create (pass_of v).number p) (stepped s (life_at p) 3 id held (place_created p v) keeps))

  -- a fetch add of a life, by a pass that is idle and has a use
  abbrev pub ClonesUse : Type 0
  ClonesUse = OfEachPass meaning suits (λ senders places s r id v held. (p : ℕ) → p < places → (pass_of v).phase ≡ phase.Idle → 0 < slice_index (pass_of v).uses p → (pass_of v).clones < clones_max
      → IsEvent meaning suits senders places s r (event.CloneUse (pass_of v).number p) (stepped s (life_at p) ((slice_index s.words (life_at p) + 1) % 2 ^ 64) id held (use_cloned p v) keeps))

  -- a fetch sub of a life, by a pass that is idle, has a use and looks at no place
  abbrev pub ReleasesUse : Type 0
  ReleasesUse = OfEachPass meaning suits (λ senders places s r id v held. (p : ℕ) → p < places → (pass_of v).phase ≡ phase.Idle → 0 < slice_index (pass_of v).uses p → (pass_of v).look ≡ look.Nowhere → p ≢ 0
      → IsEvent meaning suits senders places s r (event.ReleaseUse (pass_of v).number p) (stepped s (life_at p) ((slice_index s.words (life_at p) + (2 ^ 64 - 1)) % 2 ^ 64) id held (use_dropped p v) keeps))

  -- an exchange of a zombie's life for that of a place which is looked at
  abbrev pub ClaimsPlace : Type 0
  ClaimsPlace = OfEachPass meaning suits (λ senders places s r id v held. (p : ℕ) → p < places → (pass_of v).look ≡ look.Nowhere → slice_index s.words (life_at p) ≡ 1
      → IsEvent meaning suits senders places s r (event.Claim (pass_of v).number p) (stepped s (life_at p) 2 id held (place_claimed p v) keeps))

  -- a load of the note of a place that the pass looks at
  abbrev pub LooksNote : Type 0
  LooksNote = OfEachPass meaning suits (λ senders places s r id v held. (p : ℕ) → p < places → IsTrue (looks_at p (pass_of v).look)
      → IsEvent meaning suits senders places s r (event.LookNote (pass_of v).number p) (stepped s (note_at p) (slice_index s.words (note_at p)) id held (note_looked p (r.world.note p) v) keeps))

  -- a store of a life, 0 where the note seen was none and else a zombie's
  abbrev pub MarksLife : Type 0
  MarksLife = OfEachPass meaning suits (λ senders places s r id v held. (p : ℕ) → p < places → IsTrue (looks_at p (pass_of v).look) → IsTrue (has_seen_note (pass_of v).look)
      → IsEvent meaning suits senders places s r (event.MarkLife (pass_of v).number p) (stepped s (life_at p) (life_after_mark (pass_of v).look) id held (life_marked p v) keeps))
