-- An exchange that failed where it was tried once changes nothing of the world that the table shows. One of the references
-- is a load of them.
use Rattle.std.specs.Prelude.{◌≡◌, ◌≢◌, ℕ, ◌<◌, slice_index}
use Rattle.atomic_table.specs.Table.{keeps, stepped}
use Rattle.proxy_laws.specs.declared.actors.Phase.TheVariants as phase
use Rattle.proxy_laws.specs.declared.events.Event.TheVariants as event
use Rattle.proxy_laws.specs.declared.records.Mark.{Mark}
use Rattle.post_core.specs.Rule.{IsEvent, Shown}
use Rattle.post_core.specs.SendLaws.{OfEachPass}
use Rattle.post_core.specs.SendSteps.{none_seen}
use Rattle.post_core.specs.TrySteps.{exchange_failed}
use Rattle.post_core.specs.Views.{pass_of}
use Rattle.post_core.specs.Words.{refs_at, turn_at}

module _ {J M : Type 0} (meaning : J → M) (suits : ℕ → Mark → M → Type 0) where
  -- a failed exchange of the references, which the pass keeps; it is seen where it found none
  abbrev pub MissesRef : Type 0
  MissesRef = OfEachPass meaning suits (λ senders places s r id v held. (loaded : ℕ) → (pass_of v).phase ≡ phase.Idle
      → (slice_index s.words refs_at ≡ 0 → IsEvent meaning suits senders places s r (event.LoadRefs (pass_of v).number) (stepped s refs_at (slice_index s.words refs_at) id held (none_seen (exchange_failed refs_at loaded 0 v)) keeps))
      × (slice_index s.words refs_at ≢ 0 → IsEvent meaning suits senders places s r (event.LoadRefs (pass_of v).number) (stepped s refs_at (slice_index s.words refs_at) id held (exchange_failed refs_at loaded (slice_index s.words refs_at) v) keeps)))

  -- a failed exchange of the turn of a place, which the pass keeps, is no event
  abbrev pub MissesTurn : Type 0
  MissesTurn = OfEachPass meaning suits (λ senders places s r id v held. (p : ℕ) → p < places → slice_index s.words (turn_at p) ≢ 0
      → (r' : Shown meaning suits senders places (stepped s (turn_at p) (slice_index s.words (turn_at p)) id held (exchange_failed (turn_at p) 0 1 v) keeps)) × (r'.world ≡ r.world))
