-- Each step of a sender is its event: it may come in the world that the table shows, and leaves the world that the table
-- shows after it. A state is one that the table may have, with the view of the seat that steps.
use Rattle.std.specs.Prelude.{◌≡◌, ◌≢◌, ℕ, ◌+◌, ◌-◌, ◌%◌, ◌^◌, ◌<◌, ◌≤◌, IsTrue, List, ◌∷◌, length, slice_index}
use mathlib.Core.Option.{some}
use lib.ListN.{get_elem?}
use Rattle.atomic_table.specs.Table.{State, gives, keeps, stepped, takes}
use Rattle.task_ring.specs.Ring.{RingView}
use Rattle.proxy_laws.specs.declared.actors.Actor.TheVariants as actor
use Rattle.proxy_laws.specs.declared.actors.Phase.TheVariants as phase
use Rattle.proxy_laws.specs.declared.events.Event.TheVariants as event
use Rattle.proxy_laws.specs.declared.records.Mark.{Mark}
use Rattle.proxy_laws.specs.Phases.{has_turn_at, phase_after_swap}
use Rattle.post_core.specs.declared.slots.Item.{Item}
use Rattle.post_core.specs.declared.views.View.{View}
use Rattle.post_core.specs.Kept.{listed}
use Rattle.post_core.specs.Rule.{IsEvent, Shown}
use Rattle.post_core.specs.SendSteps.{none_seen, own_marks_max, place_given, place_taken}
use Rattle.post_core.specs.Steps.{all_meant}
use Rattle.post_core.specs.Views.{IsPassView, at_phase, job_put, pass_of}
use Rattle.post_core.specs.Words.{note_at, put_at, refs_at, turn_at}

module _ {J M : Type 0} (meaning : J → M) (suits : ℕ → Mark → M → Type 0) where
  -- of each state that the table may have, and each pass of it
  abbrev pub OfEachPass : ((senders places : ℕ) (s : State (RingView (Item J)) (View M)) → Shown meaning suits senders places s → ℕ → View M → List (ℕ × RingView (Item J)) → Type 0) → Type 0
  OfEachPass P = (senders places : ℕ) (s : State (RingView (Item J)) (View M)) (r : Shown meaning suits senders places s) (id : ℕ) (v : View M) (held : List (ℕ × RingView (Item J)))
      → get_elem? s.views id ≡ some v → IsPassView v → P senders places s r id v held

  -- a load of the references, which is seen where it found none
  abbrev pub LoadsRefs : Type 0
  LoadsRefs = OfEachPass (λ senders places s r id v held. (pass_of v).phase ≡ phase.Idle
      → (slice_index s.words refs_at ≡ 0 → IsEvent meaning suits senders places s r (event.LoadRefs (pass_of v).number) (stepped s refs_at (slice_index s.words refs_at) id held (none_seen v) keeps))
      × (slice_index s.words refs_at ≢ 0 → IsEvent meaning suits senders places s r (event.LoadRefs (pass_of v).number) (stepped s refs_at (slice_index s.words refs_at) id held v keeps)))

  -- an exchange of the references for one more, where there is one
  abbrev pub AddsRef : Type 0
  AddsRef = OfEachPass (λ senders places s r id v held. (pass_of v).phase ≡ phase.Idle → 1 ≤ slice_index s.words refs_at
      → IsEvent meaning suits senders places s r (event.AddRef (pass_of v).number) (stepped s refs_at (slice_index s.words refs_at + 1) id held (at_phase phase.Referenced v) keeps))

  -- a fetch sub of a reference
  abbrev pub DropsRef : Type 0
  DropsRef = OfEachPass (λ senders places s r id v held. (pass_of v).phase ≡ phase.Referenced
      → IsEvent meaning suits senders places s r (event.DropRef (pass_of v).number) (stepped s refs_at ((slice_index s.words refs_at + (2 ^ 64 - 1)) % 2 ^ 64) id held (at_phase phase.Idle v) keeps))

  -- an exchange of a free turn, with the ring of the place
  abbrev pub TakesPlace : Type 0
  TakesPlace = OfEachPass (λ senders places s r id v held. (p : ℕ) → p < places → (pass_of v).phase ≡ phase.Referenced → 0 < slice_index (pass_of v).uses p → slice_index s.words (turn_at p) ≡ 0
      → (ring : RingView (Item J)) × (get_elem? s.homes p ≡ some (some ring)) × IsEvent meaning suits senders places s r (event.TakePlace (actor.Sender (pass_of v).number) p) (stepped s (turn_at p) 1 id held (place_taken p (all_meant meaning ring.items) v) (takes p ring)))

  -- a fetch add of the jobs put, with the mark and the meaning of the new job
  abbrev pub PutsJob : Type 0
  PutsJob = OfEachPass (λ senders places s r id v held. (p tag : ℕ) (meant : M) → p < places → (pass_of v).phase ≡ phase.Holding p → length (listed (pass_of v).own p) < own_marks_max
      → suits p (record { sender = (pass_of v).number; seq = length (listed (pass_of v).own p); tag = tag }) meant
      → IsEvent meaning suits senders places s r (event.Put (pass_of v).number p tag) (stepped s (put_at p) ((slice_index s.words (put_at p) + 1) % 2 ^ 64) id held
      (job_put p (slice_index s.words (put_at p)) (record { mark = record { sender = (pass_of v).number; seq = length (listed (pass_of v).own p); tag = tag }; meaning = meant }) v) keeps))

  -- a store of a free turn, with a ring that is as the pass's view says
  abbrev pub GivesPlace : Type 0
  GivesPlace = OfEachPass (λ senders places s r id v held. (p : ℕ) (ring : RingView (Item J)) → p < places → IsTrue (has_turn_at p (pass_of v).phase) → all_meant meaning ring.items ≡ (pass_of v).ring
      → IsEvent meaning suits senders places s r (event.GivePlace (actor.Sender (pass_of v).number) p) (stepped s (turn_at p) 0 id ((p, ring) ∷ held) (place_given p v) gives))

  -- a swap of the note for pending
  abbrev pub SwapsNote : Type 0
  SwapsNote = OfEachPass (λ senders places s r id v held. (p : ℕ) → p < places → (pass_of v).phase ≡ phase.Owing p
      → IsEvent meaning suits senders places s r (event.SwapNote (pass_of v).number p) (stepped s (note_at p) 1 id held (at_phase (phase_after_swap p (r.world.note p)) v) keeps))
