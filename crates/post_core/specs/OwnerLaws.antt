-- Each step of a messenger and of the owner is its event: it may come in the world that the table shows, and leaves the
-- world that the table shows after it. A state is one that the table may have, with the view of the seat that steps.
use Rattle.std.specs.Prelude.{◌≡◌, ◌≢◌, ℕ, ◌+◌, ◌-◌, ◌/◌, ◌%◌, ◌^◌, ◌<◌, ◌==◌, IsTrue, Some, None, List, [], ◌∷◌, length, slice_index, bit_and, bit_or, if◌then◌else◌}
use Rattle.std.specs.Int.{bit_not, w64}
use mathlib.Core.Option.{some}
use lib.ListN.{get_elem?}
use Rattle.atomic_table.specs.Table.{State, gives, keeps, stepped, takes}
use Rattle.task_ring.specs.Ring.{RingView}
use Rattle.proxy_laws.specs.declared.actors.Actor.TheVariants as actor
use Rattle.proxy_laws.specs.declared.actors.OwnerState.TheVariants as owner
use Rattle.proxy_laws.specs.declared.actors.Phase.TheVariants as phase
use Rattle.proxy_laws.specs.declared.actors.Serving.TheVariants as serving
use Rattle.proxy_laws.specs.declared.events.Event.TheVariants as event
use Rattle.proxy_laws.specs.declared.records.FateMark.TheVariants as fate
use Rattle.proxy_laws.specs.declared.records.Mark.{Mark}
use Rattle.proxy_laws.specs.Mailbox.{mail_words}
use Rattle.proxy_laws.specs.Phases.{is_got, is_working}
use Rattle.post_core.specs.declared.slots.Item.{Item}
use Rattle.post_core.specs.declared.views.View.{View}
use Rattle.post_core.specs.ClosingSteps.{none_left, own_dropped, some_left}
use Rattle.post_core.specs.Kept.{listed}
use Rattle.post_core.specs.MailSteps.{lowest_in, notice_found, notice_taken, word_empty}
use Rattle.post_core.specs.Rule.{IsEvent, Shown}
use Rattle.post_core.specs.SendLaws.{OfEachPass}
use Rattle.post_core.specs.ServingSteps.{at_serving, place_looked, place_received, serving_at}
use Rattle.post_core.specs.Steps.{IsActiveHere, all_meant}
use Rattle.post_core.specs.Views.{IsOwnerView, at_phase, job_settled, job_taken, owner_of, pass_of, turn_given, turn_taken}
use Rattle.post_core.specs.Words.{mail_at, note_at, put_at, refs_at, settled_at, taken_at, turn_at}

-- the bit of p in its word of the mailbox
abbrev pub mail_bit : ℕ → ℕ
mail_bit p = 2 ^ (p % 64)

module _ {M : Type 0} where
  -- the owner may look into the mailbox, and take what it found there: it is at no place, and is not closing
  abbrev pub MayLook : View M → Type 0
  MayLook v = ((q : ℕ) → serving_at q v ≡ serving.Away) × ((owner_of v).state ≢ owner.Closing)

  -- the owner may take jobs of p, once it has the turn: it executes p, or it is closed and empties p
  abbrev pub IsWorkingAt : ℕ → View M → Type 0
  IsWorkingAt p v = IsTrue (is_working (owner_of v).state (serving_at p v))

module _ {J M : Type 0} (meaning : J → M) (suits : ℕ → Mark → M → Type 0) where
  -- of each state that the table may have, and the owner of it
  abbrev pub OfEachOwner : ((senders places : ℕ) (s : State (RingView (Item J)) (View M))
      → Shown meaning suits senders places s → ℕ → View M → List (ℕ × RingView (Item J)) → Type 0) → Type 0
  OfEachOwner P = (senders places : ℕ) (s : State (RingView (Item J)) (View M))
      (r : Shown meaning suits senders places s) (id : ℕ) (v : View M) (held : List (ℕ × RingView (Item J)))
      → get_elem? s.views id ≡ some v → IsOwnerView v → P senders places s r id v held

  -- a messenger's fetch or of its place's bit into the mailbox
  abbrev pub AddsMail : Type 0
  AddsMail = OfEachPass meaning suits (λ senders places s r id v held. (p : ℕ)
      → p < places → (pass_of v).phase ≡ phase.Messenger p
      → IsEvent meaning suits senders places s r (event.AddMail (pass_of v).number)
      (stepped s (mail_at (p / 64)) (bit_or (slice_index s.words (mail_at (p / 64))) (mail_bit p))
      id held (at_phase phase.Referenced v) keeps))

  -- a load of a word of the mailbox, which has 64 bits: it finds the word empty, or the notice of its lowest place
  abbrev pub LooksMail : Type 0
  LooksMail = OfEachOwner (λ senders places s r id v held. (word found : ℕ)
      → word < mail_words → MayLook v → slice_index s.words (mail_at word) ≡ found → found < 2 ^ 64
      → (found ≡ 0 → IsEvent meaning suits senders places s r (event.LookMail word)
      (stepped s (mail_at word) found id held (word_empty word v) keeps))
      × (found ≢ 0 → IsEvent meaning suits senders places s r (event.LookMail word)
      (stepped s (mail_at word) found id held (notice_found (lowest_in word found) v) keeps)))

  -- a fetch and that clears the bit of a notice that the owner found before
  abbrev pub TakesNotice : Type 0
  TakesNotice = OfEachOwner (λ senders places s r id v held. (p : ℕ)
      → MayLook v → (owner_of v).noticed ≡ Some p
      → IsEvent meaning suits senders places s r (event.TakeNotice p)
      (stepped s (mail_at (p / 64)) (bit_and (slice_index s.words (mail_at (p / 64))) (bit_not w64 (mail_bit p)))
      id held (notice_taken p v) keeps))

  -- a store of received in the note of a place that the owner got
  abbrev pub ReceivesNote : Type 0
  ReceivesNote = OfEachOwner (λ senders places s r id v held. (p : ℕ)
      → p < places → IsTrue (is_got (serving_at p v))
      → IsEvent meaning suits senders places s r (event.Receive p)
      (stepped s (note_at p) 2 id held (place_received p v) keeps))

  -- a load of the note of p, by an owner that is at no place
  abbrev pub BeginsDirect : Type 0
  BeginsDirect = OfEachOwner (λ senders places s r id v held. (p : ℕ)
      → p < places → ((q : ℕ) → serving_at q v ≡ serving.Away)
      → IsEvent meaning suits senders places s r (event.Direct p)
      (stepped s (note_at p) (slice_index s.words (note_at p)) id held (at_serving p serving.Direct v) keeps))

  -- an exchange of a free turn, with the ring of the place
  abbrev pub OwnerTakesPlace : Type 0
  OwnerTakesPlace = OfEachOwner (λ senders places s r id v held. (p : ℕ)
      → p < places → (owner_of v).turn ≡ None → IsWorkingAt p v → slice_index s.words (turn_at p) ≡ 0
      → (ring : RingView (Item J)) × (get_elem? s.homes p ≡ some (some ring))
      × IsEvent meaning suits senders places s r (event.TakePlace actor.Owner p)
      (stepped s (turn_at p) 1 id held (turn_taken p (all_meant meaning ring.items) v) (takes p ring)))

  -- a fetch add of the jobs taken, where a job waits in the ring that the owner has with the turn
  abbrev pub TakesJob : Type 0
  TakesJob = OfEachOwner (λ senders places s r id v held. (p : ℕ)
      → (owner_of v).turn ≡ Some p → IsWorkingAt p v → 0 < length (owner_of v).ring
      → IsEvent meaning suits senders places s r (event.TakeJob p)
      (stepped s (taken_at p) ((slice_index s.words (taken_at p) + 1) % 2 ^ 64) id held (job_taken p v) keeps))

  -- a load of the jobs put, which are as many as were taken, where no job waits in the ring
  abbrev pub LooksPlace : Type 0
  LooksPlace = OfEachOwner (λ senders places s r id v held. (p : ℕ)
      → p < places → (owner_of v).turn ≡ Some p → IsWorkingAt p v → (owner_of v).ring ≡ []
      → (slice_index s.words (put_at p) ≡ length (listed (owner_of v).jobs p))
      × IsEvent meaning suits senders places s r (event.LookPlace p)
      (stepped s (put_at p) (slice_index s.words (put_at p)) id held (place_looked p v) keeps))

  -- a store of a free turn, with a ring that is as the owner's view says
  abbrev pub OwnerGivesPlace : Type 0
  OwnerGivesPlace = OfEachOwner (λ senders places s r id v held. (p : ℕ) (ring : RingView (Item J))
      → p < places → (owner_of v).turn ≡ Some p → all_meant meaning ring.items ≡ (owner_of v).ring
      → IsEvent meaning suits senders places s r (event.GivePlace actor.Owner p)
      (stepped s (turn_at p) 0 id ((p, ring) ∷ held) (turn_given v) gives))

  -- an exchange of received for none in the note of a place that the owner saw empty, which leaves any other note
  abbrev pub FinishesPlace : Type 0
  FinishesPlace = OfEachOwner (λ senders places s r id v held. (p : ℕ)
      → p < places → (owner_of v).turn ≡ None → serving_at p v ≡ serving.SeenEmpty
      → IsEvent meaning suits senders places s r (event.Finish p)
      (stepped s (note_at p) (if slice_index s.words (note_at p) == 2 then 0 else slice_index s.words (note_at p))
      id held (at_serving p serving.Away v) keeps))

  -- a fetch add of the jobs settled, by an open owner for an active job, which is finished
  abbrev pub SettlesFinished : Type 0
  SettlesFinished = OfEachOwner (λ senders places s r id v held. (p n : ℕ)
      → p < places → (owner_of v).state ≡ owner.Open → IsActiveHere (listed (owner_of v).jobs p) n
      → IsEvent meaning suits senders places s r (event.SettleFinished p n)
      (stepped s (settled_at p) ((slice_index s.words (settled_at p) + 1) % 2 ^ 64)
      id held (job_settled p n fate.Finished v) keeps))

  -- a fetch add of the jobs settled, by a closed owner for an active job, which is cancelled
  abbrev pub SettlesCancelled : Type 0
  SettlesCancelled = OfEachOwner (λ senders places s r id v held. (p n : ℕ)
      → p < places → (owner_of v).state ≡ owner.Closed → IsActiveHere (listed (owner_of v).jobs p) n
      → IsEvent meaning suits senders places s r (event.SettleCancelled p n)
      (stepped s (settled_at p) ((slice_index s.words (settled_at p) + 1) % 2 ^ 64)
      id held (job_settled p n fate.Cancelled v) keeps))

  -- a fetch sub of the references, by an open owner
  abbrev pub DropsOwn : Type 0
  DropsOwn = OfEachOwner (λ senders places s r id v held. (owner_of v).state ≡ owner.Open
      → IsEvent meaning suits senders places s r event.DropOwn
      (stepped s refs_at ((slice_index s.words refs_at + (2 ^ 64 - 1)) % 2 ^ 64) id held (own_dropped v) keeps))

  -- a load of the references, by an owner that is closing: it is closed where it finds none
  abbrev pub LooksClosed : Type 0
  LooksClosed = OfEachOwner (λ senders places s r id v held. (count : ℕ)
      → (owner_of v).state ≡ owner.Closing → slice_index s.words refs_at ≡ count
      → (count ≡ 0 → IsEvent meaning suits senders places s r event.LookClosed
      (stepped s refs_at count id held (none_left v) keeps))
      × (count ≢ 0 → IsEvent meaning suits senders places s r event.LookClosed
      (stepped s refs_at count id held (some_left count v) keeps)))

  -- a store of none in the note of a place that a closed owner works at with the turn, where no job waits in the ring
  abbrev pub ResetsPlace : Type 0
  ResetsPlace = OfEachOwner (λ senders places s r id v held. (p : ℕ)
      → p < places → (owner_of v).state ≡ owner.Closed → (owner_of v).turn ≡ Some p → IsWorkingAt p v
      → (owner_of v).ring ≡ []
      → IsEvent meaning suits senders places s r (event.ResetPlace p)
      (stepped s (note_at p) 0 id held (at_serving p serving.Away v) keeps))
