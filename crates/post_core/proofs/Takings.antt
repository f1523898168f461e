-- What the table asks of the steps on the mailbox and at a place, from the fact that each is its event.
use Rattle.std.proofs.Common.{slice_index, ◌≡◌, ◌≢◌, ℕ, ◌+◌, ◌-◌, ◌*◌, ◌%◌, ◌^◌, ◌<◌, ◌==◌, Some, None, List, [], length, refl, arith, ap, sym, ◌∙◌}
use Rattle.std.specs.Prelude.{IsTrue, ◌/◌, bit_and, bit_or}
use Rattle.std.specs.Int.{bit_not, w64}
use mathlib.Core.Logic.{dite}
use mathlib.Core.Option.{none}
use native.Mathlib.Decide.{ℕ_discrete}
use prog.Atomic.{either}
use Rattle.atomic_table.specs.Table.{Allows, keeps, step}
use Rattle.task_ring.specs.Ring.{RingView}
use Rattle.proxy_laws.specs.declared.actors.OwnerState.TheVariants as owner
use Rattle.proxy_laws.specs.declared.actors.Phase.TheVariants as phase
use Rattle.proxy_laws.specs.declared.actors.Serving.TheVariants as serving
use Rattle.proxy_laws.specs.declared.records.Mark.{Mark}
use Rattle.proxy_laws.specs.Phases.{is_got, is_working}
use Rattle.post_core.specs.declared.slots.Item.{Item}
use Rattle.post_core.specs.declared.views.View.{View}
use Rattle.post_core.specs.ClosingSteps.{dropped_own, looked_closed, none_left, own_dropped, some_left}
use Rattle.post_core.specs.MailSteps.{added_mail, looked_mail, lowest_in, notice_found, notice_taken, took_notice, word_empty}
use Rattle.post_core.specs.Rule.{OwnerFits, Shown}
use Rattle.post_core.specs.ServingSteps.{at_serving, began_directly, finished_place, looked_place, place_looked, place_received, received_place, serving_at}
use Rattle.post_core.specs.Views.{IsOwnerView, IsPassView, at_phase, owner_of, pass_of}
use Rattle.post_core.specs.Words.{mail_at, note_at, put_at, refs_at}
use Rattle.post_core.proofs.ClosingEvents.{drops_own, finds_none, finds_some, own_counted}
use Rattle.post_core.proofs.Executed.{begins_directly, finishes, found_is, looks_place, receives, resets_place}
use Rattle.post_core.proofs.Numbers.{got_few}
use Rattle.post_core.proofs.Mailed.{adds_mail, looks_empty, looks_found, takes_notice}
use Rattle.post_core.proofs.Words.{place_is}

module _ {J M : Type 0} (meaning : J → M) (suits : ℕ → Mark → M → Type 0) (senders places : ℕ) (slots id : ℕ) (v : View M) (held : List (ℕ × RingView (Item J))) where
  pub add_allowed : (p : ℕ) → p < places → IsPassView v → (pass_of v).phase ≡ phase.Messenger p
      → Allows (Shown meaning suits senders places) slots id (v, held) (mail_at (p / 64)) (λ n. bit_or n (1 * 2 ^ (p % 64) % 2 ^ 64)) (added_mail (step slots (mail_at (p / 64)) (1 * 2 ^ (p % 64) % 2 ^ 64) 0 none) (v, held))
  add_allowed p near is brings s r wide at bound = (at_phase phase.Referenced v, keeps, tt, (adds_mail meaning suits senders places s r id v held at is p near brings).1.0, refl)

  module _ (is : IsOwnerView v) (ne : (owner_of v).state ≢ owner.Closing) (away : (p : ℕ) → serving_at p v ≡ serving.Away) where
    pub look_allowed : (word : ℕ) → word < 4 → Allows (Shown meaning suits senders places) slots id (v, held) (mail_at word) (λ n. n) (looked_mail (step slots (mail_at word) 0 0 none) (v, held))
    look_allowed word near s r wide at bound = dite (ℕ_discrete (slice_index s.words (mail_at word)) 0)
        (λ empty. (word_empty word v, keeps, tt, (looks_empty meaning suits senders places s r id v held at is.1 away ne word near empty).1.0, ((λ e. ap (λ k. (word_empty k v, held)) word_is), (λ some_bit. absurd (some_bit empty)))))
        (λ some_bit. let found = slice_index s.words (mail_at word) in (notice_found (lowest_in word found) v, keeps, tt, (looks_found meaning suits senders places s r id v held at is.1 away ne word near found refl some_bit bound).1.0, ((λ e. absurd (some_bit e)), (λ e. (bound, ap (λ k. (notice_found (lowest_in k found) v, held)) word_is)))))
      where
        word_is : word ≡ mail_at word - mail_at 0
        word_is = omega arith

    pub take_notice_allowed : (p : ℕ) → (owner_of v).noticed ≡ Some p → Allows (Shown meaning suits senders places) slots id (v, held) (mail_at (p / 64)) (λ n. bit_and n (bit_not w64 (1 * 2 ^ (p % 64) % 2 ^ 64))) (took_notice (step slots (mail_at (p / 64)) (bit_not w64 (1 * 2 ^ (p % 64) % 2 ^ 64)) 0 none) (v, held))
    take_notice_allowed p found s r wide at bound = (notice_taken p v, keeps, tt, (takes_notice meaning suits senders places s r id v held at is.1 away ne p found).1.0, (λ q is_q. (near q is_q, few, ap (λ k. (notice_taken k v, held)) (same p q (sym found ∙ is_q))))) where
      mine : OwnerFits r.world r.entries (owner_of v)
      mine = ((r.views id v at).owner (owner_of v) is.1).1

      near : (q : ℕ) → (owner_of v).noticed ≡ Some q → q < slots
      near q is_q = let a = (mine.clears.noticed q is_q).0 in let b = r.sized.places_are in let c = r.slots.wide in omega arith

      few : (owner_of v).got < 2 ^ 63
      few = let a = got_few meaning suits senders places s r in let b = mine.does.got_is in omega arith

      same : (a b : ℕ) → Some a ≡ Some b → a ≡ b
      same a b e = cc

  module _ (p : ℕ) (near : p < places) (is : IsOwnerView v) where
    pub receive_allowed : IsTrue (is_got (serving_at p v)) → Allows (Shown meaning suits senders places) slots id (v, held) (note_at p) (λ _. 2) (λ _. received_place (step slots (note_at p) 2 0 none) (v, held) 2)
    receive_allowed got s r wide at bound = (place_received p v, keeps, tt, (receives meaning suits senders places s r id p v held at is.1 near got).1.0, ap (λ k. (place_received k v, held)) (sym (place_is (note_at 0) p)))

    pub direct_allowed : ((q : ℕ) → serving_at q v ≡ serving.Away) → Allows (Shown meaning suits senders places) slots id (v, held) (note_at p) (λ n. n) (began_directly (step slots (note_at p) 0 0 none) (v, held))
    direct_allowed away s r wide at bound = (at_serving p serving.Direct v, keeps, tt, (begins_directly meaning suits senders places s r id p v held at is.1 near away).1.0, ap (λ k. (at_serving k serving.Direct v, held)) (sym (place_is (note_at 0) p)))

    pub look_place_allowed : (owner_of v).turn ≡ Some p → IsTrue (is_working (owner_of v).state (serving_at p v)) → (owner_of v).ring ≡ [] → Allows (Shown meaning suits senders places) slots id (v, held) (put_at p) (λ n. n) (looked_place (step slots (put_at p) 0 0 none) (v, held))
    look_place_allowed turn works none_waits s r wide at bound = (
      place_looked p v,
      keeps,
      tt,
      (looks_place meaning suits senders places s r id p v held at is.1 near turn works none_waits).1.0,
      (found_is meaning suits senders places s r id p v held at is.1 near turn works none_waits ∙ ap (λ k. length (Rattle.post_core.specs.Kept.listed (owner_of v).jobs k)) (sym (place_is (put_at 0) p)), ap (λ k. (place_looked k v, held)) (sym (place_is (put_at 0) p))),
    )

    pub finish_allowed : serving_at p v ≡ serving.SeenEmpty → (owner_of v).turn ≡ None → Allows (Shown meaning suits senders places) slots id (v, held) (note_at p) (λ n. either (n == 2) 0 n) (finished_place (step slots (note_at p) 2 0 none) (v, held))
    finish_allowed seen no_turn s r wide at bound = (at_serving p serving.Away v, keeps, tt, (finishes meaning suits senders places s r id p v held at is.1 near seen no_turn (either (slice_index s.words (note_at p) == 2) 0 (slice_index s.words (note_at p))) refl).1.0, ap (λ k. (at_serving k serving.Away v, held)) (sym (place_is (note_at 0) p)))

    pub reset_allowed : (owner_of v).state ≡ owner.Closed → (owner_of v).turn ≡ Some p → IsTrue (is_working (owner_of v).state (serving_at p v)) → (owner_of v).ring ≡ [] → Allows (Shown meaning suits senders places) slots id (v, held) (note_at p) (λ _. 0) (λ _. finished_place (step slots (note_at p) 0 0 none) (v, held) 0)
    reset_allowed closed turn works none_waits s r wide at bound = (at_serving p serving.Away v, keeps, tt, (resets_place meaning suits senders places s r id p v held at is.1 near turn works none_waits closed).1.0, ap (λ k. (at_serving k serving.Away v, held)) (sym (place_is (note_at 0) p)))

  module _ (is : IsOwnerView v) where
    pub drop_own_allowed : (owner_of v).state ≡ owner.Open → Allows (Shown meaning suits senders places) slots id (v, held) refs_at (λ n. (n + (2 ^ 64 - 1)) % 2 ^ 64) (dropped_own (step slots refs_at 1 0 none) (v, held))
    drop_own_allowed opened s r wide at bound = (
      own_dropped v,
      keeps,
      tt,
      (drops_own meaning suits senders places s r id v held at is.1 opened _ (own_counted meaning suits senders places s r id v held at is.1 opened)).1.0,
      refl,
    )

    pub look_closed_allowed : (owner_of v).state ≡ owner.Closing → Allows (Shown meaning suits senders places) slots id (v, held) refs_at (λ n. n) (looked_closed (step slots refs_at 0 0 none) (v, held))
    look_closed_allowed closes s r wide at bound = dite (ℕ_discrete (slice_index s.words refs_at) 0)
        (λ none. (none_left v, keeps, tt, (finds_none meaning suits senders places s r id v held at is.1 closes (slice_index s.words refs_at) refl none).1.0, ((λ e. refl), (λ some_refs. absurd (some_refs none)))))
        (λ some_refs. (some_left (slice_index s.words refs_at) v, keeps, tt, (finds_some meaning suits senders places s r id v held at is.1 closes (slice_index s.words refs_at) refl some_refs).1.0, ((λ e. absurd (some_refs e)), (λ e. refl))))
