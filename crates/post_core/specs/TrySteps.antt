-- What the steps of a send that does not wait tell the seat of its pass.
use Rattle.std.specs.Prelude.{◌≡◌, ◌≢◌, ℕ, false, Some}
use Rattle.atomic_table.specs.Table.{Me, Step}
use Rattle.task_ring.specs.Ring.{RingView}
use Rattle.proxy_laws.specs.declared.actors.Phase.TheVariants as phase
use Rattle.post_core.specs.declared.slots.Item.{Item}
use Rattle.post_core.specs.declared.views.View.{View}
use Rattle.post_core.specs.SendSteps.{SenderHasTurn, has_seen_closed, none_seen}
use Rattle.post_core.specs.Views.{at_phase, pass_of, with_pass}

module _ {M : Type 0} where
  -- the pass keeps that its exchange of a word failed, which expected the one value and found the other
  abbrev pub exchange_failed : ℕ → ℕ → ℕ → View M → View M
  exchange_failed word expected value v = with_pass v (record (pass_of v) { last_failed = Some (record { word = word; expected = expected; value = value }) })

module _ {J M : Type 0} where
  -- The plays. Each says the whole of the seat after.
  -- a pass tries to add a reference where there are as many as it expects, and keeps the exchange where there are not
  abbrev pub tried_ref : Step (RingView (Item J)) → Me (RingView (Item J)) (View M) → ℕ → Me (RingView (Item J)) (View M) → Type 0
  tried_ref st m found m' = (found ≡ st.first → (has_seen_closed m.0 ≡ false) × (m' ≡ (at_phase phase.Referenced m.0, m.1)))
      × (found ≢ st.first → found ≡ 0 → m' ≡ (none_seen (exchange_failed st.word st.first 0 m.0), m.1))
      × (found ≢ st.first → found ≢ 0 → m' ≡ (exchange_failed st.word st.first found m.0, m.1))

module _ {J M : Type 0} (meaning : J → M) where
  -- a pass tries to take the turn of p, and keeps the exchange where that was taken
  abbrev pub tried_turn : ℕ → Step (RingView (Item J)) → Me (RingView (Item J)) (View M) → ℕ → Me (RingView (Item J)) (View M) → Type 0
  tried_turn p st m found m' = (found ≡ 0 → SenderHasTurn meaning p m m') × (found ≢ 0 → (found ≡ 1) × (m' ≡ (exchange_failed st.word 0 1 m.0, m.1)))
