-- What a table shows once its owner has closed, in every state that it may have.
use Rattle.std.specs.Prelude.{◌≡◌, ℕ, ◌<◌, ◌≤◌, All, List, false}
use Rattle.proxy_laws.specs.declared.actors.OwnerState.TheVariants as owner
use Rattle.proxy_laws.specs.declared.events.Event.{Event}
use Rattle.proxy_laws.specs.declared.records.Mark.{Mark}
use Rattle.proxy_laws.specs.Promises.{IsShut, is_send}
use Rattle.proxy_laws.specs.Runs.{Leads}
use Rattle.proxy_laws.specs.Worlds.{WorldState, put, taken}
use Rattle.post_core.specs.OwnerLaws.{OfEachOwner}
use Rattle.post_core.specs.ClosingParts.{HasEmptied}
use Rattle.post_core.specs.Views.{owner_of}

module _ {J M : Type 0} (meaning : J → M) (suits : ℕ → Mark → M → Type 0) where
  -- once the owner is closed no sender has or gets a reference, puts, swaps a note or adds a notice, whatever comes
  abbrev pub ClosedHasNoSender : Type 0
  ClosedHasNoSender = OfEachOwner meaning suits (λ senders places s r id v held. (owner_of v).state ≡ owner.Closed
      → (events : List Event) (end : WorldState) → Leads r.world events end
      → IsShut end × All (λ e. is_send e ≡ false) events)

  -- once it has emptied its places, as many jobs were taken at each as were put
  abbrev pub EmptiedHasNothing : Type 0
  EmptiedHasNothing = OfEachOwner meaning suits (λ senders places s r id v held. HasEmptied v
      → (p : ℕ) → p < places → put r.world p ≤ taken r.world p)
