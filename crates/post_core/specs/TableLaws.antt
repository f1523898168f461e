-- What a table shows, in every state that it may have.
use Rattle.std.specs.Prelude.{ℕ}
use Rattle.atomic_table.specs.Table.{State}
use Rattle.task_ring.specs.Ring.{RingView}
use Rattle.proxy_laws.specs.declared.records.Mark.{Mark}
use Rattle.proxy_laws.specs.Sound.{Sound}
use Rattle.proxy_laws.specs.Worlds.{IsWellFormed, SayTheSame}
use Rattle.post_core.specs.declared.slots.Item.{Item}
use Rattle.post_core.specs.declared.views.View.{View}
use Rattle.post_core.specs.Rule.{Shown}

module _ {J M : Type 0} (meaning : J → M) (suits : ℕ → Mark → M → Type 0) where
  -- two worlds that a state shows say the same
  abbrev pub ShowsOneWorld : Type 0
  ShowsOneWorld = (senders places : ℕ) (s : State (RingView (Item J)) (View M))
      (r r' : Shown meaning suits senders places s) → SayTheSame r.world r'.world

  -- the world that a state shows is sound, and names only its own senders and places
  abbrev pub IsAlwaysSound : Type 0
  IsAlwaysSound = (senders places : ℕ) (s : State (RingView (Item J)) (View M))
      (r : Shown meaning suits senders places s) → Sound r.world × IsWellFormed r.world
