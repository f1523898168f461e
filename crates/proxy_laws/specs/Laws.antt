-- The laws of the invariant: what each event keeps, and what holds of every run.
use Rattle.std.specs.Prelude.{ℕ, ◌≤◌, List}
use Rattle.proxy_laws.specs.declared.actors.Actor.{Actor}
use Rattle.proxy_laws.specs.declared.events.Event.{Event}
use Rattle.proxy_laws.specs.declared.events.Event.TheVariants as event
use Rattle.proxy_laws.specs.Events.{Enabled, world_after}
use Rattle.proxy_laws.specs.Runs.{Leads}
use Rattle.proxy_laws.specs.Sound.{Sound}
use Rattle.proxy_laws.specs.Worlds.{WorldState, IsWellFormed, SayTheSame, opening_world}

-- a sound world in which the event is enabled becomes a sound world
abbrev pub Keeps : Event → Type 0
Keeps e = (w : WorldState) → Sound w → Enabled w e → Sound (world_after w e)

-- the events of references and puts
pub record ReferencesKeep : Type 0 where
  pub load_refs : (s : ℕ) → Keeps (event.LoadRefs s)
  pub add_ref : (s : ℕ) → Keeps (event.AddRef s)
  pub drop_ref : (s : ℕ) → Keeps (event.DropRef s)
  pub take_place : (who : Actor) (p : ℕ) → Keeps (event.TakePlace who p)
  pub put : (s p tag : ℕ) → Keeps (event.Put s p tag)
  pub give_place : (who : Actor) (p : ℕ) → Keeps (event.GivePlace who p)
  pub split : (who : Actor) → Keeps (event.Split who)

-- the events by which a sender notifies the owner
pub record NotifyingKeeps : Type 0 where
  pub swap_note : (s p : ℕ) → Keeps (event.SwapNote s p)
  pub add_mail : (s : ℕ) → Keeps (event.AddMail s)

-- the events by which the owner serves its target
pub record ServingKeeps : Type 0 where
  pub look_mail : (word : ℕ) → Keeps (event.LookMail word)
  pub take_notice : (p : ℕ) → Keeps (event.TakeNotice p)
  pub receive : (p : ℕ) → Keeps (event.Receive p)
  pub direct : (p : ℕ) → Keeps (event.Direct p)
  pub take_job : (p : ℕ) → Keeps (event.TakeJob p)
  pub look_place : (p : ℕ) → Keeps (event.LookPlace p)
  pub finish : (p : ℕ) → Keeps (event.Finish p)

-- the events by which the owner settles jobs and closes its target
pub record ClosingKeeps : Type 0 where
  pub settle_finished : (p n : ℕ) → Keeps (event.SettleFinished p n)
  pub settle_cancelled : (p n : ℕ) → Keeps (event.SettleCancelled p n)
  pub drop_own : Keeps event.DropOwn
  pub look_closed : Keeps event.LookClosed
  pub reset_place : (p : ℕ) → Keeps (event.ResetPlace p)
  pub join : (s : ℕ) → Keeps (event.Join s)

-- the events on the lives of places
pub record LivesKeep : Type 0 where
  pub create : (s p : ℕ) → Keeps (event.Create s p)
  pub clone_use : (s p : ℕ) → Keeps (event.CloneUse s p)
  pub release_use : (s p : ℕ) → Keeps (event.ReleaseUse s p)
  pub claim : (s p : ℕ) → Keeps (event.Claim s p)
  pub look_note : (s p : ℕ) → Keeps (event.LookNote s p)
  pub mark_life : (s p : ℕ) → Keeps (event.MarkLife s p)

-- a target is made sound
abbrev pub OpeningIsSound : Type 0
OpeningIsSound = (senders places : ℕ) → 1 ≤ senders → Sound (opening_world senders places)

-- a run leads from a sound world to a sound one
abbrev pub RunsKeepSound : Type 0
RunsKeepSound = (w : WorldState) (events : List Event) (end : WorldState) → Sound w → Leads w events end → Sound end

-- a target is made well formed, and stays so
pub record WorldsAreWellFormed : Type 0 where
  pub opening : (senders places : ℕ) → IsWellFormed (opening_world senders places)
  pub kept : (w : WorldState) (e : Event) → IsWellFormed w → Enabled w e → IsWellFormed (world_after w e)

-- what is said of a world reads only its own senders and places
pub record WorldsAreReadInRange : Type 0 where
  pub sound : (w v : WorldState) → SayTheSame w v → Sound w → Sound v
  pub formed : (w v : WorldState) → SayTheSame w v → IsWellFormed w → IsWellFormed v
