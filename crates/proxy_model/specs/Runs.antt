-- A step and a run of a world that can be refused.
use Rattle.std.specs.Prelude.{◌≡◌, ℕ, ◌<◌, List, length, take, slice_index_or}
use Rattle.proxy_laws.specs.declared.events.Event.{Event}
use Rattle.proxy_laws.specs.Events.{world_after}
use Rattle.proxy_laws.specs.Runs.{Leads, LeadsBy}
use Rattle.proxy_laws.specs.Worlds.{WorldState}
use Rattle.proxy_model.specs.declared.refusals.StepRefusal.{StepRefusal}
use Rattle.proxy_model.specs.Refusals.{CanStep, IsRefusal}

-- the event can step the old world, and the new one is what it leaves
pub record StepsBy (old : WorldState) (e : Event) (new : WorldState) : Type 0 where
  pub can : CanStep old e
  pub after : new ≡ world_after old e

-- the events before number n lead from one world to the other, in which number n is refused
pub record StopsAt (old : WorldState) (events : List Event) (n : ℕ) (refusal : StepRefusal) (new : WorldState) : Type 0 where
  pub in_range : n < length events
  pub before : LeadsBy CanStep old (take n events) new
  pub refused : (e : Event) → IsRefusal new (slice_index_or events n e) refusal

-- a run by events that can step is a run by enabled ones
abbrev pub StepsLead : Type 0
StepsLead = (w : WorldState) (events : List Event) (end : WorldState) → LeadsBy CanStep w events end → Leads w events end
