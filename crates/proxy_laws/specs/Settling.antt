-- Finishing and cancelling a job as one event, by the fate.
use Rattle.std.specs.Prelude.{ℕ}
use Rattle.proxy_laws.specs.declared.actors.OwnerState.{OwnerState}
use Rattle.proxy_laws.specs.declared.actors.OwnerState.TheVariants as owner
use Rattle.proxy_laws.specs.declared.events.Event.{Event}
use Rattle.proxy_laws.specs.declared.events.Event.TheVariants as event
use Rattle.proxy_laws.specs.declared.records.FateMark.{FateMark}
use Rattle.proxy_laws.specs.declared.records.FateMark.TheVariants as fate

-- the event that settles job number n of p so
abbrev pub settle_event : FateMark → ℕ → ℕ → Event
settle_event fate.Finished p n = event.SettleFinished p n
settle_event fate.Cancelled p n = event.SettleCancelled p n

-- the state of an owner that settles jobs so
abbrev pub settler : FateMark → OwnerState
settler fate.Finished = owner.Open
settler fate.Cancelled = owner.Closed
