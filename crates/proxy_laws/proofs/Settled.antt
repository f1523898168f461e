-- Settling a job, by its fate: where it may come, and what it changes.
use Rattle.std.proofs.Common.{◌≡◌, ℕ, ◌<◌, refl}
use Rattle.proxy_laws.specs.declared.records.FateMark.{FateMark}
use Rattle.proxy_laws.specs.declared.records.FateMark.TheVariants as fate
use Rattle.proxy_laws.specs.Events.{Enabled, world_after}
use Rattle.proxy_laws.specs.Lists.{IsActive, with_fate}
use Rattle.proxy_laws.specs.Maps.{upd}
use Rattle.proxy_laws.specs.Settling.{settle_event, settler}
use Rattle.proxy_laws.specs.Worlds.{WorldState}

pub can_settle : (w : WorldState) (f : FateMark) (p n : ℕ) → p < w.places → IsActive (w.jobs p) n → w.owner ≡ settler f → Enabled w (settle_event f p n)
can_settle w fate.Finished p n at active is = record { there = record { sender = tt; place = at }; conditions = (active, is) }
can_settle w fate.Cancelled p n at active is = record { there = record { sender = tt; place = at }; conditions = (active, is) }

pub world_after_settle : (w : WorldState) (f : FateMark) (p n : ℕ) → world_after w (settle_event f p n) ≡ record w { jobs = upd w.jobs p (with_fate (w.jobs p) n f) }
world_after_settle w fate.Finished p n = refl
world_after_settle w fate.Cancelled p n = refl
