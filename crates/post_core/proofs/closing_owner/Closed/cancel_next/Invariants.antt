use Rattle.std.proofs.Common.{◌≡◌, ℕ, ◌<◌, []}
use Rattle.std.specs.Prelude.{IfSome}
use Rattle.proxy_laws.specs.declared.actors.OwnerState.TheVariants as owner
use Rattle.post_core.specs.ClosingParts.{IsEnding}
use Rattle.post_core.specs.ClosingViews.{AreRounds}
use Rattle.post_core.specs.Records.{counts_of, starts_of}
use Rattle.post_core.proofs.closing_owner.Closed.cancel_next.Given as goal

abbrev pub invariant-loop : goal.invariant-loop
invariant-loop g l = (l.hold.seat.table_id ≡ l.fn.self.hold.seat.table_id) × (l.hold.jobs ≡ l.fn.self.hold.jobs) × (l.hold.seat.me.1 ≡ [])
    × IsEnding owner.Closed l.left (starts_of l.fn.self.hold.jobs.items) (counts_of l.fn.self.hold.jobs.items) l.hold.got l.hold.seat.me.0
    × IfSome l.left (λ place. place < l.fn.self.hold.seat.table_id.slots)
    × ((n : ℕ) × AreRounds n l.fn.self.left l.fn.self.hold.seat.me.0 l.left l.hold.seat.me.0)
