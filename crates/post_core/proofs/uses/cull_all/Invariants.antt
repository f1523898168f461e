use Rattle.std.proofs.Common.{◌≡◌, ◌-◌, ◌≤◌}
use Rattle.proxy_laws.specs.declared.actors.Look.TheVariants.{Nowhere}
use Rattle.post_core.specs.LifeSteps.{IsCulled}
use Rattle.post_core.specs.Views.{IsPassView, pass_of}
use Rattle.post_core.proofs.uses.cull_all.Given as goal

abbrev pub invariant-loop-place : goal.invariant-loop-place
invariant-loop-place g l = record {
  seat : (l.seat.table_id ≡ l.fn.seat.table_id) × (l.seat.id ≡ l.fn.seat.id) × (l.seat.me.1 ≡ l.fn.seat.me.1);
  nowhere : IsPassView l.seat.me.0 × ((pass_of l.seat.me.0).look ≡ Nowhere);
  from : 1 ≤ l.place;
  last : l.place - 1 ≤ l.places - 1;
  culled : IsCulled (l.place - 1) l.fn.seat.me.0 l.seat.me.0;
}
