use Rattle.std.proofs.Common.{◌≡◌, ◌-◌, ◌≤◌}
use Rattle.post_core.specs.LifeSteps.{all_found}
use Rattle.post_core.specs.Views.{IsPassView}
use Rattle.post_core.proofs.uses.create_first.Given as goal

abbrev pub invariant-loop-place : goal.invariant-loop-place
invariant-loop-place g l = record {
  seat : (l.seat.table_id ≡ l.fn.seat.table_id) × (l.seat.id ≡ l.fn.seat.id);
  view : IsPassView l.seat.me.0;
  from : 1 ≤ l.place;
  last : l.place - 1 ≤ l.places - 1;
  found : l.seat.me ≡ (all_found (l.place - 1) l.fn.seat.me.0, l.fn.seat.me.1);
}
