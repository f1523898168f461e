use Rattle.std.proofs.Common.{◌≡◌, ◌≢◌, ◌≤◌}
use Rattle.post_core.specs.SendSteps.{none_seen, references_max}
use Rattle.post_core.proofs.post.Post.take_ref.Given as goal

abbrev pub invariant-loop : goal.invariant-loop
invariant-loop g l = record {
  table : l.seat.table_id ≡ l.fn.pass.hold.seat.table_id;
  few : l.seen ≤ references_max;
  none : l.seen ≡ 0 → l.seat.me ≡ (none_seen l.fn.pass.hold.seat.me.0, l.fn.pass.hold.seat.me.1);
  there : l.seen ≢ 0 → l.seat.me ≡ l.fn.pass.hold.seat.me;
}
