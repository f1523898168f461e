use Rattle.std.proofs.Common.{arith}
use Rattle.memory_backend.proofs.Mounting.{one_mount_more}
use Rattle.memory_backend.proofs.opening.mounts_of.Goals as goal

pub loop-name-preserved : goal.loop-name-preserved
loop-name-preserved c = record {
  mounts = one_mount_more c.args.backends.now c.loop-name.name-index c.loop-name.number c.loop-name-item.result c.in_ok-copy_of.field-0 c.new.result c.loop-name.mounts.items c.push.new.self.items (omega (arith, c.loop-name-test.true)) c.loop-name-item.is c.loop-name.invariant.mounts c.in_ok-copy_of.ensures c.new.ensures c.loop-name.invariant.number c.in_ok-push.ensures.items;
  number = omega (arith, c.loop-name.invariant.number);
}
