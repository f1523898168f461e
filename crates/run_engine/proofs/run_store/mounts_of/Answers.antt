use Rattle.std.proofs.Common.{arith}
use Rattle.run_engine.proofs.OpeningLemmas.{mounts_of_more}
use Rattle.run_engine.proofs.run_store.mounts_of.Goals as goal

pub loop-line-preserved : goal.loop-line-preserved
loop-line-preserved c = record {
  mounts = mounts_of_more c.args.lines.now c.loop-line.line-index c.loop-line.number c.line-item.result c.in_ok-mount_name.field-0 c.new.result c.loop-line.mounts.items c.push.new.self.items (omega (arith, c.loop-line-test.true)) c.line-item.is c.loop-line.invariant.mounts c.in_ok-mount_name.ensures c.new.ensures c.loop-line.invariant.number c.in_ok-push.ensures.items;
  number = omega (arith, c.loop-line.invariant.number);
}
