use Rattle.std.proofs.Common.{length-drop, arith}
use Rattle.wf_core.proofs.KnownBytes.{appends_next, rest_is}
use Rattle.wf_core.proofs.sink.write_text.Goals as goal

pub loop-at-preserved : goal.loop-at-preserved
loop-at-preserved g c = record {
  within = grind (arith, length-drop, rest_is, c.in_ok-at.ensures.within);
  front = appends_next _ _ _ c.args.text.now c.loop-at.at c.in_ok-at.field-0 c.loop-at.invariant.front c.in_ok-at.ensures.appends;
  later = omega (arith, c.in_ok-at.ensures.later);
}
