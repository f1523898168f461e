use Rattle.std.proofs.Common.{arith}
use Rattle.proxy_model.proofs.Ranges.{marks_pushed}
use Rattle.proxy_model.proofs.worlds.World.push_mark.Goals as goal

pub invariant_of-self-clause-marks_in_range : goal.invariant_of-self-clause-marks_in_range
invariant_of-self-clause-marks_in_range c =
    marks_pushed c.args.self.now.senders c.args.place c.args.self.now.sent.items c.args.mark c.index_mut.result.now c.push.new.self c.push.result c.push.ensures.ok c.push.ensures.err c.index_mut.ensures.value (omega arith) c.requires.there c.args.self.now.marks_in_range
