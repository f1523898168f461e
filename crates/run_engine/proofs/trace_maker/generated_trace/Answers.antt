use Rattle.std.proofs.Common.{◌∙◌, arith, ap, length}
use Rattle.run_engine.specs.Generated.{generated_lines, state_after}
use Rattle.run_engine.proofs.DrawLemmas.{draws_are, lines_length, next_call, one_line}
use Rattle.run_engine.proofs.trace_maker.generated_trace.Goals as goal

pub loop-init : goal.loop-init
unfolding state_after generated_lines
loop-init c = record { state = c.new-generator.ensures; lines = c.new-lines.ensures }

pub push-requires : goal.push-requires
push-requires c =
    let same = ap length c.loop.invariant.lines in
    omega (arith, lines_length c.args.seed c.loop.counter, same)

pub loop-preserved : goal.loop-preserved
loop-preserved c =
    let seed = c.args.seed in
    let call = c.loop.counter in
    let state = c.loop.generator.state in
    let before = c.loop.invariant.state in
    let drawn = draws_are seed call state before c.draws.result c.draws.ensures.a c.draws.ensures.b c.draws.ensures.c in
    record {
      state = c.draws.ensures.state ∙ next_call seed call state before;
      lines = one_line seed call c.loop.lines c.push.new.self c.draws.result c.loop.invariant.lines drawn c.in_ok-push.ensures;
    }
