use Rattle.std.proofs.Common.{ap, option_map}
use Rattle.trace_text.specs.declared.trace.Mode.TheVariants.{Plain}
use Rattle.trace_text.specs.Texts.{refusal_text}
use Rattle.trace_text.specs.Traces.{traced}
use Rattle.run_engine.proofs.MountLemmas.{mountable, no_fault}
use Rattle.run_engine.proofs.commands.SoloCommandCommand.due.Goals as goal

pub run_solo-requires : goal.run_solo-requires
run_solo-requires c = mountable c.args.input.now Plain (traced c.in-Ok.trace) c.in-Ok.ensures.ok

pub returns-in_ok-run_solo-in-Ok : goal.returns-in_ok-run_solo-in-Ok
returns-in_ok-run_solo-in-Ok c =
    let trace = traced c.in-Ok.trace in
    let reads = c.in-Ok.ensures.ok in
    (ap (option_map refusal_text) (no_fault c.args.input.now Plain trace reads), (trace, reads, c.in_ok-run_solo-in-Ok.ensures))
