use Rattle.std.proofs.Common.{◌∙◌, sym}
use Rattle.cell_runs.proofs.Readying.{none_left, ready_end}
use Rattle.cell_runs.proofs.script.ready_scripts.Goals as goal

pub returns : goal.returns
returns g c = let passes = c.loop-pass.pass-iterator.rest in
    ready_end c.loop-pass.ready.items _ _ _ (none_left passes.items (sym passes.ok.0 ∙ c.in-None.ensures.steps.0)) c.loop-pass.invariant
