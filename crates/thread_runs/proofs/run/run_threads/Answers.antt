use Rattle.std.proofs.Common.{◌+◌, ◌∙◌, List, length, map, refl, sym, subst, arith}
use Rattle.turn_cell.specs.Passes.{pass_view}
use Rattle.turn_cell.specs.Records.{AreHistories}
use Rattle.file_store.specs.FileGroups.{opening as group_opening}
use Rattle.memory_backend.specs.declared.cell.CellContents.TheVariants.{Files}
use Rattle.memory_backend.specs.Cells.{Cell, KindAllows, cell_after, cell_kind, cell_reply}
use Rattle.cell_runs.specs.Scripts.{AreReady, HaveRun}
use Rattle.cell_runs.proofs.Ending.{are_ready, given_back}
use Rattle.cell_runs.proofs.Together.{lawfully}
use Rattle.thread_runs.specs.StoreRuns.{StoreWalk}
use Rattle.thread_runs.proofs.run.run_threads.Goals as goal

pub play-requires-clause-ready : goal.play-requires-clause-ready
play-requires-clause-ready g c κs within =
    let table = c.in_ok-table.table in
    subst (AreReady table) (sym c.in_ok-scripts.ensures)
    (are_ready table c.args.scripts.items c.in_ok-table.passes.items c.in_ok-table.ensures.passes c.in_ok-table.ensures.fresh c.requires.few)

pub close-requires : goal.close-requires
close-requires g c =
    let table = c.in_ok-table.table in
    let walk = StoreWalk c.args.version (1 + length c.args.backends.now) in
    let ran = subst (λ (old : _). HaveRun table walk old c.play.new.scripts.items) c.in_ok-scripts.ensures c.play.ensures in
    let dealt = c.in_ok-table.ensures.passes.count in
    let made = c.in_ok-table.ensures.table.1 in
    given_back table walk c.args.scripts.items c.in_ok-table.passes.items c.play.new.scripts.items c.in_ok-replies.replies.items c.in_ok-replies.passes.items ran c.in_ok-replies.ensures.replies c.in_ok-replies.ensures.passes
    (omega (arith, dealt, made)) c.in_ok-table.ensures.passes

pub returns : goal.returns
returns g c =
    let table = c.in_ok-table.table in
    let walk = StoreWalk c.args.version (1 + length c.args.backends.now) in
    let ran = subst (λ (old : _). HaveRun table walk old c.play.new.scripts.items) c.in_ok-scripts.ensures c.play.ensures in
    let dealt = c.in_ok-table.ensures.passes.count in
    let made = c.in_ok-table.ensures.table.1 in
    let histories = subst (λ (openings : List Cell). AreHistories cell_after cell_reply cell_kind KindAllows openings (map pass_view c.in_ok-replies.passes.items) c.in-Ok.records.items)
    (c.in_ok-table.ensures.table.0 ∙ c.in_ok-cells.ensures.cells) c.in-Ok.ensures.ok in
    lawfully cell_after cell_reply cell_kind KindAllows table walk c.args.scripts.items c.in_ok-table.passes.items c.play.new.scripts.items c.in_ok-replies.replies.items c.in_ok-replies.passes.items ran c.in_ok-replies.ensures.replies c.in_ok-replies.ensures.passes
    (omega (arith, dealt, made)) c.in_ok-table.ensures.passes
    _ c.in-Ok.records.items c.in_ok-steps.steps.items c.in_ok-steps.cells.items histories c.in_ok-steps.ensures.steps c.in_ok-steps.ensures.states (record { backends = 0; contents = Files (group_opening 0) })
    (record { replies = c.in_ok-replies.replies; steps = c.in_ok-steps.steps; cells = c.in_ok-steps.cells }) refl refl refl
