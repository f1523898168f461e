use Rattle.memory_backend.specs.Cells.{Cell}
use Rattle.memory_backend.proofs.CellMoves.{stays_within, told_allowed}
use Rattle.memory_backend.proofs.cell.StoreCellCellState.step.Goals as goal

pub invariant_of-self : goal.invariant_of-self
invariant_of-self c =
    let inside : Cell = record { backends = c.self.inside.backends; contents = c.self.inside.contents } in
    stays_within inside c.args.self.now c.args.op.now c.step.new.self c.step.result c.self.view_is c.self.invariant c.requires c.step.ensures.ok c.step.ensures.err

pub returns-clause-form : goal.returns-clause-form
returns-clause-form c =
    let inside : Cell = record { backends = c.self.inside.backends; contents = c.self.inside.contents } in
    told_allowed inside c.args.self.now c.args.op.now c.step.result c.self.view_is c.self.invariant c.requires c.step.ensures.given c.step.ensures.form
