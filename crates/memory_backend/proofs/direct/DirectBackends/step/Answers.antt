use Rattle.std.proofs.Common.{refl}
use Rattle.turn_cell.specs.Passes.{table_id_of, table_openings}
use Rattle.memory_backend.proofs.Entering.{adds_none, adds_one, answers_it, stays_of, takes_it}
use Rattle.memory_backend.proofs.direct.DirectBackends.step.Goals as goal

pub step-requires-clause-takes : goal.step-requires-clause-takes
step-requires-clause-takes g c =
    let self = c.args.self.now in
    takes_it self.backends (table_openings self.table.now) self.cells c.cell_of-number.result c.args.cell c.args.op c.cell_of-number.ensures.number c.requires

pub returns-in_err-answer-clause-ran : goal.returns-in_err-answer-clause-ran
returns-in_err-answer-clause-ran g c =
    let self = c.args.self.now in
    let of_table = c.in_err-answer.ensures.table in (
      adds_none self.backends self.caller c.args.cell c.args.op c.from_residual.result self.pass c.step.new.pass c.from_residual.ensures.0 c.in_err-answer.ensures.err of_table.1
          (stays_of (table_id_of self.table.now) (table_openings self.table.now) self.pass c.step.new.pass self.of of_table.0),
      refl,
      refl,
    )

pub returns-clause-form : goal.returns-clause-form
returns-clause-form g c =
    let self = c.args.self.now in
    answers_it self.backends (table_openings self.table.now) self.cells c.cell_of-number.result c.args.cell c.args.op c.cell_of-number.ensures.number c.requires c.in_ok-answer.answer c.in_ok-answer.ensures.form

pub returns-clause-ran : goal.returns-clause-ran
returns-clause-ran g c =
    let self = c.args.self.now in
    let of_table = c.in_ok-answer.ensures.table in (
      adds_one self.backends c.cell_of-number.result c.in_ok-answer.field-0-0 self.caller c.args.cell c.args.op c.in_ok-answer.answer self.pass c.step.new.pass c.cell_of-number.ensures.number c.requires c.in_ok-answer.ensures.ok of_table.1
          (stays_of (table_id_of self.table.now) (table_openings self.table.now) self.pass c.step.new.pass self.of of_table.0),
      refl,
      refl,
    )
