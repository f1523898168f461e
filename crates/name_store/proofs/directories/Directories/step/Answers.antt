use Rattle.std.proofs.Common.{IfOk, sym, subst}
use Rattle.name_store.specs.declared.operation.NameOp.{NameOp}
use Rattle.name_store.specs.Forms.{IsForm}
use Rattle.name_store.proofs.Formed.{move_form, list_form}
use Rattle.name_store.proofs.directories.Directories.step.Goals as goal

pub returns-in-Move-clause-form : goal.returns-in-Move-clause-form
returns-in-Move-clause-form c =
    subst (λ (op : NameOp). IfOk c.move_entry.result (IsForm op)) (sym c.in-Move.is)
    (move_form c.args.self.now c.move_entry.new.self c.in-Move.from c.in-Move.name c.in-Move.to c.in-Move.new_name c.in-Move.slash c.move_entry.result c.move_entry.ensures.ok)

pub returns-in-List-clause-form : goal.returns-in-List-clause-form
returns-in-List-clause-form c =
    subst (λ (op : NameOp). IfOk c.list.result (IsForm op)) (sym c.in-List.is)
    (list_form c.args.self.now c.in-List.directory c.in-List.start c.list.result c.list.ensures.ok)
