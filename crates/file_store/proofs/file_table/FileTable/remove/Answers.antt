use Rattle.std.proofs.Common.{◌≡◌, ◌-◌, Some, ap, arith, rules}
use Rattle.file_store.specs.declared.file.File.{File}
use Rattle.file_store.specs.Tables.{Table, row_at}
use Rattle.file_store.proofs.SumLemmas.{summed_without, size_within}
use Rattle.file_store.proofs.file_table.FileTable.remove.Goals as goal

pub overflow_sub-self : goal.overflow_sub-self
overflow_sub-self c =
    let old : Table File = record { entries = c.self.inside.files.entries; next = c.self.inside.next } in
    let there : row_at old c.args.id ≡ Some c.in-Some.file = search rules in
    omega (arith, size_within old c.args.id c.in-Some.file there, c.self.invariant.sum_is, c.size.ensures)

pub invariant_of-self : goal.invariant_of-self
invariant_of-self c =
    let old : Table File = record { entries = c.self.inside.files.entries; next = c.self.inside.next } in
    let there : row_at old c.args.id ≡ Some c.in-Some.file = search rules in
    rw (c.in-Some.ensures.entries, c.number.ensures) (summed_without old c.self.inside.total c.args.id (c.self.inside.total - c.size.result) c.in-Some.file c.self.invariant there (ap (λ n. c.self.inside.total - n) c.size.ensures))
