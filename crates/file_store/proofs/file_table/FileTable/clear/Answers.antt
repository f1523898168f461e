use Rattle.std.proofs.Common.{◌≡◌, ◌-◌, List, ℕ, Some, nat_cmp, length, ap, rules, arith}
use Rattle.std.specs.BTreeMap.{is_at}
use Rattle.std.specs.Map.{set_value}
use Rattle.file_store.specs.declared.file.File.{File}
use Rattle.file_store.specs.Tables.{Table, row_at}
use Rattle.file_store.proofs.SumLemmas.{summed_other}
use Rattle.file_store.proofs.file_table.FileTable.clear.Goals as goal

pub invariant_of-self : goal.invariant_of-self
invariant_of-self c =
    let old : Table File = record { entries = c.self.inside.files.entries; next = c.self.inside.next } in
    let was = c.in-Some.file.now in
    let file : File = record { bytes = c.new.result; linked = was.linked } in
    let there : row_at old c.args.id ≡ Some was = search rules in
    let entries : (c.get_mut.follows.lender file).entries ≡ set_value (is_at (nat_cmp c.args.id)) old.entries file = search rules in
    let none : length c.new.result ≡ 0 = ap (λ (bytes : List ℕ). length bytes) c.new.ensures in
    rw entries (summed_other old c.self.inside.total c.args.id (c.self.inside.total - c.size.result) was file c.self.invariant there (omega (arith, none, c.size.ensures)) (omega (arith, c.self.invariant.within)))
