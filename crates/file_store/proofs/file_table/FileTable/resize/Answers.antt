use Rattle.std.proofs.Common.{◌≡◌, ◌+◌, ◌-◌, ◌≤◌, List, ℕ, Some, nat_cmp, length, ap, ◌∙◌, rules, arith}
use Rattle.std.specs.BTreeMap.{is_at}
use Rattle.std.specs.Map.{set_value}
use Rattle.file_store.specs.declared.file.File.{File}
use Rattle.file_store.specs.FileBytes.{with_length}
use Rattle.wf_core.specs.Limits.{group_max}
use Rattle.file_store.specs.FileGroups.{with_size, total}
use Rattle.file_store.specs.Tables.{Table, row_at}
use Rattle.file_store.proofs.FileBytesLemmas.{length-resized}
use Rattle.file_store.proofs.SumLemmas.{summed_other, size_within, not_refused, total_other}
use Rattle.file_store.proofs.file_table.FileTable.resize.Goals as goal

pub invariant_of-self : goal.invariant_of-self
invariant_of-self c =
    let old : Table File = record { entries = c.self.inside.files.entries; next = c.self.inside.next } in
    let was = c.in-Some.file.now in
    let file : File = record { bytes = c.cut.new.self; linked = was.linked } in
    let wanted : File = record { bytes = with_length c.args.size was.bytes; linked = was.linked } in
    let there : row_at old c.args.id ≡ Some was = search rules in
    let there_now : row_at c.args.self.now c.args.id ≡ Some was = search rules in
    let entries : (c.get_mut.follows.lender file).entries ≡ set_value (is_at (nat_cmp c.args.id)) old.entries file = search rules in
    let size : length c.cut.new.self ≡ c.args.size = ap (λ (bytes : List ℕ). length bytes) c.cut.ensures ∙ length-resized c.args.size was.bytes in
    let allowed = not_refused c.args.size (with_size c.args.self.now c.args.id was c.args.size) (c.requires.allowed was there_now) in
    let sum = c.self.invariant.sum_is ∙ ap (λ (t : Table File). total t) c.self.view_is in
    let after = total_other c.args.self.now c.args.id was wanted there_now in
    let within : c.self.inside.total - c.size.result + c.args.size ≤ group_max = omega (arith, allowed.1, sum, after, c.size.ensures, length-resized c.args.size was.bytes, size_within c.args.self.now c.args.id was there_now) in
    rw entries (summed_other old c.self.inside.total c.args.id (c.self.inside.total - c.size.result + c.args.size) was file c.self.invariant there (omega (arith, size, c.size.ensures)) within)
