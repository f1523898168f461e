use Rattle.std.proofs.Common.{◌≡◌, ◌+◌, ◌-◌, ◌≤◌, List, ℕ, Some, nat_cmp, length, ap, ◌∙◌, rules, arith}
use Rattle.std.specs.BTreeMap.{is_at}
use Rattle.std.specs.Map.{set_value}
use Rattle.std.proofs.lemmas.Map.Steps.{set_value_same}
use Rattle.file_store.specs.declared.file.File.{File}
use Rattle.file_store.specs.FileBytes.{with_bytes_at}
use Rattle.wf_core.specs.Limits.{group_max}
use Rattle.file_store.specs.FileGroups.{with_bytes, total}
use Rattle.file_store.specs.Tables.{Table, row_at}
use Rattle.file_store.proofs.SumLemmas.{on_err, summed_other, size_within, not_refused, total_other}
use Rattle.file_store.proofs.file_table.FileTable.write.Goals as goal

pub invariant_of-self-2 : goal.invariant_of-self-2
invariant_of-self-2 c =
    let old : Table File = record { entries = c.self.inside.files.entries; next = c.self.inside.next } in
    let was = c.in-Some.file.now in
    let file : File = record { bytes = c.write.new.self; linked = was.linked } in
    let wanted : File = record { bytes = with_bytes_at was.bytes c.args.at c.args.bytes.now; linked = was.linked } in
    let there : row_at old c.args.id ≡ Some was = search rules in
    let there_now : row_at c.args.self.now c.args.id ≡ Some was = search rules in
    let entries : (c.get_mut.follows.lender file).entries ≡ set_value (is_at (nat_cmp c.args.id)) old.entries file = search rules in
    let size : length c.write.new.self ≡ length wanted.bytes = ap (λ (bytes : List ℕ). length bytes) c.in_ok-write.ensures.ok in
    let allowed = not_refused (c.args.at + length c.args.bytes.now) (with_bytes c.args.self.now c.args.id was c.args.at c.args.bytes.now) (c.requires.allowed was there_now) in
    let sum = c.self.invariant.sum_is ∙ ap (λ (t : Table File). total t) c.self.view_is in
    let after = total_other c.args.self.now c.args.id was wanted there_now in
    let within : c.self.inside.total - c.size-size.result + c.size.result ≤ group_max = omega (arith, allowed.1, sum, after, c.size-size.ensures, c.size.ensures, size, size_within c.args.self.now c.args.id was there_now) in
    rw entries (summed_other old c.self.inside.total c.args.id (c.self.inside.total - c.size-size.result + c.size.result) was file c.self.invariant there (omega (arith, c.size.ensures, c.size-size.ensures)) within)

pub invariant_of-self : goal.invariant_of-self
invariant_of-self c =
    let old : Table File = record { entries = c.self.inside.files.entries; next = c.self.inside.next } in
    let was = c.in-Some.file.now in
    let file : File = record { bytes = c.write.new.self; linked = was.linked } in
    let there : row_at old c.args.id ≡ Some was = search rules in
    let entries : (c.get_mut.follows.lender file).entries ≡ set_value (is_at (nat_cmp c.args.id)) old.entries file = search rules in
    let same : file ≡ was = ap (λ (bytes : List ℕ). record { bytes = bytes; linked = was.linked }) c.in_err-write.ensures.err in
    rw (entries, same, set_value_same (is_at (nat_cmp c.args.id)) old.entries was there) c.self.invariant

pub returns-in_err-write-clause-err : goal.returns-in_err-write-clause-err
returns-in_err-write-clause-err c =
    let old : Table File = record { entries = c.self.inside.files.entries; next = c.self.inside.next } in
    let was = c.in-Some.file.now in
    let file : File = record { bytes = c.write.new.self; linked = was.linked } in
    let there : row_at old c.args.id ≡ Some was = search rules in
    let entries : (c.get_mut.follows.lender file).entries ≡ set_value (is_at (nat_cmp c.args.id)) old.entries file = search rules in
    let same : file ≡ was = ap (λ (bytes : List ℕ). record { bytes = bytes; linked = was.linked }) c.in_err-write.ensures.err in
    on_err c.from_residual.result _ (rw (entries, same, set_value_same (is_at (nat_cmp c.args.id)) old.entries was there) c.self.view_is)
