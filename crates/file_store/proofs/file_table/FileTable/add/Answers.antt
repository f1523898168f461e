use Rattle.std.proofs.Common.{◌≡◌, ◌+◌, ℕ, List, true, length, sum_by, sym, ap, ◌∙◌}
use Rattle.std.specs.Map.{values_of}
use Rattle.file_store.specs.declared.file.File.{File}
use Rattle.file_store.specs.Tables.{Table}
use Rattle.file_store.proofs.TableLemmas.{fresh_added}
use Rattle.file_store.proofs.SumLemmas.{total_added}
use Rattle.file_store.proofs.file_table.FileTable.add.Goals as goal

pub invariant_of-self-2 : goal.invariant_of-self-2
invariant_of-self-2 c =
    let old : Table File = record { entries = c.self.inside.files.entries; next = c.self.inside.next } in
    let new = c.in_ok-insert.ensures in
    let file : File = record { bytes = c.new.result; linked = true } in
    let next : c.in-Some.next ≡ c.self.inside.next + 4 = c.in-Some.ensures.1 in
    let entries = rw c.new.ensures at new.entries in
    record {
      sum_is = c.self.invariant.sum_is ∙ sym (total_added old new.was_ordered c.self.invariant.fresh) ∙ ap (λ (es : List (ℕ × File)). sum_by (λ (f : File). length f.bytes) (values_of es)) (sym entries);
      within = c.self.invariant.within;
      fresh = λ id some. rw next (fresh_added old c.insert.new.self.entries file new.updates.0 c.self.invariant.fresh id some);
    }
