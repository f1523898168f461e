use Rattle.std.proofs.Common.{◌≡◌, ◌≤◌, ◌<◌, ◌∙◌, Some, sym, ap, rules, arith}
use Rattle.file_store.specs.declared.file.File.{File}
use Rattle.wf_core.specs.Limits.{group_max}
use Rattle.file_store.specs.FileGroups.{total}
use Rattle.file_store.specs.Tables.{Table, row_at, with_row}
use Rattle.file_store.proofs.SumLemmas.{refusal_none, refusal_sum, total_other, size_within}
use Rattle.file_store.proofs.file_table.FileTable.refusal.Goals as goal

pub returns-then-saturating_add-gt-GROUP_MAX : goal.returns-then-saturating_add-gt-GROUP_MAX
returns-then-saturating_add-gt-GROUP_MAX c =
    let files = c.args.self.now in
    let was = c.in-Some.file.now in
    let there : row_at files c.args.id ≡ Some was = search rules in
    let sum = c.self.invariant.sum_is ∙ ap (λ (t : Table File). total t) c.self.view_is in
    rw there (λ new e.
    let over : group_max < total (with_row files c.args.id new) = omega (arith, c.if-saturating_add-gt-GROUP_MAX.true, c.saturating_add.ensures, c.size.ensures, e, sum, total_other files c.args.id was new there, size_within files c.args.id was there) in
    sym (refusal_sum c.args.end (with_row files c.args.id new) c.if-end-gt-FILE_MAX.false over))

pub returns : goal.returns
returns c =
    let files = c.args.self.now in
    let was = c.in-Some.file.now in
    let there : row_at files c.args.id ≡ Some was = search rules in
    let sum = c.self.invariant.sum_is ∙ ap (λ (t : Table File). total t) c.self.view_is in
    rw there (λ new e.
    let within : total (with_row files c.args.id new) ≤ group_max = omega (arith, c.if-saturating_add-gt-GROUP_MAX.false, c.saturating_add.ensures, c.size.ensures, e, sum, total_other files c.args.id was new there, size_within files c.args.id was there) in
    sym (refusal_none c.args.end (with_row files c.args.id new) c.if-end-gt-FILE_MAX.false within))
