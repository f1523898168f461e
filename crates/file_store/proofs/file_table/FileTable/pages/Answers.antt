use Rattle.std.proofs.Common.{◌≡◌, ◌∷◌, ◌++◌, List, map, sym, ap, ◌∙◌, rules, arith}
use Rattle.std.specs.Map.Iter.{deref}
use Rattle.std.proofs.lemmas.Map.Iter.{rest_so_far, rest_more}
use Rattle.file_store.specs.declared.file.File.{File}
use Rattle.file_store.specs.Tables.{Table, rows}
use Rattle.file_store.proofs.SumLemmas.{pages_within}
use Rattle.file_store.proofs.file_table.FileTable.pages.Goals as goal

pub overflow_add-count : goal.overflow_add-count
overflow_add-count c =
    let old : Table File = record { entries = c.self.inside.files.entries; next = c.self.inside.next } in
    let start : c.into_iter-file-iterator.result ≡ rows old = search rules in
    let front = rest_so_far deref c.loop-file.yielded _ _ c.loop-file.yielded_by in
    let next = rest_more deref c.loop-file.file-iterator c.next.new.self c.next.result c.in-Some.file c.in-Some.is c.next.ensures.steps in
    let all : rows old ≡ map deref c.loop-file.yielded ++ c.in-Some.file.now ∷ c.next.new.self = sym start ∙ front ∙ ap (λ (fs : List File). map deref c.loop-file.yielded ++ fs) next in
    let within = pages_within old c.self.inside.total (map deref c.loop-file.yielded) c.next.new.self c.in-Some.file.now c.self.invariant all in
    omega (arith, within, c.loop-file.invariant, c.pages-count.ensures)
