use Rattle.std.proofs.Common.{◌≡◌, map, sum_by}
use Rattle.std.specs.Map.Iter.{deref}
use Rattle.file_store.specs.declared.file.File.{File}
use Rattle.file_store.specs.FileBytes.{page_count}
use Rattle.file_store.proofs.file_table.FileTable.pages.Given as goal

-- the pages of the files so far
abbrev pub invariant-loop-file : goal.invariant-loop-file
invariant-loop-file l = l.count ≡ sum_by (λ (file : File). page_count file.bytes) (map deref l.yielded)
