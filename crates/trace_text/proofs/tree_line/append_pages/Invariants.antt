use Rattle.std.proofs.Common.{◌≡◌, ◌++◌, IfSome}
use Rattle.std.specs.List.{flat_map, range_with_len}
use Rattle.file_store.specs.FileBytes.{page_of}
use Rattle.file_store.specs.FileGroups.{file_at}
use Rattle.trace_text.specs.Texts.{page_line}
use Rattle.trace_text.proofs.tree_line.append_pages.Given as goal

-- the pages so far
abbrev pub invariant-loop-page : goal.invariant-loop-page
invariant-loop-page l = IfSome (file_at l.files l.file) (λ found. l.text.items ≡ l.fn.text.items ++ flat_map (λ page. page_line page (page_of found.bytes page)) (range_with_len 0 l.page))
