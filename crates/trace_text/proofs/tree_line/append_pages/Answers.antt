use Rattle.std.proofs.Common.{◌≡◌, arith}
use Rattle.file_store.specs.FileGroups.{file_at}
use Rattle.trace_text.specs.Texts.{pages_in}
use Rattle.trace_text.proofs.PageTexts.{div_ceil_is, pages_are, pages_more}
use Rattle.trace_text.proofs.tree_line.append_pages.Goals as goal

pub loop-page-preserved : goal.loop-page-preserved
loop-page-preserved c =
    pages_more c.args.text.now.items c.loop-page.text.items c.append_page_of.new.text.items c.loop-page.page _ c.loop-page.invariant c.in_ok-append_page_of.ensures

pub returns : goal.returns
returns c =
    let count : c.loop-page.page ≡ pages_in c.args.size = omega (arith, c.div_ceil-page-end.ensures, div_ceil_is c.args.size, c.loop-page-test.false, c.loop-page.auto.page-end) in
    pages_are c.args.text.now.items c.loop-page.text.items c.args.size c.loop-page.page (file_at c.args.files.now c.args.file) c.requires count c.loop-page.invariant
