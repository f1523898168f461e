use Rattle.std.proofs.Common.{◌≡◌, ◌+◌, ◌/◌, ◌%◌, arith}
use Rattle.file_store.proofs.CutLemmas.{cut_between, cut_within}
use Rattle.file_store.proofs.pages.Pages.truncate.Goals as goal

pub returns-then-start-gt0-clause-cut : goal.returns-then-start-gt0-clause-cut
returns-then-start-gt0-clause-cut c =
    let size = c.args.size in
    let first : c.div_ceil-pages.result ≡ size / 4096 + 1 = omega (arith, c.div_ceil-pages.ensures, c.if-start-gt0.true) in
    let cleared = c.clear_tail.ensures in
    cut_within c.args.self.now c.drop_from.new.self c.div_ceil-pages.result c.drop_from.ensures c.clear_tail.new.self size cleared.whole c.if-start-gt0.true first cleared.others cleared.written

pub returns-else-start-gt0-clause-cut : goal.returns-else-start-gt0-clause-cut
returns-else-start-gt0-clause-cut c =
    let size = c.args.size in
    let even : size % 4096 ≡ 0 = omega (arith, c.if-start-gt0.false) in
    let first : c.div_ceil-pages.result ≡ size / 4096 = omega (arith, c.div_ceil-pages.ensures, even) in
    cut_between c.args.self.now c.drop_from.new.self c.div_ceil-pages.result c.drop_from.ensures size even first
