use Rattle.std.proofs.Common.{◌≡◌, None, sym, rules}
use Rattle.file_store.specs.Pages.{kept_page}
use Rattle.file_store.proofs.PagesLemmas.{page_none}
use Rattle.file_store.proofs.pages.Pages.page.Goals as goal

pub returns-in-None-clause-value : goal.returns-in-None-clause-value
returns-in-None-clause-value c =
    let before : kept_page c.args.self.now c.args.page ≡ None = search rules in
    sym (page_none _ before)
