use Rattle.std.proofs.Common.{◌≡◌, ◌++◌, List, ℕ, None, Some, take, replicate, ◌-◌, sym, ap, ◌∙◌, rules}
use Rattle.file_store.specs.Pages.{kept_page}
use Rattle.file_store.proofs.PagesLemmas.{zero_page_is, zeros_cleared, page_none, page_some}
use Rattle.file_store.proofs.pages.Pages.clear_tail.Goals as goal

pub returns-in_default-clause-written : goal.returns-in_default-clause-written
returns-in_default-clause-written c =
    let before : kept_page c.args.self.now c.args.page ≡ None = search rules in
    let after : kept_page c.get_mut.follows.lender-at-none.entries c.args.page ≡ None = search rules in
    page_none _ after ∙ zeros_cleared c.args.start c.requires ∙ ap (λ (p : List ℕ). take c.args.start p ++ replicate (4096 - c.args.start) 0) (sym (page_none _ before))

pub returns-then-is_zero-clause-written : goal.returns-then-is_zero-clause-written
returns-then-is_zero-clause-written c =
    let before : kept_page c.args.self.now c.args.page ≡ Some c.in-Some.kept.now = search rules in
    let after : kept_page c.match-remove.self c.args.page ≡ None = search rules in
    let zeros = sym c.is_zero.ensures ∙ c.if-is_zero.true in
    page_none _ after ∙ sym (zero_page_is _ zeros c.clear_from.ensures.size) ∙ c.clear_from.ensures.value
    ∙ ap (λ (p : List ℕ). take c.args.start p ++ replicate (4096 - c.args.start) 0) (sym (page_some _ _ before))
