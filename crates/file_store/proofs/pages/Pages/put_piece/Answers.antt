use Rattle.std.proofs.Common.{◌≡◌, ◌++◌, ◌+◌, List, ℕ, None, Some, length, take, drop, true, sym, ap, ◌∙◌, rules}
use Rattle.file_store.specs.FileBytes.{all_zero}
use Rattle.file_store.specs.Pages.{kept_page}
use Rattle.file_store.proofs.PagesLemmas.{zero_page_is, zeros_written, page_none, page_some, true_from_room}
use Rattle.file_store.proofs.pages.Pages.put_piece.Goals as goal

pub returns-in_default-clause-written : goal.returns-in_default-clause-written
returns-in_default-clause-written c =
    let before : kept_page c.args.self.now c.args.page ≡ None = search rules in
    let after : kept_page c.get_mut.follows.lender-at-none.entries c.args.page ≡ None = search rules in
    let zeros : all_zero c.args.piece.now ≡ true = true_from_room _ _ before c.requires.room in
    page_none _ after ∙ zeros_written c.args.start c.args.piece.now c.requires.fits zeros
    ∙ ap (λ (p : List ℕ). take c.args.start p ++ (c.args.piece.now ++ drop (c.args.start + length c.args.piece.now) p)) (sym (page_none _ before))

pub returns-then-is_zero-2-clause-written : goal.returns-then-is_zero-2-clause-written
returns-then-is_zero-2-clause-written c =
    let before : kept_page c.args.self.now c.args.page ≡ Some c.in-Some.kept.now = search rules in
    let after : kept_page c.remove.new.self.entries c.args.page ≡ None = search rules in
    let zeros = sym c.is_zero-then-is_zero.ensures ∙ c.if-is_zero-2.true in
    page_none _ after ∙ sym (zero_page_is _ zeros c.write.ensures.size) ∙ c.write.ensures.value
    ∙ ap (λ (p : List ℕ). take c.args.start p ++ (c.args.piece.now ++ drop (c.args.start + length c.args.piece.now) p)) (sym (page_some _ _ before))
