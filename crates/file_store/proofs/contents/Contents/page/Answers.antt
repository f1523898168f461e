use Rattle.std.proofs.Common.{◌≡◌, ◌-◌, ◌*◌, List, ℕ, min, ap, ◌∙◌, arith}
use Rattle.std.specs.Option.{option_copied}
use Rattle.file_store.specs.FileBytes.{page_of}
use Rattle.file_store.proofs.ContentsLemmas.{not_kept, kept_up_to}
use Rattle.file_store.proofs.contents.Contents.page.Goals as goal

pub returns-in_err-kept : goal.returns-in_err-kept
returns-in_err-kept c =
    ap option_copied c.from_residual.ensures
    ∙ not_kept c.self.inside.size c.self.inside.pages c.kept.ensures.whole c.self.invariant c.args.page c.in_err-kept.ensures.value ∙ ap (λ (xs : List ℕ). page_of xs c.args.page) c.self.view_is

pub returns : goal.returns
returns c =
    let size = c.self.inside.size in
    let count : c.min-size.result ≡ min (size - c.args.page * 4096) 4096 = omega arith in
    kept_up_to size c.self.inside.pages c.kept.ensures.whole c.self.invariant c.args.page c.min-size.result c.in_ok-kept.kept.now c.in_ok-kept.ensures.value count
    ∙ ap (λ (xs : List ℕ). page_of xs c.args.page) c.self.view_is
