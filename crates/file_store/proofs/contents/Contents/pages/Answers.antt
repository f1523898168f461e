use Rattle.std.proofs.Common.{List, ℕ, ap, ◌∙◌}
use Rattle.file_store.specs.FileBytes.{page_count}
use Rattle.file_store.proofs.ContentsLemmas.{count_is}
use Rattle.file_store.proofs.contents.Contents.pages.Goals as goal

pub returns : goal.returns
returns c = c.len.ensures.value ∙ count_is c.self.inside.size c.self.inside.pages c.len.ensures.whole c.self.invariant c.len.ensures.ordered ∙ ap (λ (xs : List ℕ). page_count xs) c.self.view_is
