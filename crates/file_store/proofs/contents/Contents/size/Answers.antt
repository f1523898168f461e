use Rattle.std.proofs.Common.{List, ℕ, length, sym, ap, ◌∙◌}
use Rattle.file_store.proofs.ContentsLemmas.{length-flat}
use Rattle.file_store.proofs.contents.Contents.size.Goals as goal

pub returns : goal.returns
returns c = sym (length-flat c.self.inside.size c.self.inside.pages) ∙ ap (λ (xs : List ℕ). length xs) c.self.view_is
