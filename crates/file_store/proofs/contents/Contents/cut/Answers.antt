use Rattle.std.proofs.Common.{Bool, cond, refl, ap, ◌∙◌}
use Rattle.std.proofs.lemmas.Bool.{lt-ltb}
use Rattle.file_store.specs.Pages.{byte_at}
use Rattle.file_store.proofs.ContentsLemmas.{cut_is}
use Rattle.file_store.proofs.contents.Contents.cut.Goals as goal
use Rattle.file_store.proofs.contents.Contents.cut.Goals.{then-size-self, else-size-self}

pub returns : goal.returns
returns c =
    let old = c.self.inside in
    elim c.if-size-self.branch [
      | then-size-self w ↦
          rw (w.self-inside-is, ← c.self.view_is) (cut_is c.args.size old.size old.pages w.truncate.new.self c.self.invariant.past (λ i low. w.truncate.ensures.cut i ∙ ap (λ (b : Bool). cond b (byte_at old.pages i) 0) (lt-ltb i c.args.size low)))
      | else-size-self w ↦
          rw (w.self-inside-is, ← c.self.view_is) (cut_is c.args.size old.size old.pages old.pages c.self.invariant.past (λ i low. refl))
    ]
