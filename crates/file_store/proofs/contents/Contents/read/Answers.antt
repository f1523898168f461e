use Rattle.std.proofs.Common.{◌≡◌, ◌-◌, List, ℕ, vec_len, min, ap, sym, ◌∙◌, arith}
use Rattle.file_store.specs.FileBytes.{part}
use Rattle.file_store.proofs.ContentsLemmas.{read_is}
use Rattle.file_store.proofs.contents.Contents.read.Goals as goal

pub returns-clause-value : goal.returns-clause-value
returns-clause-value c =
    let old = c.self.inside in
    let bytes = c.loop-self.bytes in
    let len : vec_len bytes ≡ min c.args.count (old.size - c.args.offset) = omega arith in
    c.new.ensures
    ∙ read_is old.size c.args.offset c.args.count (vec_len bytes) old.pages bytes.items c.self.invariant.past len (sym bytes.ok.0) c.loop-self.invariant.read
    ∙ ap (λ (xs : List ℕ). part xs c.args.offset c.args.count) c.self.view_is
