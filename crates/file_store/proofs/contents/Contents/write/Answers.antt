use Rattle.file_store.proofs.ContentsLemmas.{write_is}
use Rattle.file_store.proofs.contents.Contents.write.Goals as goal

pub returns-clause-ok : goal.returns-clause-ok
returns-clause-ok c =
    rw (c.max-self-inside.ensures, ← c.self.view_is) (write_is c.self.inside.size c.args.offset c.self.inside.pages c.reserve.new.self c.put.new.self c.args.bytes.now c.self.invariant.past c.reserve.ensures.same c.put.ensures.written)
