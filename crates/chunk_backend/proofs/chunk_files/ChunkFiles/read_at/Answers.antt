use Rattle.std.proofs.Common.{[], ◌∷◌, ◌++◌, w64, subst}
use Rattle.std.proofs.lemmas.Int.{to_z-of_z}
use Rattle.chunk_backend.specs.Chunks.{chunk_read}
use Rattle.chunk_backend.specs.Reads.{Cached, IsReadAt, Seen, seen}
use Rattle.chunk_backend.proofs.FoldLemmas.{ran_on, reads_are_folded}
use Rattle.chunk_backend.proofs.chunk_files.ChunkFiles.read_at.Goals as goal

pub returns-clause-runs : goal.returns-clause-runs
returns-clause-runs g c = λ start reads answers ran.
    let s = g.T.ChunkStore in
    let all : Cached g.row.T.Denot → Seen = λ f. seen s.contents s.room s.failing s.asked s.faults f in
    let read = chunk_read c.args.file c.args.offset c.args.count in
    let step : IsReadAt (all c.args.self.now) read c.serve.result.answer (all c.serve.new.self) =
    subst (λ offset. IsReadAt (all c.args.self.now) (chunk_read c.args.file offset c.args.count) c.serve.result.answer (all c.serve.new.self))
    (to_z-of_z w64 c.args.offset c.ranges.offset) c.serve.ensures.read in
    reads_are_folded start (all c.serve.new.self) (reads ++ read ∷ []) (answers ++ c.serve.result.answer ∷ [])
    (ran_on reads answers start (all c.args.self.now) (all c.serve.new.self) read c.serve.result.answer ran step)
