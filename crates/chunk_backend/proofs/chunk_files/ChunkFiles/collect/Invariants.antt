use Rattle.std.proofs.Common.{◌≡◌, ◌-◌}
use Rattle.chunk_backend.specs.Reads.{Cached, Seen, seen}
use Rattle.chunk_backend.proofs.Collecting.{Collecting}
use Rattle.chunk_backend.proofs.chunk_files.ChunkFiles.collect.Given as goal

abbrev pub invariant-loop-at : goal.invariant-loop-at
invariant-loop-at g l =
    let s = g.T.ChunkStore in
    let all : Cached g.row.T.Denot → Seen = λ f. seen s.contents s.room s.failing s.asked s.faults f in
    record {
      chunk : l.chunk ≡ l.fn.self.chunk;
      so_far : Collecting (all l.fn.self) (all l.self) l.file l.from l.end l.at l.bytes.items l.hits;
    }

abbrev pub decreases-loop-at : goal.decreases-loop-at
decreases-loop-at g l = l.end - l.at
