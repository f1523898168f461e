use Rattle.std.proofs.Common.{◌≡◌, ◌+◌, drop}
use Rattle.chunk_backend.specs.Reads.{total_needs}
use Rattle.chunk_backend.proofs.chunks_text.room_for.Given as goal

abbrev pub invariant-loop-read : goal.invariant-loop-read
invariant-loop-read l = l.room + total_needs l.chunk l.sizes (drop l.read-index l.reads) ≡ total_needs l.chunk l.sizes l.reads
