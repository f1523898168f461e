use Rattle.std.proofs.Common.{◌≡◌, ◌+◌, ◌*◌, ◌≤◌, ◌^◌, drop}
use Rattle.chunk_backend.proofs.RunLemmas.{Running}
use Rattle.chunk_backend.proofs.chunks_text.run_reads.Given as goal

abbrev pub invariant-loop-read : goal.invariant-loop-read
invariant-loop-read l = record {
  running : Running l.fn.files l.files l.reads (drop l.read-index l.reads) l.fn.text.items l.text.items l.number l.hits;
  number : l.number ≡ l.read-index + 1;
  few : l.hits ≤ l.read-index * 2 ^ 32;
}
