-- What a user may conclude of reads by chunks.
use Rattle.std.specs.Prelude.{◌≡◌, ◌↔◌, ◌⊎◌, ℕ, ◌/◌, ◌<◌, ◌≤◌, true, List, [], ◌∷◌}
use Rattle.chunk_backend.specs.declared.chunk.ChunkRead.{ChunkRead}
use Rattle.chunk_backend.specs.declared.chunk_answer.ChunkAnswer.{ChunkAnswer}
use Rattle.chunk_backend.specs.declared.chunk_answer.ChunkAnswer.TheVariants.{Fault}
use Rattle.chunk_backend.specs.Chunks.{chunk_id, chunks_between}
use Rattle.chunk_backend.specs.CacheFold.{CacheRules, CacheState, fold_reads, is_listed, whole_answer}
use Rattle.chunk_backend.specs.Reads.{AreFolded, Ran, Seen}

-- the answers of any list of reads, their fetches and the cache are those of the fold
abbrev pub ReadsAreFolded : Type 0
ReadsAreFolded = (start end : Seen) (reads : List ChunkRead) (answers : List ChunkAnswer) → Ran start reads answers end → AreFolded start reads answers end

-- each answer is the one without a cache, but for the faults
abbrev pub AreWhole : List (List ℕ) → List ChunkRead → List ChunkAnswer → Type 0
AreWhole files [] [] = Unit {0}
AreWhole files (read ∷ reads) (answer ∷ answers) = ((answer ≡ Fault) ⊎ (answer ≡ whole_answer files read)) × AreWhole files reads answers
AreWhole files [] (answer ∷ answers) = ⊥
AreWhole files (read ∷ reads) [] = ⊥

abbrev pub FoldsAreWhole : Type 0
FoldsAreWhole = (rules : CacheRules) (files : List (List ℕ)) (state : CacheState) (reads : List ChunkRead) → AreWhole files reads (fold_reads rules files state reads).answers

-- the chunks between two offsets are those that hold a byte between them
abbrev pub NeedsHoldBytes : Type 0
NeedsHoldBytes = (chunk file from end number : ℕ) → 0 < chunk →
    (is_listed (chunk_id file number) (chunks_between chunk file from end) ≡ true)
    ↔ ((offset : ℕ) × (from ≤ offset) × (offset < end) × (offset / chunk ≡ number))
