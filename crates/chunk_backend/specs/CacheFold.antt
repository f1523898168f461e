-- What a cache of chunks comes to over the chunks that reads need: which are found in it, which are fetched, and which
-- stay in it.
use Rattle.std.specs.Prelude.{ℕ, ◌+◌, ◌==◌, ◌&&◌, Bool, true, false, if◌then◌else◌, List, [], ◌∷◌, ◌++◌, length, take, map, slice_get, Option, None, Some}
use Rattle.std.specs.List.{list_any}
use Rattle.file_store.specs.declared.file.File.{File}
use Rattle.file_store.specs.declared.file_operation.FileAnswer.{FileAnswer}
use Rattle.file_store.specs.declared.file_operation.FileAnswer.TheVariants as file_answer
use Rattle.file_store.specs.FileGroups.{natural, readat_answer_from}
use Rattle.chunk_backend.specs.declared.chunk.ChunkId.{ChunkId}
use Rattle.chunk_backend.specs.declared.chunk.Fetch.{Fetch}
use Rattle.chunk_backend.specs.declared.chunk.ChunkRead.{ChunkRead}
use Rattle.chunk_backend.specs.declared.chunk_answer.ChunkAnswer.{ChunkAnswer}
use Rattle.chunk_backend.specs.declared.chunk_answer.ChunkAnswer.TheVariants.{Bytes, NoFile, Negative, Fault}
use Rattle.chunk_backend.specs.Chunks.{fetch_of, needs}
use Rattle.chunk_backend.specs.Stores.{is_failing}

-- what does not change from read to read
pub record CacheRules : Type 0 where
  -- the bytes of a chunk, and the most chunks in the cache
  pub chunk : ℕ
  pub limit : ℕ
  -- the numbers of the fetches that fail
  pub failing : List ℕ

pub record CacheState : Type 0 where
  -- the chunks in the cache, the most recent first
  pub entries : List ChunkId
  -- the fetches so far
  pub asked : List Fetch

abbrev pub is_same : ChunkId → ChunkId → Bool
is_same a b = a.file == b.file && a.number == b.number

abbrev pub is_listed : ChunkId → List ChunkId → Bool
is_listed id entries = list_any (is_same id) entries

abbrev pub without : ChunkId → List ChunkId → List ChunkId
without id [] = []
without id (first ∷ entries) = if is_same id first then entries else first ∷ without id entries

-- a chunk that is listed comes first
abbrev pub after_hit : ChunkId → CacheState → CacheState
after_hit id state = record state { entries = id ∷ without id state.entries }

-- a chunk that is not listed is asked for
abbrev pub after_fault : CacheRules → ChunkId → CacheState → CacheState
after_fault rules id state = record state { asked = state.asked ++ fetch_of rules.chunk id ∷ [] }

-- and comes first once it is there; the last one goes where there are too many
abbrev pub after_miss : CacheRules → ChunkId → CacheState → CacheState
after_miss rules id state = record {
  entries = take rules.limit (id ∷ state.entries);
  asked = state.asked ++ fetch_of rules.chunk id ∷ [];
}

-- what comes of the chunks that a read needs
pub record ChunksOutcome : Type 0 where
  pub state : CacheState
  -- how many of them were listed
  pub hits : ℕ
  -- whether a fetch failed
  pub fault : Bool

abbrev pub chunks_outcome : CacheState → ℕ → Bool → ChunksOutcome
chunks_outcome state hits fault = record { state = state; hits = hits; fault = fault }

-- the chunks are taken one after another, until a fetch fails; `hits` counts on
abbrev pub take_chunks : CacheRules → CacheState → ℕ → List ChunkId → ChunksOutcome
take_chunks rules state hits [] = chunks_outcome state hits false
take_chunks rules state hits (id ∷ ids) =
    if is_listed id state.entries then take_chunks rules (after_hit id state) (hits + 1) ids
    else if is_failing rules.failing state.asked then chunks_outcome (after_fault rules id state) hits true
    else take_chunks rules (after_miss rules id state) hits ids

-- what comes of the chunks of one read
abbrev pub read_outcome : CacheRules → List ℕ → CacheState → ChunkRead → ChunksOutcome
read_outcome rules sizes state read = take_chunks rules state 0 (needs rules.chunk sizes read)

-- a file with these bytes
abbrev pub whole_file : List ℕ → File
whole_file bytes = record { bytes = bytes; linked = true }

-- an answer of `readat` as one of a read by chunks
abbrev pub answer_of : FileAnswer → ChunkAnswer
answer_of (file_answer.Bytes bytes) = Bytes bytes
answer_of _ = Negative

abbrev pub whole_answer_from : ChunkRead → Option (List ℕ) → ChunkAnswer
whole_answer_from read None = NoFile
whole_answer_from read (Some bytes) = answer_of (readat_answer_from (whole_file bytes) read.count (natural read.offset))

-- the answer of a read without a cache: what `readat` answers on the whole bytes of its file
abbrev pub whole_answer : List (List ℕ) → ChunkRead → ChunkAnswer
whole_answer files read = whole_answer_from read (slice_get files read.file)

-- The answer of a read, unless a fetch failed
abbrev pub answer_unless : Bool → ChunkAnswer → ChunkAnswer
answer_unless fault answer = if fault then Fault else answer

-- Any list of reads of whole files.

pub record ReadsOutcome : Type 0 where
  pub answers : List ChunkAnswer
  pub state : CacheState
  pub hits : ℕ

-- with one read before
abbrev pub with_read : ChunkAnswer → ℕ → ReadsOutcome → ReadsOutcome
with_read answer hits outcome = record { answers = answer ∷ outcome.answers; state = outcome.state; hits = hits + outcome.hits }

-- the answer of a read whose chunks came to that
abbrev pub answer_after : List (List ℕ) → ChunkRead → ChunksOutcome → ChunkAnswer
answer_after files read outcome = answer_unless outcome.fault (whole_answer files read)

abbrev pub fold_reads : CacheRules → List (List ℕ) → CacheState → List ChunkRead → ReadsOutcome
fold_reads rules files state [] = record { answers = []; state = state; hits = 0 }
fold_reads rules files state (read ∷ reads) =
    let outcome = read_outcome rules (map length files) state read in
    with_read (answer_after files read outcome) outcome.hits (fold_reads rules files outcome.state reads)
