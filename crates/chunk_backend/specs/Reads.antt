-- What a read by chunks promises, and what follows for any list of reads, one after another.
use Rattle.std.specs.Prelude.{◌≡◌, ◌≢◌, ◌↔◌, ℕ, ◌+◌, ◌-◌, ◌<◌, ◌≤◌, true, List, [], ◌∷◌, length, map, Option, None, Some, IfSome, Contains}
use Rattle.std.specs.List.{AllByRecursion, IsDistinct}
use Rattle.std.specs.Map.{keys_of}
use Rattle.wf_core.specs.Faults.{Rose}
use Rattle.file_store.specs.FileGroups.{natural}
use Rattle.chunk_backend.specs.declared.chunk.ChunkId.{ChunkId}
use Rattle.chunk_backend.specs.declared.chunk.Fetch.{Fetch}
use Rattle.chunk_backend.specs.declared.chunk.ChunkRead.{ChunkRead}
use Rattle.chunk_backend.specs.declared.chunk_answer.ChunkAnswer.{ChunkAnswer}
use Rattle.chunk_backend.specs.declared.chunk_answer.ChunkAnswer.TheVariants.{Bytes, NoFile, Negative, Fault, NoMemory}
use Rattle.chunk_backend.specs.Chunks.{chunk_bytes, chunk_max, chunk_size, entries_max, needs, read_end, size_of}
use Rattle.chunk_backend.specs.CacheFold.{CacheRules, CacheState, ChunksOutcome, fold_reads, is_same, read_outcome, whole_answer}

-- what does not change from read to read
pub record Setup : Type 0 where
  -- of the store, as `ChunkStore` says
  pub contents : Option (List (List ℕ))
  pub room : Option ℕ
  pub failing : Option (List ℕ)
  -- the size of each file, the bytes of a chunk, and the most chunks in the cache
  pub sizes : List ℕ
  pub chunk : ℕ
  pub limit : ℕ

-- what is seen of files by chunks at one time
pub record Seen : Type 0 where
  pub setup : Setup
  -- the fetches so far, and how many of them failed
  pub asked : List Fetch
  pub faults : ℕ
  -- the chunks in the cache with their bytes, the most recent first
  pub cache : List (ChunkId × List ℕ)

-- files by chunks, as a contract sees them
pub record Cached (T : Type 0) : Type 0 where
  pub store : T
  pub sizes : List ℕ
  pub chunk : ℕ
  pub limit : ℕ
  pub cache : List (ChunkId × List ℕ)

-- what is seen of them, by what their store tells
abbrev pub seen : {T : Type 0} → (T → Option (List (List ℕ))) → (T → Option ℕ) → (T → Option (List ℕ)) → (T → List Fetch) → (T → ℕ) → Cached T → Seen
seen contents room failing asked faults files = record {
  setup = record {
    contents = contents files.store;
    room = room files.store;
    failing = failing files.store;
    sizes = files.sizes;
    chunk = files.chunk;
    limit = files.limit;
  };
  asked = asked files.store;
  faults = faults files.store;
  cache = files.cache;
}

-- the sizes are those of the contents, where the store tells them, and the numbers are within their limits
pub record IsSetup (setup : Setup) : Type 0 where
  pub sizes : IfSome setup.contents (λ files. setup.sizes ≡ map length files)
  pub chunk : (0 < setup.chunk) × (setup.chunk ≤ chunk_max)
  pub limit : (0 < setup.limit) × (setup.limit ≤ entries_max)

-- a chunk of a file that is there, with as many bytes as it has, which are its own where the store tells them
pub record IsChunk (setup : Setup) (id : ChunkId) (chunk : List ℕ) : Type 0 where
  pub there : id.file < length setup.sizes
  pub size : length chunk ≡ chunk_size setup.chunk setup.sizes id
  pub bytes : IfSome setup.contents (λ files. chunk ≡ chunk_bytes setup.chunk files id)

-- what holds of the cache after every answer
pub record IsCache (setup : Setup) (cache : List (ChunkId × List ℕ)) : Type 0 where
  pub once : IsDistinct is_same (keys_of cache)
  pub few : length cache ≤ setup.limit
  pub chunks : (id : ChunkId) (chunk : List ℕ) → Contains cache (id, chunk) → IsChunk setup id chunk

abbrev pub rules_of : Setup → List ℕ → CacheRules
rules_of setup failing = record { chunk = setup.chunk; limit = setup.limit; failing = failing }

abbrev pub state_of : Seen → CacheState
state_of seen = record { entries = keys_of seen.cache; asked = seen.asked }

-- there may be so many fetches
abbrev pub HasRoom : Option ℕ → ℕ → Type 0
HasRoom None fetches = Unit {0}
HasRoom (Some room) fetches = fetches ≤ room

-- it holds of the bytes that were read
abbrev pub IfBytes : ChunkAnswer → (List ℕ → Type 0) → Type 0
IfBytes (Bytes bytes) P = P bytes
IfBytes _ P = Unit {0}

-- the chunks came to that answer and to that state
abbrev pub CameTo : ChunksOutcome → ChunkAnswer → CacheState → Type 0
CameTo outcome answer state = (state ≡ outcome.state) × ((answer ≡ Fault) ↔ (outcome.fault ≡ true))

-- A read was answered so, and led from what was seen before to what is seen after it.
pub record IsReadAt (old : Seen) (read : ChunkRead) (answer : ChunkAnswer) (new : Seen) : Type 0 where
  pub same : new.setup ≡ old.setup
  pub setup : IsSetup new.setup
  -- when each answer comes
  pub no_file : (answer ≡ NoFile) ↔ (length old.setup.sizes ≤ read.file)
  pub negative : (answer ≡ Negative) ↔ ((read.file < length old.setup.sizes) × (natural read.offset ≡ None))
  pub fault : answer ≡ Fault → Rose old.faults new.faults
  pub later : old.faults ≤ new.faults
  -- how many bytes there are: at most `count` and `read_max`, and none from the file's end on
  pub count : IfBytes answer (λ bytes. IfSome (natural read.offset)
      (λ offset. length bytes ≡ read_end (size_of old.setup.sizes read.file) offset read.count - offset))
  -- they are what `readat` answers on the whole bytes of the file
  pub whole : IfBytes answer (λ bytes. IfSome old.setup.contents (λ files. whole_answer files read ≡ answer))
  pub cache : IsCache new.setup new.cache
  -- what was found in the cache, what was fetched and what stays in it
  pub fold : answer ≢ NoMemory → IfSome old.setup.failing (λ failing.
      HasRoom old.setup.room (length old.asked + length (needs old.setup.chunk old.setup.sizes read))
      → CameTo (read_outcome (rules_of old.setup failing) old.setup.sizes (state_of old) read) answer (state_of new))

-- Any list of reads.

-- reads were answered so, one after another
abbrev pub Ran : Seen → List ChunkRead → List ChunkAnswer → Seen → Type 0
Ran start [] [] end = end ≡ start
Ran start (read ∷ reads) (answer ∷ answers) end = (after : Seen) × IsReadAt start read answer after × Ran after reads answers end
Ran start [] (answer ∷ answers) end = ⊥
Ran start (read ∷ reads) [] end = ⊥

-- how many chunks the reads need
abbrev pub total_needs : ℕ → List ℕ → List ChunkRead → ℕ
total_needs chunk sizes [] = 0
total_needs chunk sizes (read ∷ reads) = length (needs chunk sizes read) + total_needs chunk sizes reads

abbrev pub HasMemory : List ChunkAnswer → Type 0
HasMemory answers = AllByRecursion (λ answer. answer ≢ NoMemory) answers

-- Where the store tells its contents and which fetches fail, and has room for every chunk that the reads need, the
-- answers, the fetches and the cache are those of the fold.
abbrev pub AreFolded : Seen → List ChunkRead → List ChunkAnswer → Seen → Type 0
AreFolded start reads answers end = IfSome start.setup.contents (λ files. IfSome start.setup.failing (λ failing.
    HasRoom start.setup.room (length start.asked + total_needs start.setup.chunk start.setup.sizes reads) → HasMemory answers
    → let outcome = fold_reads (rules_of start.setup failing) files (state_of start) reads in
    (answers ≡ outcome.answers) × (state_of end ≡ outcome.state)))
