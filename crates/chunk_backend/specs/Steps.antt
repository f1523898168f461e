-- What one chunk of a read does, and the chunks so far. No public clause cites this module.
use Rattle.std.specs.Prelude.{◌≡◌, ◌≢◌, ℕ, ◌+◌, ◌-◌, ◌*◌, ◌≤◌, ◌<◌, Bool, true, false, List, ◌∷◌, ◌++◌, [], length, take, drop, Option, None, Some, IfSome, Result, Ok, Err, OnOk}
use Rattle.std.specs.Map.{lookup}
use Rattle.lru.specs.LruCache.{LruCache, lru_cache, promoted, put_entries}
use Rattle.wf_core.specs.Faults.{Rose}
use Rattle.file_store.specs.FileBytes.{part}
use Rattle.chunk_backend.specs.declared.chunk.ChunkId.{ChunkId}
use Rattle.chunk_backend.specs.declared.chunk.Fetch.{Fetch}
use Rattle.chunk_backend.specs.declared.chunk_answer.ReadFault.{ReadFault}
use Rattle.chunk_backend.specs.declared.chunk_answer.ReadFault.TheVariants.{Failed, NoMemory}
use Rattle.chunk_backend.specs.declared.chunk_answer.ChunkAnswer.{ChunkAnswer}
use Rattle.chunk_backend.specs.declared.chunk_answer.ChunkAnswer.TheVariants.{NoFile, Negative, Fault}
use Rattle.chunk_backend.specs.declared.chunk_answer.ChunkAnswer.TheVariants as answer
use Rattle.chunk_backend.specs.declared.chunk_answer.Served.{Served}
use Rattle.chunk_backend.specs.declared.chunk_cache.Part.{Part}
use Rattle.chunk_backend.specs.declared.chunk.ChunkRead.{ChunkRead}
use Rattle.chunk_backend.specs.Chunks.{bytes_of, chunks_between, needs, size_of}
use Rattle.chunk_backend.specs.Stores.{AreFetched, is_failing}
use Rattle.chunk_backend.specs.CacheFold.{CacheRules, CacheState, ChunksOutcome, after_fault, after_hit, after_miss, chunks_outcome, is_listed, is_same, read_outcome, take_chunks}
use Rattle.chunk_backend.specs.Reads.{CameTo, HasRoom, IfBytes, IsCache, Seen, Setup, rules_of, state_of}

-- Over a store and a cache.

-- something was asked for, and that came of it
abbrev pub IsAsked : {X : Type 0} → List ℕ → Fetch → List Fetch → Result X ReadFault → List Fetch → Type 0
IsAsked failing fetch old (Ok x) new = (is_failing failing old ≡ false) × (new ≡ old ++ fetch ∷ [])
IsAsked failing fetch old (Err Failed) new = (is_failing failing old ≡ true) × (new ≡ old ++ fetch ∷ [])
IsAsked failing fetch old (Err NoMemory) new = Unit {0}

-- the same of a chunk that may be in the cache, where nothing is asked for
abbrev pub IsAskedOnMiss : List ℕ → Fetch → List Fetch → Result Bool ReadFault → List Fetch → Type 0
IsAskedOnMiss failing fetch old (Ok true) new = new ≡ old
IsAskedOnMiss failing fetch old (Ok false) new = IsAsked {X = Bool} failing fetch old (Ok false) new
IsAskedOnMiss failing fetch old (Err fault) new = IsAsked {X = Bool} failing fetch old (Err fault) new

-- a chunk in the cache has as many bytes as the part says, and the part is within them
pub record IsPart (part : Part) (cache : LruCache ChunkId (List ℕ)) : Type 0 where
  pub rises : part.from ≤ part.to
  pub within : part.to ≤ part.size
  pub kept : IfSome (lookup (is_same part.id) cache.entries) (λ chunk. length chunk ≡ part.size)

-- bytes with a part of a chunk behind them
abbrev pub with_part : Part → List ℕ → List ℕ → List ℕ
with_part part bytes chunk = bytes ++ take (part.to - part.from) (drop part.from chunk)

-- a chunk has the bytes that were asked for
pub record IsFetched (contents : Option (List (List ℕ))) (part : Part) (chunk : List ℕ) : Type 0 where
  pub size : length chunk ≡ part.size
  pub bytes : AreFetched contents part.id.file part.start chunk

-- a cache and the bytes so far
pub record CacheAndBytes : Type 0 where
  pub cache : LruCache ChunkId (List ℕ)
  pub bytes : List ℕ

abbrev pub cache_and_bytes : LruCache ChunkId (List ℕ) → List ℕ → CacheAndBytes
cache_and_bytes cache bytes = record { cache = cache; bytes = bytes }

-- whether a chunk is in the cache, and which one
abbrev pub kept_chunk : Part → CacheAndBytes → Option (List ℕ)
kept_chunk part all = lookup (is_same part.id) all.cache.entries

-- a part of a chunk that is in the cache was appended
pub record AppendsKept (part : Part) (old new : CacheAndBytes) : Type 0 where
  pub chunk : List ℕ
  pub was : kept_chunk part old ≡ Some chunk
  pub cache : new.cache ≡ lru_cache (promoted (is_same part.id) old.cache.entries) old.cache.cap
  pub bytes : new.bytes ≡ with_part part old.bytes chunk

-- a part of a chunk that is fetched was appended
pub record AppendsFetched (contents : Option (List (List ℕ))) (part : Part) (old new : CacheAndBytes) : Type 0 where
  pub chunk : List ℕ
  pub fetched : IsFetched contents part chunk
  pub cache : new.cache ≡ lru_cache (put_entries is_same old.cache part.id chunk) old.cache.cap
  pub bytes : new.bytes ≡ with_part part old.bytes chunk

-- it was appended, or is not in the cache
abbrev pub IsKept : Part → CacheAndBytes → Bool → CacheAndBytes → Type 0
IsKept part old true new = AppendsKept part old new
IsKept part old false new = (kept_chunk part old ≡ None) × (new ≡ old)

-- a part of a chunk was appended, or could not be
abbrev pub PartTaken : Option (List (List ℕ)) → Part → CacheAndBytes → Result Bool ReadFault → CacheAndBytes → Type 0
PartTaken contents part old (Ok true) new = AppendsKept part old new
PartTaken contents part old (Ok false) new = (kept_chunk part old ≡ None) × AppendsFetched contents part old new
PartTaken contents part old (Err Failed) new = (kept_chunk part old ≡ None) × (new.cache ≡ old.cache)
PartTaken contents part old (Err NoMemory) new = new.cache ≡ old.cache

-- Over files by chunks.

-- the chunk is one of a file that is there, and begins within it
pub record IsWithin (setup : Setup) (id : ChunkId) : Type 0 where
  pub there : id.file < length setup.sizes
  pub begins : id.number * setup.chunk ≤ size_of setup.sizes id.file

-- a part of a chunk, from `from` to before `to`, was appended
pub record AppendsPart (setup : Setup) (id : ChunkId) (from to : ℕ) (old new : List ℕ) : Type 0 where
  pub count : length new ≡ length old + (to - from)
  pub bytes : IfSome setup.contents (λ files. new ≡ old ++ part (bytes_of files id.file) (id.number * setup.chunk + from) (to - from))

-- what came of a chunk: whether it was listed, where its bytes are there now
abbrev pub IsTaken : CacheRules → ChunkId → CacheState → Result Bool ReadFault → CacheState → Type 0
IsTaken rules id old (Ok true) new = (is_listed id old.entries ≡ true) × (new ≡ after_hit id old)
IsTaken rules id old (Ok false) new = (is_listed id old.entries ≡ false) × (is_failing rules.failing old.asked ≡ false) × (new ≡ after_miss rules id old)
IsTaken rules id old (Err Failed) new = (is_listed id old.entries ≡ false) × (is_failing rules.failing old.asked ≡ true) × (new ≡ after_fault rules id old)
IsTaken rules id old (Err NoMemory) new = Unit {0}

-- a chunk was taken, or could not be
pub record Takes (old : Seen) (id : ChunkId) (result : Result Bool ReadFault) (new : Seen) : Type 0 where
  pub same : new.setup ≡ old.setup
  pub fault : result ≡ Err Failed → Rose old.faults new.faults
  pub later : old.faults ≤ new.faults
  pub cache : IsCache new.setup new.cache
  pub taken : IfSome old.setup.failing (λ failing. HasRoom old.setup.room (length old.asked + 1)
      → IsTaken (rules_of old.setup failing) id (state_of old) result (state_of new))

-- the chunks of a read came to that, by what was answered of them
abbrev pub CameSo : ChunksOutcome → Result (Unit {0}) ReadFault → CacheState → ℕ → Type 0
CameSo outcome (Ok x) state hits = outcome ≡ chunks_outcome state hits false
CameSo outcome (Err Failed) state hits = outcome ≡ chunks_outcome state hits true
CameSo outcome (Err NoMemory) state hits = Unit {0}

-- the bytes of a file from `from` to before `end` were collected, or could not be
pub record Collects (old : Seen) (file from end : ℕ) (result : Result (Unit {0}) ReadFault) (given : List ℕ) (hits : ℕ) (new : Seen) : Type 0 where
  pub same : new.setup ≡ old.setup
  pub fault : result ≡ Err Failed → Rose old.faults new.faults
  pub later : old.faults ≤ new.faults
  pub cache : IsCache new.setup new.cache
  pub count : OnOk result (length given ≡ end - from)
  pub bytes : OnOk result (IfSome old.setup.contents (λ files. given ≡ part (bytes_of files file) from (end - from)))
  pub taken : IfSome old.setup.failing (λ failing.
      let ids = chunks_between old.setup.chunk file from end in
      HasRoom old.setup.room (length old.asked + length ids)
      → CameSo (take_chunks (rules_of old.setup failing) (state_of old) 0 ids) result (state_of new) hits)

-- the same as an answer, with the hits
pub record ServesBetween (old : Seen) (file from end : ℕ) (served : Served) (new : Seen) : Type 0 where
  pub same : new.setup ≡ old.setup
  pub form : (served.answer ≢ NoFile) × (served.answer ≢ Negative)
  pub fault : served.answer ≡ Fault → Rose old.faults new.faults
  pub later : old.faults ≤ new.faults
  pub cache : IsCache new.setup new.cache
  pub count : IfBytes served.answer (λ bytes. length bytes ≡ end - from)
  pub bytes : IfBytes served.answer (λ bytes. IfSome old.setup.contents (λ files. bytes ≡ part (bytes_of files file) from (end - from)))
  pub taken : served.answer ≢ answer.NoMemory → IfSome old.setup.failing (λ failing.
      let ids = chunks_between old.setup.chunk file from end in
      HasRoom old.setup.room (length old.asked + length ids)
      → let outcome = take_chunks (rules_of old.setup failing) (state_of old) 0 ids in
      CameTo outcome served.answer (state_of new) × (outcome.hits ≡ served.hits))

-- so many of the chunks that a read needs were in the cache
abbrev pub CountsHits : Seen → ChunkRead → ChunkAnswer → ℕ → Type 0
CountsHits old read given hits = given ≢ answer.NoMemory → IfSome old.setup.failing (λ failing.
    HasRoom old.setup.room (length old.asked + length (needs old.setup.chunk old.setup.sizes read))
    → (read_outcome (rules_of old.setup failing) old.setup.sizes (state_of old) read).hits ≡ hits)
