-- The chunks of files: which bytes each has, and which of them a read needs. After WasmFS's fetch backend; the definitions
-- are this project's own.
use Rattle.std.specs.Prelude.{ℕ, ◌+◌, ◌-◌, ◌*◌, ◌/◌, min, nat_lt, if◌then◌else◌, List, [], map, slice_get, slice_index_or, Option, None, Some, ℤ}
use Rattle.std.specs.List.{range_with_len}
use Rattle.wf_core.specs.Limits.{read_max}
use Rattle.file_store.specs.FileBytes.{part}
use Rattle.file_store.specs.FileGroups.{natural}
use Rattle.chunk_backend.specs.declared.chunk.ChunkId.{ChunkId}
use Rattle.chunk_backend.specs.declared.chunk.Fetch.{Fetch}
use Rattle.chunk_backend.specs.declared.chunk.ChunkRead.{ChunkRead}

-- the most bytes of a chunk, and the most chunks of a cache
abbrev pub chunk_max : ℕ
chunk_max = 4096

abbrev pub entries_max : ℕ
entries_max = 64

-- the bytes of a file, none where it is not there
abbrev pub bytes_of : List (List ℕ) → ℕ → List ℕ
bytes_of files file = slice_index_or files file []

abbrev pub size_of : List ℕ → ℕ → ℕ
size_of sizes file = slice_index_or sizes file 0

abbrev pub chunk_id : ℕ → ℕ → ChunkId
chunk_id file number = record { file = file; number = number }

abbrev pub fetch_at : ℕ → ℕ → Fetch
fetch_at file offset = record { file = file; offset = offset }

abbrev pub chunk_read : ℕ → ℤ → ℕ → ChunkRead
chunk_read file offset count = record { file = file; offset = offset; count = count }

-- a chunk begins at its number times the chunk size
abbrev pub fetch_of : ℕ → ChunkId → Fetch
fetch_of chunk id = fetch_at id.file (id.number * chunk)

-- the bytes of a chunk, which are fewer where the file ends in it
abbrev pub chunk_bytes : ℕ → List (List ℕ) → ChunkId → List ℕ
chunk_bytes chunk files id = part (bytes_of files id.file) (id.number * chunk) chunk

-- how many they are
abbrev pub chunk_size : ℕ → List ℕ → ChunkId → ℕ
chunk_size chunk sizes id = min chunk (size_of sizes id.file - id.number * chunk)

-- the offset behind the last byte that a read from an offset on gives
abbrev pub read_end : ℕ → ℕ → ℕ → ℕ
read_end size offset count = min size (offset + min count read_max)

-- how many chunks hold the bytes from the offset `from` to before `end`
abbrev pub chunk_count : ℕ → ℕ → ℕ → ℕ
chunk_count chunk from end = if nat_lt from end then (end - 1) / chunk + 1 - from / chunk else 0

-- these chunks, in rising order
abbrev pub chunks_between : ℕ → ℕ → ℕ → ℕ → List ChunkId
chunks_between chunk file from end = map (chunk_id file) (range_with_len (from / chunk) (chunk_count chunk from end))

abbrev pub needs_of : ℕ → ChunkRead → Option ℕ → Option ℕ → List ChunkId
needs_of chunk read None offset = []
needs_of chunk read (Some size) None = []
needs_of chunk read (Some size) (Some offset) = chunks_between chunk read.file offset (read_end size offset read.count)

-- the chunks that a read needs: those that hold its bytes, and none where it gives no byte
abbrev pub needs : ℕ → List ℕ → ChunkRead → List ChunkId
needs chunk sizes read = needs_of chunk read (slice_get sizes read.file) (natural read.offset)

-- how many they are, for a file of that size
abbrev pub count_needs : ℕ → ℕ → ℕ → Option ℕ → ℕ
count_needs chunk size count None = 0
count_needs chunk size count (Some from) = chunk_count chunk from (read_end size from count)
