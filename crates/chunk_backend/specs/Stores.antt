-- What a store of chunks tells, and what one fetch does.
use Rattle.std.specs.Prelude.{◌≡◌, ℕ, ◌+◌, ◌==◌, ◌<◌, ◌≤◌, nat_le, Bool, false, ◌||◌, if◌then◌else◌, List, [], ◌∷◌, ◌++◌, length, Option, None, Some, IfSome}
use Rattle.std.specs.List.{list_any}
use Rattle.file_store.specs.FileBytes.{part}
use Rattle.chunk_backend.specs.declared.chunk.Fetch.{Fetch}
use Rattle.chunk_backend.specs.Chunks.{bytes_of}

-- the file is there, and has so many bytes from the offset on
pub record HasBytes (files : List (List ℕ)) (file offset count : ℕ) : Type 0 where
  pub there : file < length files
  pub within : offset + count ≤ length (bytes_of files file)

-- it has them, where the store tells its contents
abbrev pub MayFetch : Option (List (List ℕ)) → ℕ → ℕ → ℕ → Type 0
MayFetch contents file offset count = IfSome contents (λ files. HasBytes files file offset count)

-- the bytes are the file's from the offset on, where the store tells its contents
abbrev pub AreFetched : Option (List (List ℕ)) → ℕ → ℕ → List ℕ → Type 0
AreFetched contents file offset bytes = IfSome contents (λ files. bytes ≡ part (bytes_of files file) offset (length bytes))

-- there were as many fetches as there may be
abbrev pub is_full : Option ℕ → List Fetch → Bool
is_full None asked = false
is_full (Some room) asked = nat_le room (length asked)

-- a fetch is added to those so far, where there may be one more
abbrev pub asked_after : Option ℕ → List Fetch → Fetch → List Fetch
asked_after room asked fetch = if is_full room asked then asked else asked ++ fetch ∷ []

-- the number of the next fetch is one of those that fail
abbrev pub is_failing : List ℕ → List Fetch → Bool
is_failing failing asked = list_any (λ number. number == length asked) failing

-- the next fetch fails
abbrev pub fails : List ℕ → Option ℕ → List Fetch → Bool
fails failing room asked = is_failing failing asked || is_full room asked

-- what a store in memory shows
pub record Fetching : Type 0 where
  -- the bytes of each file
  pub contents : List (List ℕ)
  -- the numbers of the fetches that fail, and how many fetches there may be
  pub failing : List ℕ
  pub room : ℕ
  -- the fetches so far, and how many of them failed
  pub asked : List Fetch
  pub faults : ℕ
