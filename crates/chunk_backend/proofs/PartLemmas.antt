-- What a part of a chunk leaves of files by chunks.
use Rattle.std.proofs.Common.{◌≡◌, ℕ, ◌+◌, ◌-◌, ◌*◌, ◌<◌, ◌≤◌, min, Bool, true, false, ◌⊎◌, List, [], ◌∷◌, ◌++◌, length, take, drop, map, slice_index_or, Option, None, Some, IfSome, is_some, Contains, Result, Ok, Err, OnOk, refl, sym, ap, ◌∙◌, subst, arith, inl, inr}
use Rattle.std.specs.Map.{keys_of, lookup}
use Rattle.std.specs.List.{IsDistinct}
use Rattle.std.proofs.lemmas.List.{drop-drop, drop-take, get_or-map, get_or_read, length-append, length-drop, length-map, length-take, take-map, take_min, take-take}
use Rattle.lru.specs.LruCache.{LruCache, promoted, put_entries}
use Rattle.lru.proofs.CallerLemmas.{Contains-lookup, Contains-promoted, Contains-put_entries}
use Rattle.std.proofs.lemmas.Bool.Decides.{nat_tests}
use Rattle.wf_core.specs.Faults.{Rose}
use Rattle.file_store.specs.FileBytes.{part as file_part}
use Rattle.chunk_backend.specs.declared.chunk.ChunkId.{ChunkId}
use Rattle.chunk_backend.specs.declared.chunk.Fetch.{Fetch}
use Rattle.chunk_backend.specs.declared.chunk_cache.Part.{Part}
use Rattle.chunk_backend.specs.declared.chunk_answer.ReadFault.{ReadFault}
use Rattle.chunk_backend.specs.declared.chunk_answer.ReadFault.TheVariants.{Failed, NoMemory}
use Rattle.chunk_backend.specs.Chunks.{bytes_of, chunk_bytes, chunk_size, fetch_at, fetch_of, size_of}
use Rattle.chunk_backend.specs.Stores.{is_full}
use Rattle.chunk_backend.specs.CacheFold.{CacheState, is_same, is_listed, without}
use Rattle.chunk_backend.specs.Reads.{HasRoom, IsCache, IsChunk, IsSetup, Seen, Setup, rules_of, state_of}
use Rattle.chunk_backend.specs.Steps.{AppendsPart, CacheAndBytes, IsFetched, IsPart, IsAskedOnMiss, IsTaken, IsWithin, PartTaken, Takes, kept_chunk, with_part}
use Rattle.chunk_backend.proofs.IdLemmas.{same_ids, distinct_hit, distinct_miss, length_hit}
use Rattle.chunk_backend.proofs.CacheLemmas.{listed, keys_hit, keys_miss, put_missed}

-- the size of a file is the length of its bytes
pub size_is : (files : List (List ℕ)) (sizes : List ℕ) (file : ℕ) → sizes ≡ map length files → file < length sizes → size_of sizes file ≡ length (bytes_of files file)
size_is files sizes file same there =
    let within : file < length files = omega (arith, ap length same, length-map files (λ (bytes : List ℕ). length bytes)) in
    ap (λ all. slice_index_or all file 0) same ∙ get_or-map (λ (bytes : List ℕ). length bytes) files file [] 0 within

-- a part of a chunk is a part of its file
pub part_of_chunk : (bytes : List ℕ) (start chunk from to : ℕ) → from ≤ to → to ≤ chunk
    → take (to - from) (drop from (file_part bytes start chunk)) ≡ file_part bytes (start + from) (to - from)
part_of_chunk bytes start chunk from to rises within =
    let rest = drop start bytes in
    let long : chunk ≡ from + (chunk - from) = omega arith in
    ap (λ n. take (to - from) (drop from (take n rest))) long
    ∙ ap (take (to - from)) (drop-take from (chunk - from) rest)
    ∙ take-take (to - from) (chunk - from) (drop from rest) (omega arith)
    ∙ ap (take (to - from)) (drop-drop from start bytes)

module _ (setup : Setup) (cache : LruCache ChunkId (List ℕ)) where
  -- a chunk in the cache has its bytes
  pub kept_is : (id : ChunkId) (chunk : List ℕ) → IsCache setup cache.entries → lookup (is_same id) cache.entries ≡ Some chunk → IsChunk setup id chunk
  kept_is id chunk sound found =
      let at = Contains-lookup (is_same id) cache.entries chunk found in
      sound.chunks id chunk (subst (λ other. Contains cache.entries (other, chunk)) (sym (same_ids id at.0 at.2)) at.1)

  -- a chunk that was fetched has its bytes
  pub fetched_is : (part : Part) (chunk : List ℕ) → IsSetup setup → IsWithin setup part.id → part.start ≡ part.id.number * setup.chunk → part.size ≡ chunk_size setup.chunk setup.sizes part.id → IsFetched setup.contents part chunk → IsChunk setup part.id chunk
  fetched_is part chunk sound within start size fetched = record {
    there = within.there;
    size = fetched.size ∙ size;
    bytes = own setup.contents sound.sizes fetched.bytes;
  } where
    own : (contents : Option (List (List ℕ))) → IfSome contents (λ files. setup.sizes ≡ map length files) → IfSome contents (λ files. chunk ≡ file_part (bytes_of files part.id.file) part.start (length chunk)) → IfSome contents (λ files. chunk ≡ chunk_bytes setup.chunk files part.id)
    own None sizes bytes = tt
    own (Some files) sizes bytes =
        let all = bytes_of files part.id.file in
        let start_is = part.id.number * setup.chunk in
        let rest = drop start_is all in
        let long : length chunk ≡ min setup.chunk (length rest) =
        fetched.size ∙ size ∙ ap (λ n. min setup.chunk (n - start_is)) (size_is files setup.sizes part.id.file sizes within.there)
        ∙ ap (min setup.chunk) (sym (length-drop start_is all)) in
        bytes ∙ ap (λ n. take (length chunk) (drop n all)) start ∙ ap (λ n. take n rest) long ∙ take_min setup.chunk rest

  pub cache_hit : (id : ChunkId) → IsCache setup cache.entries → is_listed id (keys_of cache.entries) ≡ true → IsCache setup (promoted (is_same id) cache.entries)
  cache_hit id sound there =
      let keys = keys_hit id cache.entries there in
      let fewer : length (promoted (is_same id) cache.entries) ≡ length cache.entries =
      sym (length-map (promoted (is_same id) cache.entries) (λ (e : ChunkId × List ℕ). e.0)) ∙ ap length keys
      ∙ length_hit id (keys_of cache.entries) there ∙ length-map cache.entries (λ (e : ChunkId × List ℕ). e.0) in
      record {
        once = subst (IsDistinct is_same) (sym keys) (distinct_hit id (keys_of cache.entries) sound.once);
        few = (let few = sound.few in omega arith);
        chunks = λ other chunk at. sound.chunks other chunk (Contains-promoted (is_same id) cache.entries (other, chunk) at);
      }

  pub cache_miss : (id : ChunkId) (chunk : List ℕ) → IsSetup setup → setup.limit ≡ cache.cap → IsCache setup cache.entries → is_listed id (keys_of cache.entries) ≡ false → IsChunk setup id chunk → IsCache setup (put_entries is_same cache id chunk)
  cache_miss id chunk setup_is limit sound missed is_chunk =
      let after = put_missed id cache chunk missed in
      let positive : 0 < cache.cap = subst (λ n. 0 < n) limit setup_is.limit.0 in
      let keys : keys_of (put_entries is_same cache id chunk) ≡ id ∷ take (cache.cap - 1) (keys_of cache.entries) =
      ap keys_of after ∙ ap (λ ids. id ∷ ids) (sym (take-map (λ (e : ChunkId × List ℕ). e.0) (cache.cap - 1) cache.entries)) in
      record {
        once = subst (IsDistinct is_same) (sym keys) (distinct_miss (cache.cap - 1) id (keys_of cache.entries) missed sound.once);
        few = (let short = length-take (cache.cap - 1) cache.entries in let long = ap length after in omega arith);
        chunks = λ other bytes at. (elim (Contains-put_entries is_same cache id chunk (other, bytes) at) [
          | inl there ↦ sound.chunks other bytes there
          | inr put ↦ subst (λ b. IsChunk setup other b) (sym put.0) (subst (λ i. IsChunk setup i chunk) (sym (key_is other put.1)) is_chunk)
        ]);
      }
    where
      key_is : (other : ChunkId) → (other ≡ id) ⊎ ((w : List ℕ) × Contains cache.entries (other, w) × (is_same id other ≡ true)) → other ≡ id
      key_is other (inl same) = same
      key_is other (inr kept) = sym (same_ids id other kept.2)

-- What a part leaves of all that is seen.

-- from the one to the other the store and the cache changed, and nothing else
pub record Moves (old new : Seen) (before after : LruCache ChunkId (List ℕ)) : Type 0 where
  pub contents : new.setup.contents ≡ old.setup.contents
  pub room : new.setup.room ≡ old.setup.room
  pub failing : new.setup.failing ≡ old.setup.failing
  pub sizes : new.setup.sizes ≡ old.setup.sizes
  pub chunk : new.setup.chunk ≡ old.setup.chunk
  pub limit_before : old.setup.limit ≡ before.cap
  pub limit_after : new.setup.limit ≡ after.cap
  pub was : old.cache ≡ before.entries
  pub is : new.cache ≡ after.entries

-- the part is one of a chunk of a file
pub record IsPartOf (setup : Setup) (part : Part) : Type 0 where
  pub within : IsWithin setup part.id
  pub start : part.start ≡ part.id.number * setup.chunk
  pub size : part.size ≡ chunk_size setup.chunk setup.sizes part.id
  pub rises : part.from ≤ part.to
  pub to : part.to ≤ part.size

-- a part as the code makes it, by the size that it found
pub part_is : (setup : Setup) (id : ChunkId) (found size from to : ℕ) → IsWithin setup id → (from ≤ to) × (to ≤ chunk_size setup.chunk setup.sizes id)
    → found ≡ slice_index_or setup.sizes id.file found → size ≡ min setup.chunk (found - id.number * setup.chunk)
    → IsPartOf setup (record { id = id; start = id.number * setup.chunk; size = size; from = from; to = to })
part_is setup id found size from to within bounds read is =
    let size_is : size ≡ chunk_size setup.chunk setup.sizes id = is ∙ ap (λ n. min setup.chunk (n - id.number * setup.chunk)) (get_or_read setup.sizes id.file found within.there read 0) in
    record {
      within = within;
      start = refl;
      size = size_is;
      rises = bounds.0;
      to = subst (λ n. to ≤ n) (sym size_is) bounds.1;
    }

-- it is a part of what the cache has of the chunk
pub is_part : (setup : Setup) (cache : LruCache ChunkId (List ℕ)) (part : Part) → IsCache setup cache.entries → IsPartOf setup part → IsPart part cache
is_part setup cache part sound of = record {
  rises = of.rises;
  within = of.to;
  kept = on (lookup (is_same part.id) cache.entries) refl;
} where
  on : (o : Option (List ℕ)) → lookup (is_same part.id) cache.entries ≡ o → IfSome o (λ chunk. length chunk ≡ part.size)
  on None h = tt
  on (Some chunk) h = (kept_is setup cache part.id chunk sound h).size ∙ sym of.size

cap_same : (contents : Option (List (List ℕ))) (part : Part) (old : CacheAndBytes) (r : Result Bool ReadFault) (new : CacheAndBytes) → PartTaken contents part old r new → new.cache.cap ≡ old.cache.cap
cap_same contents part old (Ok true) new taken = ap (λ (c : LruCache ChunkId (List ℕ)). c.cap) taken.cache
cap_same contents part old (Ok false) new taken = ap (λ (c : LruCache ChunkId (List ℕ)). c.cap) taken.1.cache
cap_same contents part old (Err Failed) new taken = ap (λ (c : LruCache ChunkId (List ℕ)). c.cap) taken.1
cap_same contents part old (Err NoMemory) new taken = ap (λ (c : LruCache ChunkId (List ℕ)). c.cap) taken

module _ (old new : Seen) (before after : CacheAndBytes) (part : Part) (r : Result Bool ReadFault)
    (moves : Moves old new before.cache after.cache) (setup_is : IsSetup old.setup) (sound : IsCache old.setup before.cache.entries)
    (is_part : IsPartOf old.setup part) (taken : PartTaken old.setup.contents part before r after) where
  pub same_setup : new.setup ≡ old.setup
  same_setup =
      let limit : new.setup.limit ≡ old.setup.limit = moves.limit_after ∙ cap_same old.setup.contents part before r after taken ∙ sym moves.limit_before in
      λ i. record {
        contents = moves.contents i;
        room = moves.room i;
        failing = moves.failing i;
        sizes = moves.sizes i;
        chunk = moves.chunk i;
        limit = limit i;
      }

  missed : kept_chunk part before ≡ None → is_listed part.id (keys_of before.cache.entries) ≡ false
  missed none = listed part.id before.cache.entries ∙ ap is_some none

  found : (chunk : List ℕ) → kept_chunk part before ≡ Some chunk → is_listed part.id (keys_of before.cache.entries) ≡ true
  found chunk some = listed part.id before.cache.entries ∙ ap is_some some

  -- the chunk of which a part was appended
  chunk_is : (chunk : List ℕ) → kept_chunk part before ≡ Some chunk → IsChunk old.setup part.id chunk
  chunk_is chunk some = kept_is old.setup before.cache part.id chunk sound some

  new_chunk_is : (chunk : List ℕ) → IsFetched old.setup.contents part chunk → IsChunk old.setup part.id chunk
  new_chunk_is chunk fetched = fetched_is old.setup before.cache part chunk setup_is is_part.within is_part.start is_part.size fetched

  abbrev Holds : LruCache ChunkId (List ℕ) → Type 0
  Holds cache = IsCache old.setup cache.entries

  cache_after : (r : Result Bool ReadFault) → PartTaken old.setup.contents part before r after → IsCache old.setup after.cache.entries
  cache_after (Ok true) taken = subst Holds (sym taken.cache) (cache_hit old.setup before.cache part.id sound (found taken.chunk taken.was))
  cache_after (Ok false) taken = subst Holds (sym taken.1.cache)
      (cache_miss old.setup before.cache part.id taken.1.chunk setup_is moves.limit_before sound (missed taken.0) (new_chunk_is taken.1.chunk taken.1.fetched))
  cache_after (Err Failed) taken = subst Holds (sym taken.1) sound
  cache_after (Err NoMemory) taken = subst Holds (sym taken) sound

  -- the cache holds after it what it has to
  pub same_cache : IsCache new.setup new.cache
  same_cache = subst (λ s. IsCache s new.cache) (sym same_setup) (subst (IsCache old.setup) (sym moves.is) (cache_after r taken))

  abbrev state : List ChunkId → List Fetch → CacheState
  state entries asked = record { entries = entries; asked = asked }

  state_is : (entries : List ChunkId) (asked : List Fetch) → keys_of new.cache ≡ entries → new.asked ≡ asked → state_of new ≡ state entries asked
  state_is entries asked p q = λ i. state (p i) (q i)

  abbrev Asked : List ℕ → Result Bool ReadFault → Type 0
  Asked failing r = IsAskedOnMiss failing (fetch_at part.id.file part.start) old.asked r new.asked

  fetch_is : fetch_at part.id.file part.start ≡ fetch_of old.setup.chunk part.id
  fetch_is = ap (fetch_at part.id.file) is_part.start

  asks : new.asked ≡ old.asked ++ fetch_at part.id.file part.start ∷ [] → new.asked ≡ old.asked ++ fetch_of old.setup.chunk part.id ∷ []
  asks asked = asked ∙ ap (λ f. old.asked ++ f ∷ []) fetch_is

  was_keys : keys_of old.cache ≡ keys_of before.cache.entries
  was_keys = ap keys_of moves.was

  old_missed : kept_chunk part before ≡ None → is_listed part.id (keys_of old.cache) ≡ false
  old_missed none = ap (is_listed part.id) was_keys ∙ missed none

  state_after : (failing : List ℕ) (r : Result Bool ReadFault) → PartTaken old.setup.contents part before r after → Asked failing r → IsTaken (rules_of old.setup failing) part.id (state_of old) r (state_of new)
  state_after failing (Ok true) taken asked =
      let there = found taken.chunk taken.was in (
        ap (is_listed part.id) was_keys ∙ there,
        state_is (part.id ∷ without part.id (keys_of old.cache)) old.asked
            (ap keys_of (moves.is ∙ ap (λ (c : LruCache ChunkId (List ℕ)). c.entries) taken.cache) ∙ keys_hit part.id before.cache.entries there ∙ ap (λ ids. part.id ∷ without part.id ids) (sym was_keys))
            asked,
      )
  state_after failing (Ok false) taken asked =
      let positive : 0 < before.cache.cap = subst (λ n. 0 < n) moves.limit_before setup_is.limit.0 in (
        old_missed taken.0,
        asked.0,
        state_is (take old.setup.limit (part.id ∷ keys_of old.cache)) (old.asked ++ fetch_of old.setup.chunk part.id ∷ [])
            (ap keys_of (moves.is ∙ ap (λ (c : LruCache ChunkId (List ℕ)). c.entries) taken.1.cache) ∙ keys_miss part.id before.cache taken.1.chunk (missed taken.0) positive
            ∙ ap (λ n. take n (part.id ∷ keys_of before.cache.entries)) (sym moves.limit_before) ∙ ap (λ ids. take old.setup.limit (part.id ∷ ids)) (sym was_keys))
            (asks asked.1),
      )
  state_after failing (Err Failed) taken asked = (
    old_missed taken.0,
    asked.0,
    state_is (keys_of old.cache) (old.asked ++ fetch_of old.setup.chunk part.id ∷ [])
        (ap keys_of (moves.is ∙ ap (λ (c : LruCache ChunkId (List ℕ)). c.entries) taken.1) ∙ sym was_keys)
        (asks asked.1),
  )
  state_after failing (Err NoMemory) taken asked = tt

  not_full : (room : Option ℕ) → HasRoom room (length old.asked + 1) → is_full room old.asked ≡ false
  not_full None h = refl
  not_full (Some room) h = grind (arith, nat_tests)

  takes_on : (failing : Option (List ℕ)) → IfSome failing (λ failing. is_full old.setup.room old.asked ≡ false → Asked failing r)
      → IfSome failing (λ failing. HasRoom old.setup.room (length old.asked + 1) → IsTaken (rules_of old.setup failing) part.id (state_of old) r (state_of new))
  takes_on None asked = tt
  takes_on (Some failing) asked = λ room. state_after failing r taken (asked (not_full old.setup.room room))

  -- what is seen of it
  pub takes : (r ≡ Err Failed → Rose old.faults new.faults) → old.faults ≤ new.faults
      → IfSome old.setup.failing (λ failing. is_full old.setup.room old.asked ≡ false → Asked failing r) → Takes old part.id r new
  takes fault later asked = record {
    same = same_setup;
    fault = fault;
    later = later;
    cache = same_cache;
    taken = takes_on old.setup.failing asked;
  }

  appends_of : (chunk : List ℕ) → IsChunk old.setup part.id chunk → after.bytes ≡ with_part part before.bytes chunk → AppendsPart old.setup part.id part.from part.to before.bytes after.bytes
  appends_of chunk is_chunk appended = record {
    count = (let long = ap length appended ∙ length-append before.bytes (take (part.to - part.from) (drop part.from chunk)) in
        let some = length-take (part.to - part.from) (drop part.from chunk) in
        let rest = length-drop part.from chunk in
        let size = is_chunk.size ∙ sym is_part.size in
        let to = is_part.to in let rises = is_part.rises in omega arith);
    bytes = own old.setup.contents is_chunk.bytes;
  } where
    own : (contents : Option (List (List ℕ))) → IfSome contents (λ files. chunk ≡ chunk_bytes old.setup.chunk files part.id)
        → IfSome contents (λ files. after.bytes ≡ before.bytes ++ file_part (bytes_of files part.id.file) (part.id.number * old.setup.chunk + part.from) (part.to - part.from))
    own None bytes = tt
    own (Some files) bytes =
        let small : part.to ≤ old.setup.chunk = (let size = is_part.size in let to = is_part.to in omega arith) in
        appended ∙ ap (with_part part before.bytes) bytes
        ∙ ap (λ more. before.bytes ++ more) (part_of_chunk (bytes_of files part.id.file) (part.id.number * old.setup.chunk) old.setup.chunk part.from part.to is_part.rises small)

  pub appends : (r : Result Bool ReadFault) → PartTaken old.setup.contents part before r after → OnOk r (AppendsPart old.setup part.id part.from part.to before.bytes after.bytes)
  appends (Ok true) taken = appends_of taken.chunk (chunk_is taken.chunk taken.was) taken.bytes
  appends (Ok false) taken = appends_of taken.1.chunk (new_chunk_is taken.1.chunk taken.1.fetched) taken.1.bytes
  appends (Err fault) taken = tt
