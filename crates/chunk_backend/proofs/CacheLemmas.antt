-- The cache as `lru` shows it, and the chunks that it lists.
use Rattle.std.proofs.Common.{◌≡◌, ℕ, zero, suc, ◌-◌, ◌<◌, true, false, cond, ◌||◌, List, [], ◌∷◌, take, Option, None, Some, is_some, refl, sym, ap, ◌∙◌, arith}
use Rattle.std.specs.Option.{option_map_or}
use Rattle.std.specs.Map.{keys_of, lookup, lookup_entry, remove_entry}
use Rattle.std.proofs.lemmas.List.{take-map}
use Rattle.lru.specs.LruCache.{LruCache, promoted, put_entries}
use Rattle.chunk_backend.specs.declared.chunk.ChunkId.{ChunkId}
use Rattle.chunk_backend.specs.CacheFold.{is_same, is_listed, without}
use Rattle.chunk_backend.proofs.IdLemmas.{same_ids}

abbrev Entries : Type 0
Entries = List (ChunkId × List ℕ)

module _ (id : ChunkId) where
  -- a chunk is listed where the cache has it
  pub listed : (entries : Entries) → is_listed id (keys_of entries) ≡ is_some (lookup (is_same id) entries)
  listed [] = refl
  listed (e ∷ entries) = elim (is_same id e.0) as (λ y. (y || is_listed id (keys_of entries)) ≡ is_some (cond y (Some e.1) (lookup (is_same id) entries))) [
    | true ↦ refl
    | false ↦ listed entries
  ]

  abbrev front_keys : Option (ChunkId × List ℕ) → Entries → List ChunkId
  front_keys entry entries = keys_of (option_map_or (λ e. e ∷ remove_entry (is_same id) entries) entry entries)

  keys_removed : (entries : Entries) → keys_of (remove_entry (is_same id) entries) ≡ without id (keys_of entries)
  keys_removed [] = refl
  keys_removed (e ∷ entries) = elim (is_same id e.0) as (λ y. keys_of (cond y entries (e ∷ remove_entry (is_same id) entries)) ≡ cond y (keys_of entries) (e.0 ∷ without id (keys_of entries))) [
    | true ↦ refl
    | false ↦ ap (λ ids. e.0 ∷ ids) (keys_removed entries)
  ]

  -- the entry that is found is of that chunk
  entry_of : (entries : Entries) → is_listed id (keys_of entries) ≡ true → (chunk : List ℕ) × (lookup_entry (is_same id) entries ≡ Some (id, chunk))
  entry_of [] h = absurd cc
  entry_of (e ∷ entries) h = (elim (is_same id e.0) as (λ y. is_same id e.0 ≡ y → (chunk : List ℕ) × (cond y (Some e) (lookup_entry (is_same id) entries) ≡ Some (id, chunk))) [
    | true ↦ λ t. (e.1, ap (λ (other : ChunkId). Some (other, e.1)) (sym (same_ids id e.0 t)))
    | false ↦ λ t. entry_of entries (rw t at h)
  ]) refl

  pub keys_hit : (entries : Entries) → is_listed id (keys_of entries) ≡ true → keys_of (promoted (is_same id) entries) ≡ id ∷ without id (keys_of entries)
  keys_hit entries h = let found = entry_of entries h in
      ap (λ o. front_keys o entries) found.1 ∙ ap (λ ids. id ∷ ids) (keys_removed entries)

  no_entry : (entries : Entries) → is_listed id (keys_of entries) ≡ false → lookup_entry (is_same id) entries ≡ None
  no_entry [] h = refl
  no_entry (e ∷ entries) h = (elim (is_same id e.0) as (λ y. is_same id e.0 ≡ y → cond y (Some e) (lookup_entry (is_same id) entries) ≡ None) [
    | true ↦ λ t. let h' = rw t at h in absurd cc
    | false ↦ λ t. no_entry entries (rw t at h)
  ]) refl

  module _ (cache : LruCache ChunkId (List ℕ)) (chunk : List ℕ) where
    abbrev put_from : Option (ChunkId × List ℕ) → Entries
    put_from o = option_map_or (λ e. (e.0, chunk) ∷ remove_entry (is_same id) cache.entries) o ((id, chunk) ∷ take (cache.cap - 1) cache.entries)

    pub put_missed : is_listed id (keys_of cache.entries) ≡ false → put_entries is_same cache id chunk ≡ (id, chunk) ∷ take (cache.cap - 1) cache.entries
    put_missed h = ap put_from (no_entry cache.entries h)

    pub keys_miss : is_listed id (keys_of cache.entries) ≡ false → 0 < cache.cap → keys_of (put_entries is_same cache id chunk) ≡ take cache.cap (id ∷ keys_of cache.entries)
    keys_miss h positive =
        ap keys_of (put_missed h) ∙ ap (λ ids. id ∷ ids) (sym (take-map (λ (e : ChunkId × List ℕ). e.0) (cache.cap - 1) cache.entries))
        ∙ take_cons cache.cap positive
      where
        take_cons : (n : ℕ) → 0 < n → id ∷ take (n - 1) (keys_of cache.entries) ≡ take n (id ∷ keys_of cache.entries)
        take_cons zero p = absurd (omega arith)
        take_cons (suc n) p = ap (λ m. id ∷ take m (keys_of cache.entries)) (omega arith)
