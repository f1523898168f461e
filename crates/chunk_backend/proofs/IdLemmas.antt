-- Lists of chunks: what is in them after one came first.
use Rattle.std.proofs.Common.{◌≡◌, ℕ, zero, suc, Bool, true, false, cond, ◌&&◌, List, [], ◌∷◌, length, take, nat_eq, refl, sym, ap, ◌∙◌, subst}
use Rattle.std.specs.List.{AllByRecursion, IsDistinct}
use Rattle.std.proofs.lemmas.Bool.{eqb-true}
use Rattle.chunk_backend.specs.declared.chunk.ChunkId.{ChunkId}
use Rattle.chunk_backend.specs.CacheFold.{is_same, is_listed, without}
use Rattle.chunk_backend.specs.Chunks.{chunk_id}

and_parts : (a b : Bool) → (a && b) ≡ true → (a ≡ true) × (b ≡ true)
and_parts true b h = (refl, h)
and_parts false b h = absurd cc

-- chunks of the same file and number are one
pub same_ids : (a b : ChunkId) → is_same a b ≡ true → a ≡ b
same_ids a b h =
    let both = and_parts (nat_eq a.file b.file) (nat_eq a.number b.number) h in
    let file = eqb-true a.file b.file both.0 in
    let number = eqb-true a.number b.number both.1 in
    ap (λ n. chunk_id n a.number) file ∙ ap (λ n. chunk_id b.file n) number

abbrev Misses : ChunkId → List ChunkId → Type 0
Misses id ids = AllByRecursion (λ other. is_same id other ≡ false) ids

-- a chunk that is not listed is none of those
pub misses : (id : ChunkId) (ids : List ChunkId) → is_listed id ids ≡ false → Misses id ids
misses id [] h = tt
misses id (x ∷ ids) h = (elim (is_same id x) as (λ y. is_same id x ≡ y → Misses id (x ∷ ids)) [
  | true ↦ λ t. let h' = rw t at h in absurd cc
  | false ↦ λ t. (t, misses id ids (rw t at h))
]) refl

all_without : (P : ChunkId → Type 0) (id : ChunkId) (ids : List ChunkId) → AllByRecursion P ids → AllByRecursion P (without id ids)
all_without P id [] h = tt
all_without P id (x ∷ ids) h = elim (is_same id x) as (λ y. AllByRecursion P (cond y ids (x ∷ without id ids))) [
  | true ↦ h.1
  | false ↦ (h.0, all_without P id ids h.1)
]

all_take : (P : ChunkId → Type 0) (n : ℕ) (ids : List ChunkId) → AllByRecursion P ids → AllByRecursion P (take n ids)
all_take P zero ids h = tt
all_take P (suc n) [] h = tt
all_take P (suc n) (x ∷ ids) h = (h.0, all_take P n ids h.1)

-- no chunk is listed twice once one came first
misses_without : (id : ChunkId) (ids : List ChunkId) → IsDistinct is_same ids → Misses id (without id ids)
unfolding IsDistinct
misses_without id [] h = tt
misses_without id (x ∷ ids) h = (elim (is_same id x) as (λ y. is_same id x ≡ y → Misses id (cond y ids (x ∷ without id ids))) [
  | true ↦ λ t. subst (λ other. Misses other ids) (sym (same_ids id x t)) h.0
  | false ↦ λ t. (t, misses_without id ids h.1)
]) refl

distinct_without : (id : ChunkId) (ids : List ChunkId) → IsDistinct is_same ids → IsDistinct is_same (without id ids)
unfolding IsDistinct
distinct_without id [] h = tt
distinct_without id (x ∷ ids) h = elim (is_same id x) as (λ y. IsDistinct is_same (cond y ids (x ∷ without id ids))) [
  | true ↦ h.1
  | false ↦ (all_without (λ other. is_same x other ≡ false) id ids h.0, distinct_without id ids h.1)
]

pub distinct_hit : (id : ChunkId) (ids : List ChunkId) → IsDistinct is_same ids → IsDistinct is_same (id ∷ without id ids)
unfolding IsDistinct
distinct_hit id ids h = (misses_without id ids h, distinct_without id ids h)

distinct_take : (n : ℕ) (ids : List ChunkId) → IsDistinct is_same ids → IsDistinct is_same (take n ids)
unfolding IsDistinct
distinct_take zero ids h = tt
distinct_take (suc n) [] h = tt
distinct_take (suc n) (x ∷ ids) h = (all_take (λ other. is_same x other ≡ false) n ids h.0, distinct_take n ids h.1)

pub distinct_miss : (n : ℕ) (id : ChunkId) (ids : List ChunkId) → is_listed id ids ≡ false → IsDistinct is_same ids → IsDistinct is_same (id ∷ take n ids)
unfolding IsDistinct
distinct_miss n id ids missed h = (all_take (λ other. is_same id other ≡ false) n ids (misses id ids missed), distinct_take n ids h)

-- one that is listed comes first in as many
pub length_hit : (id : ChunkId) (ids : List ChunkId) → is_listed id ids ≡ true → length (id ∷ without id ids) ≡ length ids
length_hit id [] h = absurd cc
length_hit id (x ∷ ids) h = (elim (is_same id x) as (λ y. is_same id x ≡ y → length (id ∷ cond y ids (x ∷ without id ids)) ≡ length (x ∷ ids)) [
  | true ↦ λ t. refl
  | false ↦ λ t. ap suc (length_hit id ids (rw t at h))
]) refl
