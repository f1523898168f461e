-- The cells of an empty file system are those of a store.
use Rattle.std.proofs.Common.{◌≡◌, ℕ, ◌+◌, ◌*◌, ◌<◌, ◌≤◌, zero, suc, Bool, List, [], ◌∷◌, ◌++◌, length, map, Option, None, Some, slice_get, unwrap_or, refl, sym, ap, subst, ◌∙◌, arith, length-append}
use Rattle.std.proofs.lemmas.List.{length-map}
use Rattle.std.specs.List.{flat_map}
use mathlib.Core.Option.{some}
use lib.ListN.{get_elem?}
use Rattle.wf_core.specs.Limits.{group_count}
use Rattle.name_store.specs.NameTrees.{opening as names_opening}
use Rattle.file_store.specs.FileGroups.{Group, opening as group_opening}
use Rattle.path_walk.specs.declared.step.CellId.{CellId}
use Rattle.path_walk.specs.declared.step.CellId.TheVariants as cell
use Rattle.path_walk.specs.Store.{Backend, Store, backend_at, group_at, names_at, opening_backend}
use Rattle.memory_backend.specs.declared.cell.CellContents.{CellContents}
use Rattle.memory_backend.specs.declared.cell.CellContents.TheVariants.{Descriptors, Names, Files}
use Rattle.memory_backend.specs.CellNumbers.{AreCellsOf, IsCellIn, cell_backends_max, cell_of, cells_of, kind_of_id, part_of_id}
use Rattle.memory_backend.specs.Cells.{Cell, cell_kind, part_of}
use Rattle.memory_backend.specs.Laws.{cells_in, opening_store_of}
use Rattle.memory_backend.specs.Openings.{mounts_from, opening_cells, opening_contents, opening_groups, opening_names, with_contents}
use Rattle.memory_backend.specs.Stores.{IsStoreOf, contents_at}

-- a list behind another
front : {X : Type 0} (xs ys : List X) (n : ℕ) → n < length xs → slice_get (xs ++ ys) n ≡ slice_get xs n
front [] ys n low = absurd (omega (arith, low))
front (x ∷ xs) ys zero low = refl
front (x ∷ xs) ys (suc n) low = front xs ys n (omega (arith, low))

behind : {X : Type 0} (xs ys : List X) (n : ℕ) → slice_get (xs ++ ys) (length xs + n) ≡ slice_get ys n
behind [] ys n = let none : 0 + n ≡ n = omega arith in ap (slice_get ys) none
behind (x ∷ xs) ys n = let more : length (x ∷ xs) + n ≡ suc (length xs + n) = omega arith in ap (slice_get ((x ∷ xs) ++ ys)) more ∙ behind xs ys n

all_same : {X Y : Type 0} (xs : List X) (y : Y) (n : ℕ) → n < length xs → slice_get (map (λ (x : X). y) xs) n ≡ Some y
all_same [] y n low = absurd (omega (arith, low))
all_same (x ∷ xs) y zero low = refl
all_same (x ∷ xs) y (suc n) low = all_same xs y n (omega (arith, low))

-- the group of a number, in a row of the groups of each backend
group_of : (g : ℕ) → g < group_count → slice_get opening_groups g ≡ Some (Files (group_opening g))
group_of zero low = refl
group_of (suc zero) low = refl
group_of (suc (suc zero)) low = refl
group_of (suc (suc (suc zero))) low = refl
group_of (suc (suc (suc (suc g)))) low = absurd (omega (arith, low))

in_groups : (names : List CellContents) (k g : ℕ) → k < length names → g < group_count → slice_get (flat_map (λ one. opening_groups) names) (group_count * k + g) ≡ Some (Files (group_opening g))
in_groups [] k g low few = absurd (omega (arith, low))
in_groups (one ∷ names) zero g low few =
    let at : group_count * 0 + g ≡ g = omega arith in
    ap (slice_get (opening_groups ++ flat_map (λ one. opening_groups) names)) at
    ∙ front opening_groups (flat_map (λ one. opening_groups) names) g few ∙ group_of g few
in_groups (one ∷ names) (suc k) g low few =
    let at : group_count * suc k + g ≡ length opening_groups + (group_count * k + g) = omega arith in
    ap (slice_get (opening_groups ++ flat_map (λ one. opening_groups) names)) at
    ∙ behind opening_groups (flat_map (λ one. opening_groups) names) (group_count * k + g)
    ∙ in_groups names k g (omega (arith, low)) few

next_is : (n : ℕ) → suc n ≡ 1 + n
next_is n = omega arith

pub length_names : (backends : List (List ℕ × Bool)) → length (opening_names backends) ≡ 1 + length backends
length_names backends = ap suc (length-map backends (λ (backend : List ℕ × Bool). Names (names_opening []))) ∙ next_is (length backends)

length_groups : (names : List CellContents) → length (flat_map (λ one. opening_groups) names) ≡ group_count * length names
length_groups [] = refl
length_groups (one ∷ names) =
    let rest = length_groups names in
    let more = length-append opening_groups (flat_map (λ one. opening_groups) names) in
    omega (arith, rest, more)

-- each backend of the store
groups_at : (backends : List (List ℕ × Bool)) (k : ℕ) → k < 1 + length backends → (backend_at (opening_store_of backends) k).groups ≡ map group_opening (0 ∷ 1 ∷ 2 ∷ 3 ∷ [])
groups_at backends zero low = refl
groups_at backends (suc k) low = ap (λ (o : Option Backend). (unwrap_or o (record { names = []; groups = [] })).groups) (all_same backends (opening_backend []) k (omega (arith, low)))

group_there : (backends : List (List ℕ × Bool)) (k g : ℕ) → k < 1 + length backends → g < group_count → group_at (opening_store_of backends) k g ≡ group_opening g
group_there backends k g low few = ap (λ (gs : List Group). unwrap_or (slice_get gs g) (group_opening g)) (groups_at backends k low) ∙ is g few where
  is : (g : ℕ) → g < group_count → unwrap_or (slice_get (map group_opening (0 ∷ 1 ∷ 2 ∷ 3 ∷ [])) g) (group_opening g) ≡ group_opening g
  is zero few = refl
  is (suc zero) few = refl
  is (suc (suc zero)) few = refl
  is (suc (suc (suc zero))) few = refl
  is (suc (suc (suc (suc g)))) few = absurd (omega (arith, few))

names_there : (backends : List (List ℕ × Bool)) (k : ℕ) → k < 1 + length backends → slice_get (opening_names backends) k ≡ Some (Names (names_at (opening_store_of backends) k))
names_there backends zero low = refl
names_there backends (suc k) low =
    let few : k < length backends = omega (arith, low) in
    all_same backends (Names (names_opening [])) k few
    ∙ sym (ap (λ (o : Option Backend). Some (Names (unwrap_or o (record { names = []; groups = [] })).names)) (all_same backends (opening_backend []) k few))

abbrev or_none : Option CellContents → CellContents
or_none found = unwrap_or found (Files (group_opening 0))

there : (backends : List (List ℕ × Bool)) (id : CellId) → IsCellIn (1 + length backends) id → cells_in (opening_contents backends) (cell_of (1 + length backends) id) ≡ contents_at (opening_store_of backends) id
there backends cell.Descriptors within = refl
there backends (cell.Names k) within =
    let low : k < length (opening_names backends) = subst (λ (n : ℕ). k < n) (sym (length_names backends)) within in
    ap (cells_in (opening_contents backends)) (sym (next_is k))
    ∙ ap or_none (front (opening_names backends) (flat_map (λ one. opening_groups) (opening_names backends)) k low ∙ names_there backends k within)
there backends (cell.Files k g) within =
    let names = length_names backends in
    let low : k < length (opening_names backends) = subst (λ (n : ℕ). k < n) (sym names) within.0 in
    let at : cell_of (1 + length backends) (cell.Files k g) ≡ suc (length (opening_names backends) + (group_count * k + g)) = omega (arith, names) in
    ap (cells_in (opening_contents backends)) at
    ∙ ap or_none (
    behind (opening_names backends) (flat_map (λ one. opening_groups) (opening_names backends)) (group_count * k + g)
    ∙ in_groups (opening_names backends) k g low within.1
    )
    ∙ ap Files (sym (group_there backends k g within.0 within.1))

pub opening_is : (backends : List (List ℕ × Bool)) → IsStoreOf (1 + length backends) (cells_in (opening_contents backends)) (opening_store_of backends)
opening_is backends = record {
  count = ap suc (length-map backends (λ (backend : List ℕ × Bool). opening_backend [])) ∙ next_is (length backends);
  groups = λ k low. ap (λ (gs : List Group). length gs) (groups_at backends k low);
  each = there backends;
}

-- a cell of the list holds what stands there
held : (backends : ℕ) (all : List CellContents) (n : ℕ) (one : Cell) → get_elem? (with_contents backends all) n ≡ some one → one ≡ record { backends = backends; contents = cells_in all n }
held backends [] n one here = cc
held backends (contents ∷ all) zero one here = cc
held backends (contents ∷ all) (suc n) one here = held backends all n one here

part_there : (store : Store) (id : CellId) → part_of (contents_at store id) ≡ part_of_id id
part_there store cell.Descriptors = refl
part_there store (cell.Names k) = refl
part_there store (cell.Files k g) = refl

length_cells : (backends : List (List ℕ × Bool)) → length (opening_cells backends) ≡ cells_of (1 + length backends)
length_cells backends =
    let names = length_names backends in
    let groups = length_groups (opening_names backends) in
    let both = length-append (opening_names backends) (flat_map (λ one. opening_groups) (opening_names backends)) in
    length-map (opening_contents backends) _ ∙ omega (arith, names, groups, both)

pub are_cells : (backends : List (List ℕ × Bool)) → 1 + length backends ≤ cell_backends_max → AreCellsOf (1 + length backends) (opening_cells backends)
are_cells backends few = record {
  root = omega arith;
  few = few;
  count = length_cells backends;
  kinds = λ id one within here.
      let is = held (1 + length backends) (opening_contents backends) (cell_of (1 + length backends) id) one here in
      ap cell_kind is ∙ ap (λ (contents : CellContents). cell_kind (record { backends = 1 + length backends; contents = contents })) (there backends id within)
      ∙ ap (λ (part : _). let kind : _ = kind_of_id (1 + length backends) id in record kind { part = part }) (part_there (opening_store_of backends) id);
}
