-- The cells of an empty file system: its backends are mounted in the root directory, and no file is there or open (own).
use Rattle.std.specs.Prelude.{ℕ, ◌+◌, Bool, List, [], ◌∷◌, ◌++◌, length, map, replicate}
use Rattle.std.specs.List.{flat_map}
use Rattle.name_store.specs.NameTrees.{opening as names_opening}
use Rattle.file_store.specs.FileGroups.{opening as group_opening}
use Rattle.file_store.specs.DescriptorMap.{opening as descriptors_opening}
use Rattle.memory_backend.specs.declared.cell.CellContents.{CellContents}
use Rattle.memory_backend.specs.declared.cell.CellContents.TheVariants.{Descriptors, Names, Files}
use Rattle.memory_backend.specs.Cells.{Cell}

-- the backend of a name, which is the one of that number, is mounted in the root
abbrev pub mounts_from : ℕ → List (List ℕ × Bool) → List (List ℕ × ℕ)
mounts_from number [] = []
mounts_from number (backend ∷ backends) = (backend.0, number) ∷ mounts_from (number + 1) backends

-- the root's names have the mounts, the others' are empty
abbrev pub opening_names : List (List ℕ × Bool) → List CellContents
opening_names backends = Names (names_opening (mounts_from 1 backends)) ∷ map (λ backend. Names (names_opening [])) backends

-- the groups of one backend
abbrev pub opening_groups : List CellContents
opening_groups = map (λ group. Files (group_opening group)) (0 ∷ 1 ∷ 2 ∷ 3 ∷ [])

abbrev pub opening_contents : List (List ℕ × Bool) → List CellContents
opening_contents backends =
    Descriptors descriptors_opening
    ∷ opening_names backends ++ flat_map (λ names. opening_groups) (opening_names backends)

-- the cells of so many backends that hold these
abbrev pub with_contents : ℕ → List CellContents → List Cell
with_contents backends all = map (λ contents. record { backends = backends; contents = contents }) all

-- the backends are the root's and these, by their names, of which each may be proxied
abbrev pub opening_cells : List (List ℕ × Bool) → List Cell
opening_cells backends = with_contents (1 + length backends) (opening_contents backends)
