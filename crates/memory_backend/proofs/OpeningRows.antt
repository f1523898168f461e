-- The opening cells, one after another.
use Rattle.std.proofs.Common.{◌≡◌, ℕ, ◌+◌, ◌<◌, zero, suc, Bool, List, [], ◌∷◌, ◌++◌, length, map, take, refl, sym, ap, ◌∙◌, append_assoc, arith}
use Rattle.std.specs.List.{flat_map}
use Rattle.memory_backend.specs.declared.cell.CellContents.{CellContents}
use Rattle.memory_backend.specs.Cells.{Cell}
use Rattle.memory_backend.specs.Openings.{opening_groups, with_contents}

-- one that is the same for each
pub same_more : {X Y : Type 0} (xs : List X) (y : Y) (i : ℕ) → i < length xs → map (λ (x : X). y) (take (suc i) xs) ≡ map (λ (x : X). y) (take i xs) ++ y ∷ []
same_more [] y i low = absurd (omega (arith, low))
same_more (x ∷ xs) y zero low = refl
same_more {X} {Y} (x ∷ xs) y (suc i) low = ap (λ (ys : List Y). y ∷ ys) (same_more xs y i (omega (arith, low)))

pub groups_more : (names : List CellContents) (i : ℕ) → i < length names → flat_map (λ one. opening_groups) (take (suc i) names) ≡ flat_map (λ one. opening_groups) (take i names) ++ opening_groups
groups_more [] i low = absurd (omega (arith, low))
groups_more (one ∷ names) zero low = refl
groups_more (one ∷ names) (suc i) low =
    ap (λ (cs : List CellContents). opening_groups ++ cs) (groups_more names i (omega (arith, low)))
    ∙ sym (append_assoc opening_groups (flat_map (λ one. opening_groups) (take i names)) opening_groups)

contents_join : (n : ℕ) (xs ys : List CellContents) → with_contents n (xs ++ ys) ≡ with_contents n xs ++ with_contents n ys
contents_join n [] ys = refl
contents_join n (x ∷ xs) ys = ap (λ (cs : List Cell). record { backends = n; contents = x } ∷ cs) (contents_join n xs ys)

abbrev cell_with : ℕ → CellContents → Cell
cell_with n contents = record { backends = n; contents = contents }

-- the names of one backend more
pub names_on : (before cells more : List Cell) (n m : ℕ) (root one : CellContents) (all : List (List ℕ × Bool)) (i : ℕ) → i < length all → m ≡ n
    → cells ≡ before ++ with_contents n (root ∷ map (λ backend. one) (take i all)) → more ≡ cells ++ cell_with m one ∷ [] → more ≡ before ++ with_contents n (root ∷ map (λ backend. one) (take (i + 1) all))
names_on before cells more n m root one all i low same are pushed =
    let rows : List CellContents = map (λ backend. one) (take i all) in
    let next : suc i ≡ i + 1 = omega arith in
    pushed
    ∙ ap (λ (cs : List Cell). cs ++ cell_with m one ∷ []) are
    ∙ append_assoc before (with_contents n (root ∷ rows)) (cell_with m one ∷ [])
    ∙ ap (λ (k : ℕ). before ++ (with_contents n (root ∷ rows) ++ cell_with k one ∷ [])) same
    ∙ ap (λ (cs : List Cell). before ++ cs) (sym (contents_join n (root ∷ rows) (one ∷ [])))
    ∙ ap (λ (cs : List CellContents). before ++ with_contents n (root ∷ cs)) (sym (same_more all one i low))
    ∙ ap (λ (k : ℕ). before ++ with_contents n (root ∷ map (λ backend. one) (take k all))) next

-- the groups of one backend more
pub groups_on : (cells more : List Cell) (n m : ℕ) (front names : List CellContents) (i : ℕ) → i < length names → m ≡ n
    → cells ≡ with_contents n (front ++ flat_map (λ one. opening_groups) (take i names)) → more ≡ cells ++ with_contents m opening_groups → more ≡ with_contents n (front ++ flat_map (λ one. opening_groups) (take (i + 1) names))
groups_on cells more n m front names i low same are pushed =
    let rows : List CellContents = flat_map (λ one. opening_groups) (take i names) in
    let next : suc i ≡ i + 1 = omega arith in
    pushed
    ∙ ap (λ (cs : List Cell). cs ++ with_contents m opening_groups) are
    ∙ ap (λ (k : ℕ). with_contents n (front ++ rows) ++ with_contents k opening_groups) same
    ∙ sym (contents_join n (front ++ rows) opening_groups)
    ∙ ap (with_contents n) (append_assoc front rows opening_groups)
    ∙ ap (λ (cs : List CellContents). with_contents n (front ++ cs)) (sym (groups_more names i low))
    ∙ ap (λ (k : ℕ). with_contents n (front ++ flat_map (λ one. opening_groups) (take k names))) next
