-- When a path has a component.
use Rattle.std.proofs.Common.{◌≡◌, ℕ, ◌==◌, ◌||◌, suc, Bool, true, false, not, cond, List, [], ◌∷◌, length, filter, refl, sym, ap, ◌∙◌}
use Rattle.std.specs.List.{list_any, slice_split, onto_first}
use Rattle.std.proofs.Common.{arith}
use Rattle.std.proofs.lemmas.Bool.Decides.{nat_tests}
use Rattle.wf_core.specs.Names.{is_slash}
use Rattle.path_walk.specs.Paths.{components}

abbrev is_filled : List ℕ → Bool
is_filled piece = not (length piece == 0)

abbrev has_filled : List (List ℕ) → Bool
has_filled pieces = not (length (filter is_filled pieces) == 0)

some : (n : ℕ) → (suc n == 0) ≡ false
some n = grind (arith, nat_tests)

-- one byte more makes a piece that is not empty
filled_onto : (b : ℕ) (pieces : List (List ℕ)) → has_filled (onto_first b pieces) ≡ true
filled_onto b [] = refl
filled_onto b (piece ∷ pieces) =
    ap (λ (filled : Bool). not (length (cond filled ((b ∷ piece) ∷ filter is_filled pieces) (filter is_filled pieces)) == 0)) (ap not (some (length piece)))
    ∙ ap not (some (length (filter is_filled pieces)))

-- a path has a component exactly where it has a byte that is no slash
pub some_component : (path : List ℕ) → list_any (λ b. not (is_slash b)) path ≡ not (length (components path) == 0)
some_component [] = refl
some_component (b ∷ path) = by_slash (is_slash b) (some_component path)
  where
    by_slash : (slash : Bool) → list_any (λ c. not (is_slash c)) path ≡ has_filled (slice_split is_slash path) → not slash || list_any (λ c. not (is_slash c)) path ≡ has_filled (cond slash ([] ∷ slice_split is_slash path) (onto_first b (slice_split is_slash path)))
    by_slash true h = h
    by_slash false h = sym (filled_onto b (slice_split is_slash path))
