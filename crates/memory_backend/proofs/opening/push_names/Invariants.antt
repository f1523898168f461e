use Rattle.std.proofs.Common.{◌≡◌, ◌+◌, ◌∷◌, ◌++◌, [], length, map, take}
use Rattle.name_store.specs.NameTrees.{opening as names_opening}
use Rattle.memory_backend.specs.declared.cell.CellContents.TheVariants.{Names}
use Rattle.memory_backend.specs.Openings.{mounts_from, with_contents}
use Rattle.memory_backend.proofs.opening.push_names.Given as goal

-- the root's names, and those of the backends so far
abbrev pub invariant-loop : goal.invariant-loop
invariant-loop l = l.cells.items ≡ l.fn.cells.items ++ with_contents (1 + length l.backends) (Names (names_opening (mounts_from 1 l.backends)) ∷ map (λ backend. Names (names_opening [])) (take l.index l.backends))
