use Rattle.std.proofs.Common.{◌≡◌, ◌+◌, ◌∷◌, ◌++◌, [], length, take}
use Rattle.std.specs.List.{flat_map}
use Rattle.file_store.specs.DescriptorMap.{opening as descriptors_opening}
use Rattle.memory_backend.specs.declared.cell.CellContents.TheVariants.{Descriptors}
use Rattle.memory_backend.specs.Openings.{opening_groups, opening_names, with_contents}
use Rattle.memory_backend.proofs.opening.opening_cells.Given as goal

-- the descriptors, all names, and the groups of the backends so far
abbrev pub invariant-loop : goal.invariant-loop
invariant-loop l = l.cells.items ≡ with_contents (1 + length l.backends) (Descriptors descriptors_opening ∷ opening_names l.backends ++ flat_map (λ names. opening_groups) (take l.counter (opening_names l.backends)))
