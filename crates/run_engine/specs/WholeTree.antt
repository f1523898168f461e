-- The lines of the whole tree of a store, each with where it stands.
use Rattle.std.specs.Prelude.{ℕ, List, [], ◌∷◌, drop, map, Option, None, Some}
use Rattle.std.specs.List.{flat_map}
use Rattle.name_store.specs.declared.tree_line.TreeLine.{TreeLine}
use Rattle.name_store.specs.declared.tree_line.TreeLine.TheVariants.{Mount as MountLine}
use Rattle.name_store.specs.TreeLines.{tree_lines}
use Rattle.path_walk.specs.Store.{Store, names_at}
use Rattle.trace_text.specs.SoloText.{backend_line_text}
use Rattle.run_engine.specs.declared.whole_tree.PlacedLine.{PlacedLine}

abbrev pub placed : ℕ → ℕ → TreeLine → PlacedLine
placed backend deeper line = record { backend = backend; deeper = deeper; line = line }

-- the depth of a line that is a mount, and what is mounted there
abbrev pub mount_of : TreeLine → Option (ℕ × ℕ)
mount_of (MountLine depth name backend) = Some (depth, backend)
mount_of line = None

-- what stands in a mount: its backend's tree without the root's line, which is the mount's own
abbrev pub mounted_lines : Store → Option (ℕ × ℕ) → List PlacedLine
mounted_lines store None = []
mounted_lines store (Some (depth, backend)) = map (placed backend depth) (drop 1 (tree_lines (names_at store backend)))

-- a line of the root's tree, and what stands in it where it is a mount
abbrev pub lines_from : Store → TreeLine → List PlacedLine
lines_from store line = placed 0 0 line ∷ mounted_lines store (mount_of line)

-- the lines of the whole tree
abbrev pub whole_tree : Store → List PlacedLine
whole_tree store = flat_map (lines_from store) (tree_lines (names_at store 0))

-- what is printed of a line
abbrev pub placed_text : Store → PlacedLine → List ℕ
placed_text store line = backend_line_text store line.backend line.deeper line.line
