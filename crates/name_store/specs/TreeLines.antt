-- The lines of a tree: from the root downwards, each directory's entries in byte order right after it.
use Rattle.std.specs.Prelude.{ℕ, ◌+◌, zero, suc, List, [], ◌∷◌, length, Option, None, Some, codes}
use Rattle.std.specs.List.{flat_map}
use Rattle.name_store.specs.declared.operation.Node.{Node}
use Rattle.name_store.specs.declared.operation.Node.TheVariants.{Dir, Link, File, Mount}
use Rattle.name_store.specs.declared.tree_line.TreeLine.{TreeLine}
use Rattle.name_store.specs.declared.tree_line.TreeLine.TheVariants.{Dir as DirLine, Link as LinkLine, File as FileLine, Mount as MountLine}
use Rattle.name_store.specs.NameTrees.{Tree, Listing, dir_at}

abbrev pub entries_in : Option Listing → List (List ℕ × Node)
entries_in None = []
entries_in (Some directory) = directory.entries

-- an entry's line
abbrev pub line_of : ℕ → List ℕ → Node → TreeLine
line_of depth name (Dir id) = DirLine depth name
line_of depth name (Link id text) = LinkLine depth name text
line_of depth name (File file) = FileLine depth name file
line_of depth name (Mount backend) = MountLine depth name backend

-- what is below an entry, as `below` gives it for each directory
abbrev pub below_node : (ℕ → List TreeLine) → Node → List TreeLine
below_node below (Dir id) = below id
below_node below (Link id text) = []
below_node below (File file) = []
below_node below (Mount backend) = []

abbrev pub entry_lines : (ℕ → List TreeLine) → ℕ → List ℕ × Node → List TreeLine
entry_lines below depth (name, node) = line_of depth name node ∷ below_node below node

-- the lines of what a directory at `depth` contains, at most so many levels of it
abbrev pub lines_below : ℕ → Tree → ℕ → ℕ → List TreeLine
lines_below zero tree depth id = []
lines_below (suc levels) tree depth id = flat_map (entry_lines (lines_below levels tree (depth + 1)) (depth + 1)) (entries_in (dir_at tree id))

-- all lines: no tree has more levels than ids
abbrev pub tree_lines : Tree → List TreeLine
tree_lines tree = DirLine 0 (codes "/") ∷ lines_below (length tree) tree 0 0
