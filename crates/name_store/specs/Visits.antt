-- Which entries the lines of a tree are of: the way down that prints them, with the place of each.
use Rattle.std.specs.Prelude.{◌≡◌, ℕ, ◌+◌, ◌==◌, ◌&&◌, nat_eq, zero, suc, Bool, List, [], ◌∷◌, length, map, codes, count_by, All, Some}
use Rattle.std.specs.List.{flat_map}
use Rattle.std.specs.Cmp.Lexicographic.{pointwise}
use Rattle.name_store.specs.declared.operation.Node.{Node}
use Rattle.name_store.specs.declared.operation.Node.TheVariants.{Dir, Link, File, Mount}
use Rattle.name_store.specs.declared.tree_line.TreeLine.{TreeLine}
use Rattle.name_store.specs.declared.tree_line.TreeLine.TheVariants.{Dir as DirLine}
use Rattle.name_store.specs.NameTrees.{Tree, dir_at}
use Rattle.name_store.specs.Sound.{node_at}
use Rattle.name_store.specs.TreeLines.{entries_in, line_of, tree_lines}

-- an entry that is printed: its depth, the directory that it stands in, its name, and what it is
pub record Visit : Type 0 where
  pub depth : ℕ
  pub id : ℕ
  pub name : List ℕ
  pub node : Node

-- what is visited below a node
abbrev pub visits_under : (ℕ → List Visit) → Node → List Visit
visits_under below (Dir id) = below id
visits_under below (Link id text) = []
visits_under below (File file) = []
visits_under below (Mount backend) = []

abbrev pub entry_visits : (ℕ → List Visit) → ℕ → ℕ → List ℕ × Node → List Visit
entry_visits below depth id (name, node) = (record { depth = depth; id = id; name = name; node = node }) ∷ visits_under below node

-- the entries in and below a directory at `depth`, at most so many levels of them
abbrev pub visits_below : ℕ → Tree → ℕ → ℕ → List Visit
visits_below zero tree depth id = []
visits_below (suc levels) tree depth id = flat_map (entry_visits (visits_below levels tree (depth + 1)) (depth + 1) id) (entries_in (dir_at tree id))

abbrev pub visits : Tree → List Visit
visits tree = visits_below (length tree) tree 0 0

abbrev pub line_at : Visit → TreeLine
line_at visit = line_of visit.depth visit.name visit.node

-- the visit is of the entry of that name in that directory
abbrev pub is_visit_of : ℕ → List ℕ → Visit → Bool
is_visit_of id name visit = visit.id == id && pointwise nat_eq visit.name name

-- the lines of a tree are those of some visits, each of an entry, and each entry has one visit
pub record LinesAreEntries (tree : Tree) : Type 0 where
  pub lines : tree_lines tree ≡ DirLine 0 (codes "/") ∷ map line_at (visits tree)
  pub stand : All (λ visit. node_at tree visit.id visit.name ≡ Some visit.node) (visits tree)
  pub once : (id : ℕ) (name : List ℕ) (node : Node) → node_at tree id name ≡ Some node → count_by (is_visit_of id name) (visits tree) ≡ 1
