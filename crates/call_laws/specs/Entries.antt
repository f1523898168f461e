-- Which entry of which directory a path names, and where a path and its prefix lead (XBD 4.13).
use Rattle.std.specs.Prelude.{◌≡◌, ℕ, ◌%◌, suc, List, Option, None, Some, Result, Ok, if◌then◌else◌, ◌==◌, ◌||◌}
use Rattle.std.specs.Map.{keys_of}
use Rattle.std.specs.List.Sorted.{IsStrictlySortedBy}
use Rattle.wf_core.specs.Limits.{group_count, path_names_max, symloop_max}
use Rattle.wf_core.specs.declared.errno.Errno.{Errno}
use Rattle.name_store.specs.declared.operation.Node.{Node}
use Rattle.name_store.specs.declared.operation.Node.TheVariants.{File as FileNode}
use Rattle.name_store.specs.NameTrees.{Listing, byte_order, dir_at}
use Rattle.name_store.specs.Sound.{node_at}
use Rattle.file_store.specs.declared.file_operation.FileOp.TheVariants.{Unlinked}
use Rattle.path_walk.specs.declared.part.Part.TheVariants.{Down}
use Rattle.path_walk.specs.declared.route.Manner.{Manner}
use Rattle.path_walk.specs.declared.route.Manner.TheVariants.{OnWay}
use Rattle.path_walk.specs.declared.route.Spot.{Spot}
use Rattle.path_walk.specs.declared.route.End.{End}
use Rattle.path_walk.specs.declared.route.End.TheVariants.{Directory}
use Rattle.path_walk.specs.Paths.{parts_of, last_of, front_of, slash_of, path_fault, is_absolute}
use Rattle.path_walk.specs.PathMeaning.{station, root_of, resolve}
use Rattle.path_walk.specs.Store.{Store, names_at, files_step}

-- the directory, where it is there
abbrev pub directory_at : Store → Spot → Option Listing
directory_at store here = dir_at (names_at store here.backend) here.directory

-- what stands under a name in a directory
abbrev pub node_of : Store → Spot → List ℕ → Option Node
node_of store here name = node_at (names_at store here.backend) here.directory name

-- the current directory
abbrev pub current_spot : Store → Spot
current_spot store = record { backend = store.descriptors.current.backend; directory = store.descriptors.current.dir }

-- where a path starts, of a call that names no base: in the root, or in version 2 in the current directory
abbrev pub path_spot : ℕ → Store → List ℕ → Spot
path_spot version store path = if version == 1 || is_absolute path then root_of 0 else current_spot store

-- where a whole path leads
abbrev pub path_end : ℕ → Store → Manner → List ℕ → Result End Errno
path_end version store manner path = resolve store path_names_max (parts_of path) manner (slash_of path) symloop_max (path_spot version store path)

-- where a path's prefix leads, which is all of it before its last component
abbrev pub prefix_end : ℕ → Store → List ℕ → Result End Errno
prefix_end version store path = resolve store path_names_max (front_of (parts_of path)) OnWay (slash_of path) symloop_max (path_spot version store path)

-- the path's last component is that name, and its prefix leads to that directory, with a name left to take
pub record NamesEntry (version : ℕ) (store : Store) (path : List ℕ) (here : Spot) (name : List ℕ) : Type 0 where
  pub walked : path_fault path ≡ None
  pub last : last_of (parts_of path) ≡ Some (Down name)
  pub left : ℕ
  pub links : ℕ
  pub prefix : prefix_end version store path ≡ Ok (Directory (station (suc left) links here))

-- the names of a directory rise in the order of their bytes, so none stands twice
abbrev pub HasNamesInOrder : Store → Spot → Type 0
HasNamesInOrder store here = (directory : Listing) → directory_at store here ≡ Some directory → IsStrictlySortedBy byte_order (keys_of directory.entries)

-- the store in which a file of a backend has lost its entry; another node leaves it as it was
abbrev pub after_loss : Store → ℕ → Option Node → Store
after_loss store backend (Some (FileNode file)) = (files_step store backend (file % group_count) (Unlinked file)).store
after_loss store backend other = store
