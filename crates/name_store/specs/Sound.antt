-- What holds of every tree that operations lead to from an opening: it is a tree, with one root, in which each
-- directory stands once, in its parent.
use Rattle.std.specs.Prelude.{◌≡◌, ◌≢◌, ℕ, ◌<◌, zero, suc, List, length, Option, None, Some}
use Rattle.std.specs.Map.{keys_of}
use Rattle.std.specs.List.Sorted.{IsStrictlySortedBy}
use Rattle.name_store.specs.declared.operation.Node.{Node}
use Rattle.name_store.specs.declared.operation.Node.TheVariants.{Dir, Link, File, Mount}
use Rattle.name_store.specs.NameTrees.{Tree, Listing, byte_order, dir_at, entry_at, up}

-- what stands under a name in directory `id`
abbrev pub node_in : Option Listing → List ℕ → Option Node
node_in None name = None
node_in (Some directory) name = entry_at directory name

abbrev pub node_at : Tree → ℕ → List ℕ → Option Node
node_at tree id name = node_in (dir_at tree id) name

-- another name, or a name in another directory
abbrev pub AreApart : ℕ → List ℕ → ℕ → List ℕ → Type 0
AreApart id name other other_name = other ≡ id → other_name ≡ name → ⊥

-- the parent of directory `id`, where that is there
abbrev pub parent_of : Option Listing → Option ℕ
parent_of None = None
parent_of (Some directory) = Some directory.parent

abbrev pub parent_at : Tree → ℕ → Option ℕ
parent_at tree id = parent_of (dir_at tree id)

-- the id of a directory or of a link, which are counted together
abbrev pub id_of : Node → Option ℕ
id_of (Dir id) = Some id
id_of (Link id text) = Some id
id_of (File file) = None
id_of (Mount backend) = None

-- where so many steps up lead from `id`
abbrev pub climb : Tree → ℕ → ℕ → ℕ
climb tree zero id = id
climb tree (suc steps) id = climb tree steps (up tree id)

pub record IsSound (tree : Tree) : Type 0 where
  -- the root is there, and is its own parent
  pub root : parent_at tree 0 ≡ Some 0
  -- following parents from any directory ends at the root
  pub rooted : (id parent : ℕ) → parent_at tree id ≡ Some parent → climb tree (length tree) id ≡ 0
  -- each directory but the root has an entry in its parent
  pub entry : (id parent : ℕ) → parent_at tree id ≡ Some parent → id ≢ 0 → (name : List ℕ) × (node_at tree parent name ≡ Some (Dir id))
  -- each entry that is a directory names one that is there and has this one as its parent
  pub child : (id child : ℕ) (name : List ℕ) → node_at tree id name ≡ Some (Dir child) → (child ≢ 0) × (parent_at tree child ≡ Some id)
  -- each id of a link was given, and is no directory's
  pub link : (id link : ℕ) (name text : List ℕ) → node_at tree id name ≡ Some (Link link text) → (link < length tree) × (parent_at tree link ≡ None)
  -- no id stands twice
  pub once : (id first second : ℕ) (name other : List ℕ) (node twin : Node) → node_at tree first name ≡ Some node → node_at tree second other ≡ Some twin → id_of node ≡ Some id → id_of twin ≡ Some id → (first ≡ second) × (name ≡ other)
  -- a directory's names rise in the order of their bytes, so none stands twice
  pub names : (id : ℕ) (directory : Listing) → dir_at tree id ≡ Some directory → IsStrictlySortedBy byte_order (keys_of directory.entries)
