-- Laws of the definitions, which say what a user may conclude of the entries that operations make, remove and move:
-- POSIX.1-2017, XSH mkdir(), symlink(), open() with O_CREAT, unlink(), rmdir() and rename().
use Rattle.std.specs.Prelude.{◌≡◌, ◌≢◌, ◌↔◌, ℕ, Bool, List, [], ◌∷◌, ◌++◌, Option, None, Some, fold}
use Rattle.std.specs.List.Sorted.{IsStrictlySortedBy}
use Rattle.name_store.specs.declared.operation.Node.{Node}
use Rattle.name_store.specs.declared.operation.Node.TheVariants.{Dir, Link, File, Mount}
use Rattle.name_store.specs.declared.operation.NameOp.{NameOp}
use Rattle.name_store.specs.declared.operation.NameOp.TheVariants.{Makedir, Addlink, Addfile, Remfile, Remdir, Move, List as ListOp}
use Rattle.name_store.specs.declared.operation.NameAnswer.{NameAnswer}
use Rattle.name_store.specs.declared.operation.NameAnswer.TheVariants.{MadeDir, MadeLink, Done, RemovedFile, RemovedLink, Same, Over, Moved, Names}
use Rattle.name_store.specs.NameTrees.{Tree, byte_order, dir_at, empty_in, nstep, opening}
use Rattle.name_store.specs.Sound.{AreApart, IsSound, node_at, parent_at}

-- each entry of each directory stays as it was, but for that name in that directory
abbrev pub OtherEntriesStay : Tree → Tree → ℕ → List ℕ → Type 0
OtherEntriesStay old new id name = (other : ℕ) (other_name : List ℕ) → AreApart id name other other_name → node_at new other other_name ≡ node_at old other other_name

-- an entry was made
pub record EntryMade (old new : Tree) (id : ℕ) (name : List ℕ) (node : Node) : Type 0 where
  pub absent : node_at old id name ≡ None
  pub stands : node_at new id name ≡ Some node
  pub others : OtherEntriesStay old new id name

-- a directory was made: it has no entries, its parent is the one that it was made in, and the others stay
pub record DirectoryMade (old new : Tree) (id : ℕ) (name : List ℕ) (made : ℕ) : Type 0 where
  pub entry : EntryMade old new id name (Dir made)
  pub empty : dir_at new made ≡ Some (empty_in id)
  pub parents : (other : ℕ) → other ≢ made → parent_at new other ≡ parent_at old other

-- a link was made, or a file entered: no directory comes or goes, or has another parent
pub record LeafMade (old new : Tree) (id : ℕ) (name : List ℕ) (node : Node) : Type 0 where
  pub entry : EntryMade old new id name node
  pub parents : (other : ℕ) → parent_at new other ≡ parent_at old other

-- an entry was removed
pub record EntryRemoved (old new : Tree) (id : ℕ) (name : List ℕ) : Type 0 where
  pub absent : node_at new id name ≡ None
  pub others : OtherEntriesStay old new id name

-- a directory was removed: it was empty and is no more, and the others stay
pub record DirectoryRemoved (old new : Tree) (id : ℕ) (name : List ℕ) : Type 0 where
  pub child : ℕ
  pub stood : node_at old id name ≡ Some (Dir child)
  pub empty : (other : List ℕ) → node_at old child other ≡ None
  pub gone : dir_at new child ≡ None
  pub entry : EntryRemoved old new id name
  pub parents : (other : ℕ) → other ≢ child → parent_at new other ≡ parent_at old other

-- a file or a link was removed
pub record LeafRemoved (old new : Tree) (id : ℕ) (name : List ℕ) (node : Node) : Type 0 where
  pub stood : node_at old id name ≡ Some node
  pub entry : EntryRemoved old new id name
  pub parents : (other : ℕ) → parent_at new other ≡ parent_at old other

-- an entry was moved
pub record EntryMoved (old new : Tree) (from : ℕ) (name : List ℕ) (to : ℕ) (new_name : List ℕ) : Type 0 where
  pub node : Node
  -- what stood under the old name stands under the new one, and nothing under the old
  pub stood : node_at old from name ≡ Some node
  pub stands : node_at new to new_name ≡ Some node
  pub absent : node_at new from name ≡ None
  -- every other entry stays as it was
  pub others : (id : ℕ) (other : List ℕ) → AreApart from name id other → AreApart to new_name id other → node_at new id other ≡ node_at old id other
  -- a moved directory's parent is the new one
  pub parent : (child : ℕ) → node ≡ Dir child → parent_at new child ≡ Some to
  -- a directory that was replaced was empty, and is no more
  pub replaced : (child : ℕ) → node_at old to new_name ≡ Some (Dir child) → (dir_at new child ≡ None) × ((other : List ℕ) → node_at old child other ≡ None)
  -- every other directory stays, with its parent
  pub parents : (id : ℕ) → node ≢ Dir id → node_at old to new_name ≢ Some (Dir id) → parent_at new id ≡ parent_at old id

abbrev pub MakedirMakes : Type 0
MakedirMakes = (tree : Tree) (id : ℕ) (name : List ℕ) (made : ℕ) → IsSound tree → (nstep tree (Makedir id name)).answer ≡ MadeDir made → DirectoryMade tree (nstep tree (Makedir id name)).tree id name made

abbrev pub AddlinkMakes : Type 0
AddlinkMakes = (tree : Tree) (id : ℕ) (name text : List ℕ) (made : ℕ) → IsSound tree → (nstep tree (Addlink id name text)).answer ≡ MadeLink made → LeafMade tree (nstep tree (Addlink id name text)).tree id name (Link made text)

abbrev pub AddfileEnters : Type 0
AddfileEnters = (tree : Tree) (id : ℕ) (name : List ℕ) (file : ℕ) → IsSound tree → (nstep tree (Addfile id name file)).answer ≡ Done → LeafMade tree (nstep tree (Addfile id name file)).tree id name (File file)

-- what the answer says was removed, that file or some link, stood under the name and was removed
abbrev pub Removes : Tree → Tree → ℕ → List ℕ → NameAnswer → Type 0
Removes old new id name (RemovedFile file) = LeafRemoved old new id name (File file)
Removes old new id name RemovedLink = (link : ℕ) × (text : List ℕ) × LeafRemoved old new id name (Link link text)
Removes old new id name answer = Unit {0}

abbrev pub RemfileRemoves : Type 0
RemfileRemoves = (tree : Tree) (id : ℕ) (name : List ℕ) (slash : Bool) → IsSound tree → Removes tree (nstep tree (Remfile id name slash)).tree id name (nstep tree (Remfile id name slash)).answer

abbrev pub RemdirRemoves : Type 0
RemdirRemoves = (tree : Tree) (id : ℕ) (name : List ℕ) → IsSound tree → (nstep tree (Remdir id name)).answer ≡ Done → DirectoryRemoved tree (nstep tree (Remdir id name)).tree id name

-- the answer says that an entry was moved
abbrev pub SaysMoved : NameAnswer → Type 0
SaysMoved (Over file) = Unit {0}
SaysMoved Moved = Unit {0}
SaysMoved answer = ⊥

-- and says truly whether it took the place of a file
abbrev pub IsMoved : NameAnswer → Option Node → Type 0
IsMoved (Over file) over = over ≡ Some (File file)
IsMoved Moved over = (file : ℕ) → over ≢ Some (File file)
IsMoved answer over = ⊥

abbrev pub MoveMoves : Type 0
MoveMoves = (tree : Tree) (from : ℕ) (name : List ℕ) (to : ℕ) (new_name : List ℕ) (slash : Bool) → IsSound tree → SaysMoved (nstep tree (Move from name to new_name slash)).answer → IsMoved (nstep tree (Move from name to new_name slash)).answer (node_at tree to new_name) × EntryMoved tree (nstep tree (Move from name to new_name slash)).tree from name to new_name

-- `same` is answered only where both names are one entry
abbrev pub SameIsOneEntry : Type 0
SameIsOneEntry = (tree : Tree) (from : ℕ) (name : List ℕ) (to : ℕ) (new_name : List ℕ) (slash : Bool) → (nstep tree (Move from name to new_name slash)).answer ≡ Same → (from ≡ to) × (name ≡ new_name)

-- the names of a list rise in the order of their bytes, so none stands twice
abbrev pub ListsAreInOrder : Type 0
ListsAreInOrder = (tree : Tree) (id start : ℕ) (names : List (List ℕ)) → IsSound tree → (nstep tree (ListOp id start)).answer ≡ Names names → IsStrictlySortedBy byte_order names

-- the tree after operations, one after another
abbrev pub tree_after : Tree → List NameOp → Tree
tree_after tree ops = fold (λ before op. (nstep before op).tree) tree ops

-- the mounts of a tree are those of its opening, whatever was done to it
abbrev pub MountsStay : Type 0
MountsStay = (mounts : List (List ℕ × ℕ)) (ops : List NameOp) (id : ℕ) (name : List ℕ) (backend : ℕ) → node_at (tree_after (opening mounts) ops) id name ≡ Some (Mount backend) ↔ node_at (opening mounts) id name ≡ Some (Mount backend)

-- and those of an opening are the ones that it was given, in the root: of two with one name the last
pub record OpeningMounts (mounts : List (List ℕ × ℕ)) : Type 0 where
  pub none : (id : ℕ) (name : List ℕ) → node_at (opening []) id name ≡ None
  pub last : (name : List ℕ) (backend : ℕ) → node_at (opening (mounts ++ (name, backend) ∷ [])) 0 name ≡ Some (Mount backend)
  pub others : (name : List ℕ) (backend : ℕ) → OtherEntriesStay (opening mounts) (opening (mounts ++ (name, backend) ∷ [])) 0 name

abbrev pub OpeningsHaveTheirMounts : Type 0
OpeningsHaveTheirMounts = (mounts : List (List ℕ × ℕ)) → OpeningMounts mounts
