-- Laws of the definitions, which say what a user may conclude of ids and of the way up from a directory.
use Rattle.std.specs.Prelude.{◌≡◌, ◌≢◌, ◌↔◌, ℕ, ◌<◌, zero, suc, true, List, length, Option, None, Some}
use Rattle.name_store.specs.declared.operation.Node.{Node}
use Rattle.name_store.specs.declared.operation.NameOp.{NameOp}
use Rattle.name_store.specs.declared.operation.NameAnswer.{NameAnswer}
use Rattle.name_store.specs.declared.operation.NameAnswer.TheVariants.{MadeDir, MadeLink}
use Rattle.name_store.specs.NameTrees.{Tree, dir_at, is_inside, nstep}
use Rattle.name_store.specs.Sound.{IsSound, id_of, node_at, parent_at}
use Rattle.name_store.specs.EntryLaws.{tree_after}

-- the id of the directory or link that an answer says was made
abbrev pub made_id : NameAnswer → Option ℕ
made_id (MadeDir id) = Some id
made_id (MadeLink id) = Some id
made_id answer = None

abbrev pub Makes : Tree → NameOp → ℕ → Type 0
Makes tree op id = made_id (nstep tree op).answer ≡ Some id

-- an id that is given is new: no directory had it, and no entry named it
pub record IsNewId (tree : Tree) (id : ℕ) : Type 0 where
  pub directory : dir_at tree id ≡ None
  pub entries : (place : ℕ) (name : List ℕ) (node : Node) → node_at tree place name ≡ Some node → id_of node ≢ Some id

abbrev pub IdsAreNew : Type 0
IdsAreNew = (tree : Tree) (op : NameOp) (id : ℕ) → IsSound tree → Makes tree op id → IsNewId tree id

-- and none is given twice: one that is given later, whatever was done between, is greater
abbrev pub IdsRise : Type 0
IdsRise = (tree : Tree) (earlier later : NameOp) (between : List NameOp) (id other : ℕ) → IsSound tree → Makes tree earlier id → Makes (tree_after (nstep tree earlier).tree between) later other → id < other

-- so many steps up, from a directory to its parent, lead from one directory to another
abbrev pub ClimbsIn : ℕ → Tree → ℕ → ℕ → Type 0
ClimbsIn zero tree id top = id ≡ top
ClimbsIn (suc steps) tree id top = (parent : ℕ) × (parent_at tree id ≡ Some parent) × ClimbsIn steps tree parent top

abbrev pub Climbs : Tree → ℕ → ℕ → Type 0
Climbs tree id top = (steps : ℕ) × ClimbsIn steps tree id top

-- a directory is inside another, as `move` tests it, exactly where climbing leads from the one to the other
abbrev pub InsideIsClimbing : Type 0
InsideIsClimbing = (tree : Tree) (top id parent : ℕ) → IsSound tree → parent_at tree id ≡ Some parent → (is_inside (length tree) tree top id ≡ true) ↔ Climbs tree id top
