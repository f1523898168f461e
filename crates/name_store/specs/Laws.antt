-- Laws of the definitions, which say what a user may conclude from them.
use Rattle.std.specs.Prelude.{◌≡◌, ℕ, List}
use Rattle.name_store.specs.declared.operation.NameOp.{NameOp}
use Rattle.name_store.specs.declared.operation.NameAnswer.{NameAnswer}
use Rattle.name_store.specs.declared.operation.NameAnswer.TheVariants.{Gone, Absent, Found, MadeDir, MadeLink, Taken, Done, RemovedFile, RemovedLink, Same, Over, Moved, Names, Fault}
use Rattle.name_store.specs.NameTrees.{Tree, nstep, opening}
use Rattle.name_store.specs.Sound.{IsSound}
use Rattle.name_store.specs.Visits.{LinesAreEntries}

-- the tree before the first operation is sound, and each operation leaves a sound tree sound
abbrev pub OpeningsAreSound : Type 0
OpeningsAreSound = (mounts : List (List ℕ × ℕ)) → IsSound (opening mounts)

abbrev pub StepsStaySound : Type 0
StepsStaySound = (tree : Tree) (op : NameOp) → IsSound tree → IsSound (nstep tree op).tree

-- the answers after which the tree is as it was: each error, `same`, and what was only asked
abbrev pub LeavesTree : NameAnswer → Type 0
LeavesTree Gone = Unit {0}
LeavesTree Absent = Unit {0}
LeavesTree (Found node) = Unit {0}
LeavesTree (Taken node) = Unit {0}
LeavesTree Same = Unit {0}
LeavesTree (Names names) = Unit {0}
LeavesTree (Fault error) = Unit {0}
LeavesTree (MadeDir id) = ⊥
LeavesTree (MadeLink id) = ⊥
LeavesTree Done = ⊥
LeavesTree (RemovedFile file) = ⊥
LeavesTree RemovedLink = ⊥
LeavesTree (Over file) = ⊥
LeavesTree Moved = ⊥

abbrev pub RefusalsChangeNothing : Type 0
RefusalsChangeNothing = (tree : Tree) (op : NameOp) → LeavesTree (nstep tree op).answer → (nstep tree op).tree ≡ tree

-- the lines of a sound tree are of its entries, each once: so none is cut off
abbrev pub LinesNameEachOnce : Type 0
LinesNameEachOnce = (tree : Tree) → IsSound tree → LinesAreEntries tree
