-- What a user may conclude of `open` with `creat` and `excl`: POSIX.1-2017, XSH open(), where the test that nothing is
-- there and the making are one act to all others that do the same.
use Rattle.std.specs.Prelude.{◌≡◌, ◌⊎◌, ℕ, true, false, List, [], ◌∷◌, Result, Ok, Some}
use Rattle.std.specs.declared.alloc.AllocError.{AllocError}
use Rattle.wf_core.specs.declared.errno.Errno.TheVariants.{Eexist}
use Rattle.name_store.specs.declared.operation.Node.{Node}
use Rattle.name_store.specs.declared.operation.NameOp.{NameOp}
use Rattle.name_store.specs.declared.operation.NameOp.TheVariants.{Addfile, Remfile, Remdir, Move}
use Rattle.name_store.specs.declared.operation.NameAnswer.TheVariants.{Done, Taken}
use Rattle.name_store.specs.NameTrees.{nstep}
use Rattle.name_store.specs.Sound.{AreApart, IsSound}
use Rattle.path_walk.specs.declared.route.Spot.{Spot}
use Rattle.path_walk.specs.declared.open_request.OpenFlags.{OpenFlags}
use Rattle.path_walk.specs.declared.step.CellId.{CellId}
use Rattle.path_walk.specs.declared.step.CellId.TheVariants.{Names as NamesCell}
use Rattle.path_walk.specs.declared.step.StoreOp.{StoreOp}
use Rattle.path_walk.specs.declared.step.StoreOp.TheVariants.{Names as NamesOp}
use Rattle.path_walk.specs.declared.step.StepAnswer.{StepAnswer}
use Rattle.path_walk.specs.declared.call.Base.{Base}
use Rattle.path_walk.specs.declared.call.Call.TheVariants.{Open, Openat}
use Rattle.path_walk.specs.declared.call.Reply.TheVariants.{Fault, Fd}
use Rattle.path_walk.specs.Store.{Store, cstep, names_at}
use Rattle.path_walk.specs.Programs.{Program, Step, Takes, replied}
use Rattle.path_walk.specs.Paths.{slash_of}
use Rattle.path_walk.specs.OpenPlan.{is_exclusive}
use Rattle.path_walk.specs.Posix.{posix, program}
use Rattle.call_laws.specs.DebtLaws.{is_entered}
use Rattle.call_laws.specs.OpenLaws.{ReachesEntry}

-- What such a call did.

-- a file got its entry by the step
abbrev pub EntersBy : StoreOp → Result StepAnswer AllocError → Type 0
EntersBy (NamesOp (Addfile id name file)) (Ok told) = is_entered told ≡ true
EntersBy op outcome = ⊥

abbrev pub Enters : List Step → Type 0
Enters [] = ⊥
Enters (step ∷ steps) = EntersBy step.op step.outcome ⊎ Enters steps

-- whatever it was told, a program with `creat` and `excl` that replies a number has given a file its entry by a step of its own
abbrev pub MakesItself : OpenFlags → Program → Type 0
MakesItself flags p = (steps : List Step) (number : ℕ) → is_exclusive flags ≡ true → Takes p steps (Fd number) → Enters steps

pub record ExclusivesMake : Type 0 where
  pub opens : (version : ℕ) (path : List ℕ) (flags : OpenFlags) → MakesItself flags (program version (Open path flags))
  pub openat : (version : ℕ) (base : Base) (path : List ℕ) (flags : OpenFlags) → MakesItself flags (program version (Openat base path flags))

-- What others find.

-- the operation neither removes that entry nor moves it away
abbrev pub Spares : NameOp → ℕ → List ℕ → Type 0
Spares (Remfile place other slash) id name = AreApart place other id name
Spares (Remdir place other) id name = AreApart place other id name
Spares (Move from other to new_name slash) id name = AreApart from other id name
Spares op id name = Unit {0}

-- the same of a step of any call on any cell
abbrev pub SparesEntry : ℕ → ℕ → List ℕ → CellId × StoreOp → Type 0
SparesEntry backend id name (NamesCell other, NamesOp op) = other ≡ backend → Spares op id name
SparesEntry backend id name (cell, op) = Unit {0}

abbrev pub AllSpare : ℕ → ℕ → List ℕ → List (CellId × StoreOp) → Type 0
AllSpare backend id name [] = Unit {0}
AllSpare backend id name (taken ∷ others) = SparesEntry backend id name taken × AllSpare backend id name others

abbrev pub store_by : Store → List (CellId × StoreOp) → Store
store_by store [] = store
store_by store (taken ∷ others) = store_by (cstep store taken.0 taken.1).store others

-- once a file got an entry, every other call finds the name taken, whatever steps of any calls were between, but those that
-- remove the entry or move it away
abbrev pub EntriesAreTaken : Type 0
EntriesAreTaken = (store : Store) (backend id : ℕ) (name : List ℕ) (first second : ℕ) (between : List (CellId × StoreOp)) → IsSound (names_at store backend) → (nstep (names_at store backend) (Addfile id name first)).answer ≡ Done → AllSpare backend id name between → (node : Node) × ((nstep (names_at (store_by (cstep store (NamesCell backend) (NamesOp (Addfile id name first))).store between) backend) (Addfile id name second)).answer ≡ Taken node)

-- and where something stands under the name, also a link, such a call replies EEXIST and changes nothing
abbrev pub ExclusivesRefuse : Type 0
ExclusivesRefuse = (version : ℕ) (store : Store) (path : List ℕ) (flags : OpenFlags) (number : ℕ) (here : Spot) (name : List ℕ) (node : Node) → ReachesEntry version store path flags number here name (Some node) → is_exclusive flags ≡ true → slash_of path ≡ false → posix version store (Open path flags) ≡ replied store (Fault Eexist)
