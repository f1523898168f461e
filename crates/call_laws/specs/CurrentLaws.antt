-- What a user may conclude of the current directory: POSIX.1-2017, XSH chdir() and fchdir().
use Rattle.std.specs.Prelude.{◌≡◌, ℕ, false, List, [], ◌∷◌, Ok}
use Rattle.file_store.specs.declared.descriptor_operation.Slot.TheVariants as slot
use Rattle.file_store.specs.declared.descriptor_operation.FdOp.TheVariants as fd
use Rattle.file_store.specs.declared.descriptor_operation.FdAnswer.TheVariants as fd_answer
use Rattle.file_store.specs.DescriptorLaws.{is_setcwd}
use Rattle.file_store.specs.DescriptorMap.{slot_at}
use Rattle.path_walk.specs.declared.open_request.OpenFlags.{OpenFlags}
use Rattle.path_walk.specs.declared.call.Call.{Call}
use Rattle.path_walk.specs.declared.call.Call.TheVariants.{Chdir, Fchdir, Open}
use Rattle.path_walk.specs.declared.call.Reply.TheVariants.{Done, Fd}
use Rattle.path_walk.specs.declared.route.Manner.TheVariants.{Follows}
use Rattle.path_walk.specs.declared.route.Spot.{Spot}
use Rattle.path_walk.specs.declared.route.Station.{Station}
use Rattle.path_walk.specs.declared.route.End.TheVariants.{Directory}
use Rattle.path_walk.specs.declared.step.CellId.{CellId}
use Rattle.path_walk.specs.declared.step.CellId.TheVariants.{Descriptors as DescriptorsCell}
use Rattle.path_walk.specs.declared.step.StoreOp.{StoreOp}
use Rattle.path_walk.specs.declared.step.StoreOp.TheVariants.{Names as NamesOp, Files as FilesOp, Descriptors as DescriptorsOp}
use Rattle.path_walk.specs.declared.step.StoreAnswer.TheVariants.{Descriptors as DescriptorsAnswer}
use Rattle.path_walk.specs.Paths.{is_absolute}
use Rattle.path_walk.specs.Programs.{Begins, Step, replied}
use Rattle.path_walk.specs.Posix.{posix, program}
use Rattle.path_walk.specs.Store.{Store, cstep, names_at}
use Rattle.call_laws.specs.Entries.{current_spot, path_end, path_spot}
use Rattle.call_laws.specs.EntryLaws.{IsDone}
use Rattle.call_laws.specs.ExclusiveLaws.{store_by}
use Rattle.call_laws.specs.StartLaws.{in_directory}

-- after `chdir` the current directory is the one to which its path led, and nothing else has changed
abbrev pub ChdirEnters : Type 0
ChdirEnters = (version : ℕ) (store : Store) (path : List ℕ) → IsDone version store (Chdir path) → (there : Station) × (path_end version store Follows path ≡ Ok (Directory there)) × ((posix version store (Chdir path)).store ≡ in_directory there.spot store)

-- after `fchdir` it is the one that the number names
abbrev pub FchdirEnters : Type 0
FchdirEnters = (version : ℕ) (store : Store) (number : ℕ) (spot : Spot) → slot_at store.descriptors number ≡ slot.Dir spot.backend spot.directory → posix version store (Fchdir number) ≡ replied (in_directory spot store) Done

-- steps of whichever calls, none of which sets the current directory
abbrev pub SetsNone : StoreOp → Type 0
SetsNone (NamesOp op) = Unit {0}
SetsNone (FilesOp op) = Unit {0}
SetsNone (DescriptorsOp op) = is_setcwd op ≡ false

abbrev pub SetNone : List (CellId × StoreOp) → Type 0
SetNone [] = Unit {0}
SetNone (step ∷ steps) = SetsNone step.1 × SetNone steps

-- a path that does not begin with a slash starts in that directory: the step that asks is told it, and so a call at once
-- takes it
pub record StartsIn (store : Store) (spot : Spot) : Type 0 where
  pub told : (cstep store DescriptorsCell (DescriptorsOp fd.Cwd)).answer ≡ DescriptorsAnswer (fd_answer.Dir spot.backend spot.directory)
  pub start : (path : List ℕ) → is_absolute path ≡ false → path_spot 2 store path ≡ spot

-- the current directory stays the one that it is, whatever other calls do, until one sets it
abbrev pub CurrentDirectoryStays : Type 0
CurrentDirectoryStays = (store : Store) (steps : List (CellId × StoreOp)) → SetNone steps → StartsIn (store_by store steps) (current_spot store)

-- the call is neither `chdir` nor `fchdir`
abbrev pub IsOther : Call → Type 0
IsOther (Chdir path) = ⊥
IsOther (Fchdir number) = ⊥
IsOther call = Unit {0}

-- the steps, whatever came of them
abbrev pub taken_by : List Step → List (CellId × StoreOp)
taken_by [] = []
taken_by (step ∷ steps) = (step.cell, step.op) ∷ taken_by steps

-- no step of another call sets the current directory, whatever it was told before. So each other call at once leaves it
pub record OtherCallsKeepTheCurrentDirectory : Type 0 where
  pub steps : (version : ℕ) (call : Call) (steps : List Step) → IsOther call → Begins (program version call) steps → SetNone (taken_by steps)
  pub alone : (version : ℕ) (store : Store) (call : Call) → IsOther call → current_spot (posix version store call).store ≡ current_spot store

-- nobody has made, removed or renamed an entry, set the current directory, or changed what the number names
pub record IsUndisturbed (old new : Store) (number : ℕ) : Type 0 where
  pub names : (backend : ℕ) → names_at new backend ≡ names_at old backend
  pub current : current_spot new ≡ current_spot old
  pub named : slot_at new.descriptors number ≡ slot_at old.descriptors number

-- both calls reply `ok`, and leave one store, in which that is the current directory
pub record EnterOne (version : ℕ) (store : Store) (path : List ℕ) (number : ℕ) (spot : Spot) : Type 0 where
  pub chdir : posix version store (Chdir path) ≡ replied (in_directory spot store) Done
  pub fchdir : posix version store (Fchdir number) ≡ replied (in_directory spot store) Done

-- where a path that leads to a directory was opened under a number, `chdir` of the path and `fchdir` of the number are one
abbrev pub FchdirIsChdir : Type 0
FchdirIsChdir = (version : ℕ) (store later : Store) (path : List ℕ) (flags : OpenFlags) (number : ℕ) (there : Station) → (posix version store (Open path flags)).reply ≡ Fd number → path_end version store Follows path ≡ Ok (Directory there) → IsUndisturbed (posix version store (Open path flags)).store later number → EnterOne version later path number there.spot
