-- What a user may conclude of where paths start: POSIX.1-2017, XBD 4.13, and XSH openat(), mkdirat(), unlinkat(), fstatat()
-- and renameat(). `rmdirat` is this project's own, as unlinkat() with AT_REMOVEDIR.
use Rattle.std.specs.Prelude.{◌≡◌, ◌⊎◌, ℕ, if◌then◌else◌, true, false, List, [], ◌∷◌, Option, None, Some}
use Rattle.wf_core.specs.declared.errno.Errno.{Errno}
use Rattle.wf_core.specs.declared.errno.Errno.TheVariants.{Ebadf, Enotdir}
use Rattle.file_store.specs.declared.descriptor_operation.Slot.{Slot}
use Rattle.file_store.specs.declared.descriptor_operation.Slot.TheVariants as slot
use Rattle.file_store.specs.DescriptorMap.{current_dir, lowest_free, slot_at}
use Rattle.file_store.specs.declared.descriptor_operation.FdOp.TheVariants as fd
use Rattle.path_walk.specs.declared.open_request.OpenFlags.{OpenFlags}
use Rattle.path_walk.specs.declared.step.CellId.{CellId}
use Rattle.path_walk.specs.declared.step.CellId.TheVariants.{Descriptors as DescriptorsCell}
use Rattle.path_walk.specs.declared.step.StoreOp.{StoreOp}
use Rattle.path_walk.specs.declared.step.StoreOp.TheVariants.{Descriptors as DescriptorsOp}
use Rattle.path_walk.specs.declared.step.StepAnswer.{StepAnswer}
use Rattle.path_walk.specs.Plans.{op_of_base}
use Rattle.path_walk.specs.declared.call.Base.{Base}
use Rattle.path_walk.specs.declared.call.Base.TheVariants.{Cwd, Fd}
use Rattle.path_walk.specs.declared.call.Call.{Call}
use Rattle.path_walk.specs.declared.call.Call.TheVariants as call
use Rattle.path_walk.specs.declared.call.Reply.TheVariants.{Fault}
use Rattle.path_walk.specs.declared.route.Spot.{Spot}
use Rattle.path_walk.specs.Paths.{is_absolute, path_fault}
use Rattle.path_walk.specs.OpenPlan.{flags_fault}
use Rattle.path_walk.specs.Programs.{CallOutcome, Program, asks, finished, replied}
use Rattle.path_walk.specs.Posix.{posix, program}
use Rattle.path_walk.specs.Store.{Store}
use Rattle.call_laws.specs.Entries.{NamesEntry, current_spot}

-- the paths of a call
abbrev pub paths_of : Call → List (List ℕ)
paths_of (call.Mkdir path) = path ∷ []
paths_of (call.Rmdir path) = path ∷ []
paths_of (call.Unlink path) = path ∷ []
paths_of (call.Symlink text path) = path ∷ []
paths_of (call.Rename path new) = path ∷ new ∷ []
paths_of (call.Readlink path) = path ∷ []
paths_of (call.Stat path) = path ∷ []
paths_of (call.Lstat path) = path ∷ []
paths_of (call.List path start) = path ∷ []
paths_of (call.Open path flags) = path ∷ []
paths_of (call.Chdir path) = path ∷ []
paths_of (call.Openat base path flags) = path ∷ []
paths_of (call.Mkdirat base path) = path ∷ []
paths_of (call.Rmdirat base path) = path ∷ []
paths_of (call.Unlinkat base path) = path ∷ []
paths_of (call.Fstatat base path) = path ∷ []
paths_of (call.Renameat base path new_base new) = path ∷ new ∷ []
paths_of call = []

abbrev pub AreAbsolute : List (List ℕ) → Type 0
AreAbsolute [] = Unit {0}
AreAbsolute (path ∷ paths) = (is_absolute path ≡ true) × AreAbsolute paths

-- a call whose paths begin with slashes takes the steps of version 1, so no base is looked at
abbrev pub AbsolutePathsStartInTheRoot : Type 0
AbsolutePathsStartInTheRoot = (call : Call) → AreAbsolute (paths_of call) → program 2 call ≡ program 1 call

-- a call that names `cwd` as its base, which is AT_FDCWD, takes the steps of the call without a base
pub record CwdIsTheDefaultBase : Type 0 where
  pub openat : (path : List ℕ) (flags : OpenFlags) → program 2 (call.Openat Cwd path flags) ≡ program 2 (call.Open path flags)
  pub mkdirat : (path : List ℕ) → program 2 (call.Mkdirat Cwd path) ≡ program 2 (call.Mkdir path)
  pub rmdirat : (path : List ℕ) → program 2 (call.Rmdirat Cwd path) ≡ program 2 (call.Rmdir path)
  pub unlinkat : (path : List ℕ) → program 2 (call.Unlinkat Cwd path) ≡ program 2 (call.Unlink path)
  pub fstatat : (path : List ℕ) → program 2 (call.Fstatat Cwd path) ≡ program 2 (call.Stat path)
  pub renameat : (path new : List ℕ) → program 2 (call.Renameat Cwd path Cwd new) ≡ program 2 (call.Rename path new)

-- the bases from which a call's paths start, one after another: a path that begins with a slash has none
abbrev pub with_base : Base → List ℕ → List Base → List Base
with_base base path bases = if is_absolute path then bases else base ∷ bases

-- the one asks for the directory of the next base where the other asks for the current directory
abbrev pub AsksBase : List Base → CellId → StoreOp → CellId → StoreOp → (List Base → Type 0) → Type 0
AsksBase [] cell op other_cell other_op OnWith = ⊥
AsksBase (base ∷ bases) cell op other_cell other_op OnWith = (cell ≡ DescriptorsCell) × (op ≡ DescriptorsOp (op_of_base base)) × (other_cell ≡ DescriptorsCell) × (other_op ≡ DescriptorsOp fd.Cwd) × OnWith bases

-- told the same, the two take the same steps and give the same reply, but that the one starts from those bases where the
-- other starts from the current directory
abbrev pub StartsFrom : List Base → Program → Program → Type 0
StartsFrom bases (finished reply) (finished other) = reply ≡ other
StartsFrom bases (finished reply) (asks cell op next) = ⊥
StartsFrom bases (asks cell op next) (finished other) = ⊥
StartsFrom bases (asks cell op next) (asks other_cell other_op other_next) =
    ((cell ≡ other_cell) × (op ≡ other_op) × ((answer : StepAnswer) → StartsFrom bases (next answer) (other_next answer)))
    ⊎ AsksBase bases cell op other_cell other_op (λ left. (answer : StepAnswer) → StartsFrom left (next answer) (other_next answer))

-- a call with bases is the call without, but for its starts, whatever others do between its steps
pub record BasesAreStarts : Type 0 where
  pub openat : (base : Base) (path : List ℕ) (flags : OpenFlags) → StartsFrom (with_base base path []) (program 2 (call.Openat base path flags)) (program 2 (call.Open path flags))
  pub mkdirat : (base : Base) (path : List ℕ) → StartsFrom (with_base base path []) (program 2 (call.Mkdirat base path)) (program 2 (call.Mkdir path))
  pub rmdirat : (base : Base) (path : List ℕ) → StartsFrom (with_base base path []) (program 2 (call.Rmdirat base path)) (program 2 (call.Rmdir path))
  pub unlinkat : (base : Base) (path : List ℕ) → StartsFrom (with_base base path []) (program 2 (call.Unlinkat base path)) (program 2 (call.Unlink path))
  pub fstatat : (base : Base) (path : List ℕ) → StartsFrom (with_base base path []) (program 2 (call.Fstatat base path)) (program 2 (call.Stat path))
  pub renameat : (base : Base) (path : List ℕ) (new_base : Base) (new : List ℕ) → StartsFrom (with_base base path (with_base new_base new [])) (program 2 (call.Renameat base path new_base new)) (program 2 (call.Rename path new))

-- the store with that current directory
abbrev pub in_directory : Spot → Store → Store
in_directory spot store = record store { descriptors = record store.descriptors { current = current_dir spot.backend spot.directory } }

-- a call in that directory: with it as the current one, which afterwards is again the one that it was
abbrev pub posix_in : Spot → Store → Call → CallOutcome
posix_in spot store call = let outcome = posix 2 (in_directory spot store) call in record outcome { store = in_directory (current_spot store) outcome.store }

-- a call relative to that number is the call without a base in that directory, in its reply and in all that it leaves
pub record StartsAt (store : Store) (number : ℕ) (spot : Spot) : Type 0 where
  pub openat : (path : List ℕ) (flags : OpenFlags) → posix 2 store (call.Openat (Fd number) path flags) ≡ posix_in spot store (call.Open path flags)
  pub mkdirat : (path : List ℕ) → posix 2 store (call.Mkdirat (Fd number) path) ≡ posix_in spot store (call.Mkdir path)
  pub rmdirat : (path : List ℕ) → posix 2 store (call.Rmdirat (Fd number) path) ≡ posix_in spot store (call.Rmdir path)
  pub unlinkat : (path : List ℕ) → posix 2 store (call.Unlinkat (Fd number) path) ≡ posix_in spot store (call.Unlink path)
  pub fstatat : (path : List ℕ) → posix 2 store (call.Fstatat (Fd number) path) ≡ posix_in spot store (call.Stat path)
  pub renameat : (path new : List ℕ) → posix 2 store (call.Renameat (Fd number) path (Fd number) new) ≡ posix_in spot store (call.Rename path new)

-- relative to a descriptor of a directory, calls start there
abbrev pub CallsStartAtDescriptors : Type 0
CallsStartAtDescriptors = (store : Store) (number : ℕ) (spot : Spot) → slot_at store.descriptors number ≡ slot.Dir spot.backend spot.directory → StartsAt store number spot

-- why a number is no base: it names nothing, or it names a file
abbrev pub base_fault : Slot → Option Errno
base_fault slot.Free = Some Ebadf
base_fault slot.Reserved = Some Ebadf
base_fault (slot.File backend description) = Some Enotdir
base_fault (slot.Dir backend directory) = None

-- a path that is walked, and from a base
pub record IsRelative (path : List ℕ) : Type 0 where
  pub walked : path_fault path ≡ None
  pub relative : is_absolute path ≡ false

-- relative to such a number a call replies why, and changes nothing: `openat` where its flags go together and a number is
-- free for it, and `renameat` also where the first path names an entry and the second is relative to the number
pub record RefusesBase (store : Store) (number : ℕ) (error : Errno) : Type 0 where
  pub openat : (path : List ℕ) (flags : OpenFlags) (free : ℕ) → IsRelative path → flags_fault flags ≡ None → lowest_free store.descriptors ≡ Some free → posix 2 store (call.Openat (Fd number) path flags) ≡ replied store (Fault error)
  pub mkdirat : (path : List ℕ) → IsRelative path → posix 2 store (call.Mkdirat (Fd number) path) ≡ replied store (Fault error)
  pub rmdirat : (path : List ℕ) → IsRelative path → posix 2 store (call.Rmdirat (Fd number) path) ≡ replied store (Fault error)
  pub unlinkat : (path : List ℕ) → IsRelative path → posix 2 store (call.Unlinkat (Fd number) path) ≡ replied store (Fault error)
  pub fstatat : (path : List ℕ) → IsRelative path → posix 2 store (call.Fstatat (Fd number) path) ≡ replied store (Fault error)
  pub renameat : (path : List ℕ) (new_base : Base) (new : List ℕ) → IsRelative path → posix 2 store (call.Renameat (Fd number) path new_base new) ≡ replied store (Fault error)
  pub renameat_to : (path new : List ℕ) (here : Spot) (name : List ℕ) → NamesEntry 2 store path here name → IsRelative new → posix 2 store (call.Renameat Cwd path (Fd number) new) ≡ replied store (Fault error)
  pub fchdir : posix 2 store (call.Fchdir number) ≡ replied store (Fault error)

abbrev pub BasesAreDirectories : Type 0
BasesAreDirectories = (store : Store) (number : ℕ) (error : Errno) → base_fault (slot_at store.descriptors number) ≡ Some error → RefusesBase store number error
