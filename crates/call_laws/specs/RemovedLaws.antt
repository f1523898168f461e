-- What a user may conclude of a directory that was removed, and is still the current one or a descriptor's: POSIX.1-2017,
-- XSH rmdir(), by which it takes no new entries. That `.` still leads to it is this project's own.
use Rattle.std.specs.Prelude.{◌≡◌, ◌≢◌, ℕ, List, [], ◌∷◌, None, Some}
use Rattle.wf_core.specs.declared.errno.Errno.TheVariants.{Enoent, Eexist}
use Rattle.file_store.specs.DescriptorMap.{lowest_free}
use Rattle.path_walk.specs.declared.open_request.OpenFlags.{OpenFlags}
use Rattle.path_walk.specs.declared.route.Spot.{Spot}
use Rattle.path_walk.specs.declared.call.Call.TheVariants.{Chdir, List as ListCall, Lstat, Mkdir, Open, Rmdir, Stat, Symlink, Unlink}
use Rattle.path_walk.specs.declared.call.Reply.TheVariants.{Dir, Done, Fault}
use Rattle.path_walk.specs.Calls.{text_fault}
use Rattle.path_walk.specs.OpenPlan.{directory_fault, flags_fault}
use Rattle.path_walk.specs.Posix.{posix}
use Rattle.path_walk.specs.Programs.{replied}
use Rattle.path_walk.specs.Store.{Store}
use Rattle.call_laws.specs.Entries.{NamesEntry, current_spot, directory_at}
use Rattle.call_laws.specs.OpenLaws.{OpensDirectory}

-- under that path is nothing, and nothing is made: `symlink` where its text may be a link's, and `open` where its flags go
-- together and a number is free
pub record TakesNothing (version : ℕ) (store : Store) (path : List ℕ) : Type 0 where
  pub mkdir : posix version store (Mkdir path) ≡ replied store (Fault Enoent)
  pub rmdir : posix version store (Rmdir path) ≡ replied store (Fault Enoent)
  pub unlink : posix version store (Unlink path) ≡ replied store (Fault Enoent)
  pub symlink : (text : List ℕ) → text_fault text ≡ None → posix version store (Symlink text path) ≡ replied store (Fault Enoent)
  pub stat : posix version store (Stat path) ≡ replied store (Fault Enoent)
  pub lstat : posix version store (Lstat path) ≡ replied store (Fault Enoent)
  pub opens : (flags : OpenFlags) (number : ℕ) → flags_fault flags ≡ None → lowest_free store.descriptors ≡ Some number → posix version store (Open path flags) ≡ replied store (Fault Enoent)

abbrev pub RemovedDirectoriesTakeNothing : Type 0
RemovedDirectoriesTakeNothing = (version : ℕ) (store : Store) (path : List ℕ) (here : Spot) (name : List ℕ) → NamesEntry version store path here name → directory_at store here ≡ None → TakesNothing version store path

-- `.` and `..`
abbrev pub dot : List ℕ
dot = 46 ∷ []

abbrev pub dot_dot : List ℕ
dot_dot = 46 ∷ 46 ∷ []

-- where the current directory was removed, it is still there to `stat`, `chdir`, `mkdir` and `open`, has no names, and leads
-- nowhere. A root is never removed
pub record RemovedIsCurrent (store : Store) : Type 0 where
  pub stat : posix 2 store (Stat dot) ≡ replied store Dir
  pub chdir : posix 2 store (Chdir dot) ≡ replied store Done
  pub mkdir : posix 2 store (Mkdir dot) ≡ replied store (Fault Eexist)
  pub opens : (flags : OpenFlags) (number : ℕ) → flags_fault flags ≡ None → directory_fault flags ≡ None → lowest_free store.descriptors ≡ Some number → OpensDirectory 2 store dot flags number (current_spot store).backend (current_spot store).directory
  pub list : (start : ℕ) → posix 2 store (ListCall dot start) ≡ replied store (Fault Enoent)
  pub up : (current_spot store).directory ≢ 0 → posix 2 store (Stat dot_dot) ≡ replied store (Fault Enoent)

abbrev pub RemovedDirectoriesStayCurrent : Type 0
RemovedDirectoriesStayCurrent = (store : Store) → directory_at store (current_spot store) ≡ None → RemovedIsCurrent store
