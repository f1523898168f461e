-- Laws of the definitions, which say what a user may conclude of `open`, and of the number that it and `dup` give:
-- POSIX.1-2017, XSH open() and dup().
use Rattle.std.specs.Prelude.{◌≡◌, ◌≢◌, ℕ, ◌%◌, true, false, List, Option, None, Some, Ok, slice_get}
use Rattle.wf_core.specs.Limits.{group_count}
use Rattle.name_store.specs.declared.operation.Node.{Node}
use Rattle.name_store.specs.declared.operation.Node.TheVariants.{Dir, File as FileNode, Mount}
use Rattle.name_store.specs.NameTrees.{Listing, entry_at}
use Rattle.name_store.specs.Sound.{IsSound}
use Rattle.name_store.specs.EntryLaws.{LeafMade}
use Rattle.file_store.specs.declared.descriptor_operation.Slot.TheVariants as slot
use Rattle.file_store.specs.DescriptorMap.{with_slot, lowest_free}
use Rattle.file_store.specs.declared.file.File.{File}
use Rattle.file_store.specs.declared.file.Description.{Description}
use Rattle.file_store.specs.FileGroups.{Group, description_at, empty_file, file_at}
use Rattle.file_store.specs.Sound.{IsSound as IsSoundGroup, number_of}
use Rattle.file_store.specs.WriteLaws.{Resizes}
use Rattle.path_walk.specs.declared.route.Manner.TheVariants.{Follows}
use Rattle.path_walk.specs.declared.route.Spot.{Spot}
use Rattle.path_walk.specs.declared.route.Station.{Station}
use Rattle.path_walk.specs.declared.route.End.TheVariants.{Directory}
use Rattle.path_walk.specs.declared.open_request.OpenFlags.{OpenFlags}
use Rattle.path_walk.specs.declared.call.Base.{Base}
use Rattle.path_walk.specs.declared.call.Call.TheVariants.{Dup, Open, Openat}
use Rattle.path_walk.specs.declared.call.Reply.TheVariants.{Fd}
use Rattle.path_walk.specs.Store.{Store, backend_at, group_at, names_at, with_group, with_names}
use Rattle.path_walk.specs.Paths.{slash_of}
use Rattle.path_walk.specs.Programs.{replied}
use Rattle.path_walk.specs.OpenPlan.{directory_fault, file_fault, flags_fault, mode_of}
use Rattle.path_walk.specs.Posix.{posix}
use Rattle.call_laws.specs.Entries.{NamesEntry, directory_at, path_end}
use Rattle.call_laws.specs.FileLaws.{IsOpenOn}

-- a group of a backend is there, and is what operations lead to
pub record HasGroup (store : Store) (backend number : ℕ) : Type 0 where
  pub there : slice_get (backend_at store backend).groups number ≡ Some (group_at store backend number)
  pub sound : IsSoundGroup (group_at store backend number)
  pub is : number_of (group_at store backend number) ≡ number

-- `open` comes to an entry: its flags go together, that number is the lowest free one, and the path names that entry of a
-- directory, where that node stands or nothing
pub record ReachesEntry (version : ℕ) (store : Store) (path : List ℕ) (flags : OpenFlags) (number : ℕ) (here : Spot) (name : List ℕ) (node : Option Node) : Type 0 where
  pub together : flags_fault flags ≡ None
  pub lowest : lowest_free store.descriptors ≡ Some number
  pub entry : NamesEntry version store path here name
  pub directory : Listing
  pub there : directory_at store here ≡ Some directory
  pub stands : entry_at directory name ≡ node

-- a new description of a file, at its beginning
abbrev pub description_of : ℕ → OpenFlags → Description
description_of file flags = record { file = file; mode = mode_of flags; offset = 0 }

-- the store in which only that group has changed, and that number, which names a description there
abbrev pub with_opened : Store → ℕ → ℕ → Group → ℕ → ℕ → Store
with_opened store backend group new number description = record (with_group store backend group new) { descriptors = with_slot store.descriptors number (slot.File backend description) }

-- an empty file was made under a name, and opened under that number; all else stays
pub record FileMade (old new : Store) (here : Spot) (name : List ℕ) (number : ℕ) (flags : OpenFlags) (group : ℕ) : Type 0 where
  pub file : ℕ
  pub absent : file_at (group_at old here.backend group) file ≡ None
  pub empty : file_at (group_at new here.backend group) file ≡ Some empty_file
  pub files : (other : ℕ) → other ≢ file → file_at (group_at new here.backend group) other ≡ file_at (group_at old here.backend group) other
  pub opened : IsOpenOn new number here.backend group (description_of file flags)
  pub descriptions : (other : ℕ) → other ≢ opened.id → description_at (group_at new here.backend group) other ≡ description_at (group_at old here.backend group) other
  pub entry : IsSound (names_at old here.backend) → LeafMade (names_at old here.backend) (names_at new here.backend) here.directory name (FileNode file)
  pub elsewhere : new ≡ with_names (with_opened old here.backend group (group_at new here.backend group) number opened.id) here.backend (names_at new here.backend)

-- with `creat`, where nothing is, `open` makes an empty file, in the group that its number has
pub record OpensNew (version : ℕ) (store : Store) (path : List ℕ) (flags : OpenFlags) (number : ℕ) (here : Spot) (name : List ℕ) : Type 0 where
  pub reply : (posix version store (Open path flags)).reply ≡ Fd number
  pub made : FileMade store (posix version store (Open path flags)).store here name number flags (number % group_count)

abbrev pub OpensMakeFiles : Type 0
OpensMakeFiles = (version : ℕ) (store : Store) (path : List ℕ) (flags : OpenFlags) (number : ℕ) (here : Spot) (name : List ℕ) → ReachesEntry version store path flags number here name None → flags.creat ≡ true → slash_of path ≡ false → HasGroup store here.backend (number % group_count) → OpensNew version store path flags number here name

-- a file that is there was opened under that number: no name changes, and no file, but that `trunc` empties this one
pub record FileOpened (old new : Store) (backend number : ℕ) (flags : OpenFlags) (file group : ℕ) (was : File) : Type 0 where
  pub opened : IsOpenOn new number backend group (description_of file flags)
  pub emptied : flags.trunc ≡ true → (now : File) × Resizes (group_at old backend group) (group_at new backend group) file was now 0
  pub kept : flags.trunc ≡ false → (group_at new backend group).files ≡ (group_at old backend group).files
  pub descriptions : (other : ℕ) → other ≢ opened.id → description_at (group_at new backend group) other ≡ description_at (group_at old backend group) other
  pub elsewhere : new ≡ with_opened old backend group (group_at new backend group) number opened.id

pub record OpensFile (version : ℕ) (store : Store) (path : List ℕ) (flags : OpenFlags) (number backend file : ℕ) (was : File) : Type 0 where
  pub reply : (posix version store (Open path flags)).reply ≡ Fd number
  pub opened : FileOpened store (posix version store (Open path flags)).store backend number flags file (file % group_count) was

-- a directory was opened under that number, and nothing else has changed
abbrev pub OpensDirectory : ℕ → Store → List ℕ → OpenFlags → ℕ → ℕ → ℕ → Type 0
OpensDirectory version store path flags number backend directory = posix version store (Open path flags) ≡ replied (record store { descriptors = with_slot store.descriptors number (slot.Dir backend directory) }) (Fd number)

pub record OpensFind : Type 0 where
  pub file : (version : ℕ) (store : Store) (path : List ℕ) (flags : OpenFlags) (number : ℕ) (here : Spot) (name : List ℕ) (file : ℕ) (was : File) → ReachesEntry version store path flags number here name (Some (FileNode file)) → file_fault flags (slash_of path) ≡ None → HasGroup store here.backend (file % group_count) → file_at (group_at store here.backend (file % group_count)) file ≡ Some was → was.linked ≡ true → OpensFile version store path flags number here.backend file was
  pub directory : (version : ℕ) (store : Store) (path : List ℕ) (flags : OpenFlags) (number : ℕ) (here : Spot) (name : List ℕ) (id : ℕ) → ReachesEntry version store path flags number here name (Some (Dir id)) → directory_fault flags ≡ None → OpensDirectory version store path flags number here.backend id
  pub mount : (version : ℕ) (store : Store) (path : List ℕ) (flags : OpenFlags) (number : ℕ) (here : Spot) (name : List ℕ) (backend : ℕ) → ReachesEntry version store path flags number here name (Some (Mount backend)) → directory_fault flags ≡ None → OpensDirectory version store path flags number backend 0

-- where a path leads to a directory, links followed, an `open` that replies a number has opened that directory
abbrev pub OpensFindDirectories : Type 0
OpensFindDirectories = (version : ℕ) (store : Store) (path : List ℕ) (flags : OpenFlags) (number : ℕ) (there : Station) → (posix version store (Open path flags)).reply ≡ Fd number → path_end version store Follows path ≡ Ok (Directory there) → OpensDirectory version store path flags number there.spot.backend there.spot.directory

-- whatever the path, the number is the lowest that was free
pub record NumbersAreLowest : Type 0 where
  pub opens : (version : ℕ) (store : Store) (path : List ℕ) (flags : OpenFlags) (number : ℕ) → (posix version store (Open path flags)).reply ≡ Fd number → lowest_free store.descriptors ≡ Some number
  pub openat : (version : ℕ) (store : Store) (base : Base) (path : List ℕ) (flags : OpenFlags) (given : ℕ) → (posix version store (Openat base path flags)).reply ≡ Fd given → lowest_free store.descriptors ≡ Some given
  pub dup : (version : ℕ) (store : Store) (number copy : ℕ) → (posix version store (Dup number)).reply ≡ Fd copy → lowest_free store.descriptors ≡ Some copy
