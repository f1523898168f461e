-- Laws of the definitions, which say what a user may conclude of links, slashes, lists and moves: POSIX.1-2017, XBD 4.13
-- and XSH readdir() and rename().
use Rattle.std.specs.Prelude.{◌≡◌, ◌⊎◌, ℕ, ◌+◌, ◌*◌, ◌≤◌, ◌||◌, zero, suc, Bool, true, List, [], ◌∷◌, ◌++◌, length, take, drop, None, Some, Result, Ok, Err}
use Rattle.std.specs.Map.{keys_of}
use Rattle.std.specs.List.Sorted.{IsStrictlySortedBy}
use Rattle.wf_core.specs.Limits.{list_max}
use Rattle.wf_core.specs.declared.errno.Errno.{Errno}
use Rattle.wf_core.specs.declared.errno.Errno.TheVariants.{Eloop}
use Rattle.name_store.specs.declared.operation.Node.TheVariants.{Dir, Link as LinkNode}
use Rattle.name_store.specs.NameTrees.{Listing, byte_order}
use Rattle.name_store.specs.Sound.{IsSound, node_at}
use Rattle.name_store.specs.EntryLaws.{EntryMoved}
use Rattle.path_walk.specs.declared.part.Part.{Part}
use Rattle.path_walk.specs.declared.part.Part.TheVariants.{Down}
use Rattle.path_walk.specs.declared.route.Manner.{Manner}
use Rattle.path_walk.specs.declared.route.Manner.TheVariants.{OnWay, Follows}
use Rattle.path_walk.specs.declared.route.Spot.{Spot}
use Rattle.path_walk.specs.declared.route.Station.{Station}
use Rattle.path_walk.specs.declared.route.End.{End}
use Rattle.path_walk.specs.declared.route.End.TheVariants.{Directory, File, LinkText}
use Rattle.path_walk.specs.declared.call.Call.TheVariants.{Unlink, Symlink, Rename, Readlink, Stat, Lstat, List as ListCall}
use Rattle.path_walk.specs.declared.call.Reply.{Reply}
use Rattle.path_walk.specs.declared.call.Reply.TheVariants.{Dir as DirReply, Names, Fault}
use Rattle.path_walk.specs.Store.{Store, names_at, with_names}
use Rattle.path_walk.specs.Paths.{parts_of, path_fault, slash_of}
use Rattle.path_walk.specs.PathMeaning.{is_followed, resolve, start_of}
use Rattle.path_walk.specs.Programs.{replied}
use Rattle.path_walk.specs.Posix.{posix}
use Rattle.call_laws.specs.Entries.{HasNamesInOrder, NamesEntry, after_loss, directory_at, node_of, path_end}
use Rattle.call_laws.specs.EntryLaws.{IsDone}

-- First components.

-- the end of a walk along its first components is an error, which is the whole walk's too, or a directory, from which the
-- others lead on with the names and the links that are left to take
abbrev pub LeadsOn : Store → Part → List Part → Manner → Bool → Result End Errno → Result End Errno → Type 0
LeadsOn store part rest manner slash (Err error) whole = whole ≡ Err error
LeadsOn store part rest manner slash (Ok (Directory there)) whole = whole ≡ resolve store there.names (part ∷ rest) manner slash there.links there.spot
LeadsOn store part rest manner slash (Ok (File backend file)) whole = ⊥
LeadsOn store part rest manner slash (Ok (LinkText text)) whole = ⊥

-- components lead where the later ones lead from where the first ones lead, as directories on the way
abbrev pub ComponentsLeadOn : Type 0
ComponentsLeadOn = (store : Store) (part : Part) (rest : List Part) (manner : Manner) (slash : Bool) (names : ℕ) (front : List Part) (links : ℕ) (here : Spot) → LeadsOn store part rest manner slash (resolve store names front OnWay slash links here) (resolve store names (front ++ part ∷ rest) manner slash links here)

-- Links.

-- a link on the way is followed; the last one as the walk's manner and the slash flag say
abbrev pub is_followed_before : List Part → Manner → Bool → Bool
is_followed_before [] manner slash = is_followed manner slash
is_followed_before (part ∷ rest) manner slash = true

-- the slash flag behind a link: as a path's last component its text sets it too
abbrev pub slash_behind : List Part → Bool → List ℕ → Bool
slash_behind [] slash text = slash || slash_of text
slash_behind (part ∷ rest) slash text = slash

-- from a directory, components through a link lead where the components of its text in its place lead, with one name
-- fewer to take and one link fewer to follow. A text that begins with a slash starts at the root. Where no link may be
-- followed any more, it is ELOOP.
pub record LinkLeads (store : Store) (names : ℕ) (name text : List ℕ) (rest : List Part) (manner : Manner) (slash : Bool) (here : Spot) : Type 0 where
  pub on : (links : ℕ) → resolve store (suc names) (Down name ∷ rest) manner slash (suc links) here ≡ resolve store names (parts_of text ++ rest) manner (slash_behind rest slash text) links (start_of text here)
  pub none_left : resolve store (suc names) (Down name ∷ rest) manner slash 0 here ≡ Err Eloop

abbrev pub LinksLead : Type 0
LinksLead = (store : Store) (names id : ℕ) (name text : List ℕ) (rest : List Part) (manner : Manner) (slash : Bool) (here : Spot) → node_of store here name ≡ Some (LinkNode id text) → is_followed_before rest manner slash ≡ true → LinkLeads store names name text rest manner slash here

-- A slash at the end.

abbrev pub IsFault : Reply → Type 0
IsFault (Fault error) = Unit {0}
IsFault reply = ⊥

abbrev pub IsDirOrFault : Reply → Type 0
IsDirOrFault DirReply = Unit {0}
IsDirOrFault (Fault error) = Unit {0}
IsDirOrFault reply = ⊥

-- a path that ends in a slash names a directory or nothing
pub record AsksForDirectory (version : ℕ) (store : Store) (path : List ℕ) : Type 0 where
  pub stat : IsDirOrFault (posix version store (Stat path)).reply
  pub lstat : IsDirOrFault (posix version store (Lstat path)).reply
  pub readlink : IsFault (posix version store (Readlink path)).reply
  pub unlink : IsFault (posix version store (Unlink path)).reply
  pub symlink : (text : List ℕ) → IsFault (posix version store (Symlink text path)).reply

abbrev pub SlashesAskForDirectories : Type 0
SlashesAskForDirectories = (version : ℕ) (store : Store) (path : List ℕ) → slash_of path ≡ true → AsksForDirectory version store path

-- Lists.

abbrev pub names_in : Reply → List (List ℕ)
names_in (Names names) = names
names_in reply = []

-- the names of so many lists, each from where the one before ended
abbrev pub names_listed : ℕ → ℕ → Store → List ℕ → ℕ → List (List ℕ)
names_listed version zero store path start = []
names_listed version (suc lists) store path start = names_in (posix version store (ListCall path start)).reply ++ names_listed version lists store path (start + list_max)

-- a list is of the directory's names from that position on, and changes nothing. Lists from 0, from `list_max` and so on
-- are of all names, each once, in the order of their bytes
pub record ListsNames (version : ℕ) (store : Store) (path : List ℕ) (here : Spot) (directory : Listing) : Type 0 where
  pub one : (start : ℕ) → posix version store (ListCall path start) ≡ replied store (Names (take list_max (drop start (keys_of directory.entries))))
  pub all : (lists : ℕ) → length (keys_of directory.entries) ≤ lists * list_max → names_listed version lists store path 0 ≡ keys_of directory.entries
  pub order : HasNamesInOrder store here → IsStrictlySortedBy byte_order (keys_of directory.entries)

abbrev pub ListNamesEachOnce : Type 0
ListNamesEachOnce = (version : ℕ) (store : Store) (path : List ℕ) (there : Station) (directory : Listing) → path_fault path ≡ None → path_end version store Follows path ≡ Ok (Directory there) → directory_at store there.spot ≡ Some directory → ListsNames version store path there.spot directory

-- Moves.

-- an entry was moved: what the new name was before is replaced, and a moved directory keeps its id and its entries
pub record EntryRelocated (old new : Store) (from : Spot) (name : List ℕ) (to : Spot) (new_name : List ℕ) : Type 0 where
  pub entry : EntryMoved (names_at old from.backend) (names_at new from.backend) from.directory name to.directory new_name
  pub kept : (child : ℕ) (other : List ℕ) → node_of old from name ≡ Some (Dir child) → node_at (names_at new from.backend) child other ≡ node_at (names_at old from.backend) child other
  pub elsewhere : new ≡ after_loss (with_names old from.backend (names_at new from.backend)) from.backend (node_of old to new_name)

-- the two names are one entry, and nothing was changed
pub record IsOneEntry (old new : Store) (from : Spot) (name : List ℕ) (to : Spot) (new_name : List ℕ) : Type 0 where
  pub directory : from ≡ to
  pub name_is : name ≡ new_name
  pub same : new ≡ old

-- both paths name entries of one backend, and the one became the other unless both are one
pub record EntryRenamed (version : ℕ) (old new : Store) (path new_path : List ℕ) : Type 0 where
  pub from : Spot
  pub name : List ℕ
  pub names : NamesEntry version old path from name
  pub to : Spot
  pub new_name : List ℕ
  pub new_names : NamesEntry version old new_path to new_name
  pub beside : from.backend ≡ to.backend
  -- a slash at the end of either path asks for a directory
  pub slash : slash_of path || slash_of new_path ≡ true → (child : ℕ) × (node_of old from name ≡ Some (Dir child))
  pub moved : IsOneEntry old new from name to new_name ⊎ (IsSound (names_at old from.backend) → EntryRelocated old new from name to new_name)

-- after `rename` the new name is what the old one was, and the old one is no more, unless both are one entry
abbrev pub RenameMoves : Type 0
RenameMoves = (version : ℕ) (store : Store) (path new_path : List ℕ) → IsDone version store (Rename path new_path) → EntryRenamed version store (posix version store (Rename path new_path)).store path new_path
