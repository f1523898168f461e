-- Laws of the definitions, which say what a user may conclude of the entries that calls make, remove and find:
-- POSIX.1-2017, XSH mkdir(), rmdir(), unlink(), symlink(), readlink(), stat() and lstat().
use Rattle.std.specs.Prelude.{◌≡◌, ℕ, List, length, Some}
use Rattle.wf_core.specs.declared.errno.Errno.TheVariants.{Enoent, Eexist}
use Rattle.name_store.specs.declared.operation.Node.{Node}
use Rattle.name_store.specs.declared.operation.Node.TheVariants.{Link}
use Rattle.name_store.specs.NameTrees.{Tree}
use Rattle.name_store.specs.Sound.{IsSound}
use Rattle.name_store.specs.EntryLaws.{DirectoryMade, DirectoryRemoved, LeafMade, LeafRemoved}
use Rattle.path_walk.specs.declared.route.Spot.{Spot}
use Rattle.path_walk.specs.declared.call.Call.{Call}
use Rattle.path_walk.specs.declared.call.Call.TheVariants.{Mkdir, Rmdir, Unlink, Symlink, Readlink, Stat, Lstat}
use Rattle.path_walk.specs.declared.call.Reply.TheVariants.{Done, Dir, Link as LinkReply, Text, Fault}
use Rattle.path_walk.specs.Store.{Store, names_at, with_names}
use Rattle.call_laws.specs.Entries.{HasNamesInOrder, NamesEntry, after_loss}
use Rattle.path_walk.specs.Posix.{posix}

-- the entry that a path names was changed so, in the names of its directory's backend, and nothing else was
pub record EntryChanged (version : ℕ) (old new : Store) (path : List ℕ) (Changed : Tree → Tree → ℕ → List ℕ → Type 0) : Type 0 where
  pub here : Spot
  pub name : List ℕ
  pub names : NamesEntry version old path here name
  pub changed : IsSound (names_at old here.backend) → Changed (names_at old here.backend) (names_at new here.backend) here.directory name
  pub elsewhere : new ≡ with_names old here.backend (names_at new here.backend)

-- the same of a file or a link that was removed; a file is no longer linked
pub record LeafUnlinked (version : ℕ) (old new : Store) (path : List ℕ) : Type 0 where
  pub here : Spot
  pub name : List ℕ
  pub names : NamesEntry version old path here name
  pub node : Node
  pub changed : IsSound (names_at old here.backend) → LeafRemoved (names_at old here.backend) (names_at new here.backend) here.directory name node
  pub elsewhere : new ≡ after_loss (with_names old here.backend (names_at new here.backend)) here.backend (Some node)

abbrev pub IsDone : ℕ → Store → Call → Type 0
IsDone version store call = (posix version store call).reply ≡ Done

-- `mkdir` makes an empty directory where its path says, and nothing else
abbrev pub MkdirMakes : Type 0
MkdirMakes = (version : ℕ) (store : Store) (path : List ℕ) → IsDone version store (Mkdir path) → EntryChanged version store (posix version store (Mkdir path)).store path (λ old new id name. (made : ℕ) × DirectoryMade old new id name made)

-- `symlink` makes a link with its text, and nothing else
abbrev pub SymlinkMakes : Type 0
SymlinkMakes = (version : ℕ) (store : Store) (text path : List ℕ) → IsDone version store (Symlink text path) → EntryChanged version store (posix version store (Symlink text path)).store path (λ old new id name. (link : ℕ) × LeafMade old new id name (Link link text))

-- `rmdir` takes away the empty directory that its path names, and nothing else
abbrev pub RmdirRemoves : Type 0
RmdirRemoves = (version : ℕ) (store : Store) (path : List ℕ) → IsDone version store (Rmdir path) → EntryChanged version store (posix version store (Rmdir path)).store path DirectoryRemoved

-- `unlink` takes away the file or the link that its path names, and nothing else
abbrev pub UnlinkRemoves : Type 0
UnlinkRemoves = (version : ℕ) (store : Store) (path : List ℕ) → IsDone version store (Unlink path) → LeafUnlinked version store (posix version store (Unlink path)).store path

-- what `mkdir` made is a directory to `stat`, and is made once
pub record MadeIsThere (version : ℕ) (store : Store) (path : List ℕ) : Type 0 where
  pub stat : (posix version (posix version store (Mkdir path)).store (Stat path)).reply ≡ Dir
  pub once : (posix version (posix version store (Mkdir path)).store (Mkdir path)).reply ≡ Fault Eexist

abbrev pub MkdirThenStat : Type 0
MkdirThenStat = (version : ℕ) (store : Store) (path : List ℕ) → IsDone version store (Mkdir path) → MadeIsThere version store path

-- what `symlink` made has its text to `readlink`, and that text's length to `lstat`
pub record LinkIsThere (version : ℕ) (store : Store) (text path : List ℕ) : Type 0 where
  pub readlink : (posix version (posix version store (Symlink text path)).store (Readlink path)).reply ≡ Text text
  pub lstat : (posix version (posix version store (Symlink text path)).store (Lstat path)).reply ≡ LinkReply (length text)

abbrev pub SymlinkThenReadlink : Type 0
SymlinkThenReadlink = (version : ℕ) (store : Store) (text path : List ℕ) → IsDone version store (Symlink text path) → LinkIsThere version store text path

-- what `rmdir` or `unlink` took away is not there
abbrev pub RmdirThenLstat : Type 0
RmdirThenLstat = (version : ℕ) (store : Store) (path : List ℕ) (here : Spot) (name : List ℕ) → NamesEntry version store path here name → HasNamesInOrder store here → IsDone version store (Rmdir path) → (posix version (posix version store (Rmdir path)).store (Lstat path)).reply ≡ Fault Enoent

abbrev pub UnlinkThenLstat : Type 0
UnlinkThenLstat = (version : ℕ) (store : Store) (path : List ℕ) (here : Spot) (name : List ℕ) → NamesEntry version store path here name → HasNamesInOrder store here → IsDone version store (Unlink path) → (posix version (posix version store (Unlink path)).store (Lstat path)).reply ≡ Fault Enoent
