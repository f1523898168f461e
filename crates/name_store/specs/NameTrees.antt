-- The names of one backend: directories by their ids, and what each operation answers and leaves.
-- After POSIX.1-2017, XBD 4.13 (what a directory's entries name) and XSH mkdir(), rmdir(), unlink(), symlink()
-- and rename(). The ids, the answer `Gone` where a directory that an operation names is not there, and all that
-- is marked (own) are this project's own.
use Rattle.std.specs.Prelude.{ℕ, ◌==◌, nat_eq, zero, suc, Bool, true, false, ◌&&◌, if◌then◌else◌, List, [], ◌∷◌, ◌++◌, length, take, drop, fold, Option, None, Some, slice_get, slice_set}
use Rattle.std.specs.declared.cmp.Ordering.{Ordering}
use Rattle.std.specs.Ordering.{nat_cmp}
use Rattle.std.specs.Cmp.Lexicographic.{pointwise, slice_cmp}
use Rattle.std.specs.Map.{keys_of, lookup, remove_entry}
use Rattle.std.specs.BTreeMap.{insert_entry, is_at}
use Rattle.wf_core.specs.Limits.{list_max}
use Rattle.wf_core.specs.declared.errno.Errno.{Errno}
use Rattle.wf_core.specs.declared.errno.Errno.TheVariants.{Enoent, Eexist, Enotdir, Eisdir, Enotempty, Einval, Ebusy}
use Rattle.name_store.specs.declared.operation.Node.{Node}
use Rattle.name_store.specs.declared.operation.Node.TheVariants.{Dir, Link, File, Mount}
use Rattle.name_store.specs.declared.operation.NameOp.{NameOp}
use Rattle.name_store.specs.declared.operation.NameOp.TheVariants.{Look, Parent, Makedir, Addlink, Addfile, Remfile, Remdir, Move, List as ListOp}
use Rattle.name_store.specs.declared.operation.NameAnswer.{NameAnswer}
use Rattle.name_store.specs.declared.operation.NameAnswer.TheVariants.{Gone, Absent, Found, MadeDir, MadeLink, Taken, Done, RemovedFile, RemovedLink, Same, Over, Moved, Names, Fault}

-- a directory: its parent's id, and its entries in the order of their names' bytes
pub record Listing : Type 0 where
  pub parent : ℕ
  pub entries : List (List ℕ × Node)

-- a tree: a finite map from the ids 0, 1, 2 and so on to directories, as their list. Directories and links
-- share one count of ids: the next id is the list's length, and a link's id, like that of a directory that was
-- removed, has no directory. A link's text stands in its entry. Directory 0 is the root, which is its own parent.
abbrev pub Tree : Type 0
Tree = List (Option Listing)

-- the order of names
abbrev pub byte_order : List ℕ → List ℕ → Ordering
byte_order = slice_cmp nat_cmp

abbrev pub in_slot : Option (Option Listing) → Option Listing
in_slot None = None
in_slot (Some slot) = slot

-- the directory of an id, where there is one
abbrev pub dir_at : Tree → ℕ → Option Listing
dir_at tree id = in_slot (slice_get tree id)

-- what a directory's entry of that name is, where there is one
abbrev pub entry_at : Listing → List ℕ → Option Node
entry_at directory name = lookup (is_at (byte_order name)) directory.entries

-- a directory without entries
abbrev pub empty_in : ℕ → Listing
empty_in parent = record { parent = parent; entries = [] }

-- the directory with that entry, in the place of the one of that name where there is one
abbrev pub with_entry : Listing → List ℕ → Node → Listing
with_entry directory name node = record { parent = directory.parent; entries = insert_entry byte_order directory.entries name node }

abbrev pub without_entry : Listing → List ℕ → Listing
without_entry directory name = record { parent = directory.parent; entries = remove_entry (is_at (byte_order name)) directory.entries }

abbrev pub with_parent : Listing → ℕ → Listing
with_parent directory parent = record { parent = parent; entries = directory.entries }

-- a directory with a mount of a backend under a name
abbrev pub with_mount : Listing → List ℕ × ℕ → Listing
with_mount root (name, backend) = with_entry root name (Mount backend)

-- the tree before the first operation: the root alone, in which each backend is mounted under its name
abbrev pub opening : List (List ℕ × ℕ) → Tree
opening mounts = Some (fold with_mount (empty_in 0) mounts) ∷ []

-- The changes of a tree. Each changes one directory, and nothing where that is not there.

abbrev pub with_change_at : Tree → ℕ → (Listing → Listing) → Option Listing → Tree
with_change_at tree id change None = tree
with_change_at tree id change (Some directory) = slice_set tree id (Some (change directory))

-- directory `id` has that entry
abbrev pub with_entry_at : Tree → ℕ → List ℕ → Node → Tree
with_entry_at tree id name node = with_change_at tree id (λ directory. with_entry directory name node) (dir_at tree id)

-- directory `id` has no entry of that name
abbrev pub without_entry_at : Tree → ℕ → List ℕ → Tree
without_entry_at tree id name = with_change_at tree id (λ directory. without_entry directory name) (dir_at tree id)

-- directory `id`, where one is given, has that parent
abbrev pub with_parent_at : Tree → Option ℕ → ℕ → Tree
with_parent_at tree None parent = tree
with_parent_at tree (Some id) parent = with_change_at tree id (λ directory. with_parent directory parent) (dir_at tree id)

-- `id`, where one is given, has no directory
abbrev pub without_directory : Tree → Option ℕ → Tree
without_directory tree None = tree
without_directory tree (Some id) = slice_set tree id None

-- directory `id` has a new directory under that name
abbrev pub with_new_directory : Tree → ℕ → List ℕ → Tree
with_new_directory tree id name = with_entry_at tree id name (Dir (length tree)) ++ Some (empty_in id) ∷ []

-- directory `id` has a new link under that name
abbrev pub with_new_link : Tree → ℕ → List ℕ → List ℕ → Tree
with_new_link tree id name text = with_entry_at tree id name (Link (length tree) text) ++ None ∷ []

-- the directory that a node is
abbrev pub dir_of : Node → Option ℕ
dir_of (Dir id) = Some id
dir_of (Link id text) = None
dir_of (File file) = None
dir_of (Mount backend) = None

abbrev pub dir_in : Option Node → Option ℕ
dir_in None = None
dir_in (Some node) = dir_of node

-- the entry `name` of directory `from`, which is that node, moved to `to` under a new name, in the place of `over`.
-- A moved directory has `to` as its parent, and a directory that is replaced is no more.
abbrev pub after_move : Tree → ℕ → List ℕ → ℕ → List ℕ → Node → Option Node → Tree
after_move tree from name to new_name node over =
    without_directory (with_parent_at (without_entry_at (with_entry_at tree to new_name node) from name) (dir_of node) to) (dir_in over)

-- What an operation answers, and the tree that it leaves.

pub record NamesOutcome : Type 0 where
  pub tree : Tree
  pub answer : NameAnswer

abbrev pub outcome_of : Tree → NameAnswer → NamesOutcome
outcome_of tree answer = record { tree = tree; answer = answer }

-- what an operation on a directory comes to, where that is there; else the answer is `Gone`, before any other
abbrev pub unless_gone : Tree → Option Listing → (Listing → NamesOutcome) → NamesOutcome
unless_gone tree None outcome = outcome_of tree Gone
unless_gone tree (Some directory) outcome = outcome directory

-- `look`
abbrev pub look_answer_at : Option Node → NameAnswer
look_answer_at None = Absent
look_answer_at (Some node) = Found node

abbrev pub look_answer : Listing → List ℕ → NameAnswer
look_answer directory name = look_answer_at (entry_at directory name)

-- `parent`
abbrev pub parent_answer : Listing → NameAnswer
parent_answer directory = Found (Dir directory.parent)

-- `makedir`: EEXIST where the name is there
abbrev pub makedir_outcome_at : Tree → ℕ → List ℕ → Option Node → NamesOutcome
makedir_outcome_at tree id name (Some node) = outcome_of tree (Fault Eexist)
makedir_outcome_at tree id name None = outcome_of (with_new_directory tree id name) (MadeDir (length tree))

abbrev pub makedir_outcome : Tree → ℕ → List ℕ → Listing → NamesOutcome
makedir_outcome tree id name directory = makedir_outcome_at tree id name (entry_at directory name)

-- `addlink`: EEXIST where the name is there
abbrev pub addlink_outcome_at : Tree → ℕ → List ℕ → List ℕ → Option Node → NamesOutcome
addlink_outcome_at tree id name text (Some node) = outcome_of tree (Fault Eexist)
addlink_outcome_at tree id name text None = outcome_of (with_new_link tree id name text) (MadeLink (length tree))

abbrev pub addlink_outcome : Tree → ℕ → List ℕ → List ℕ → Listing → NamesOutcome
addlink_outcome tree id name text directory = addlink_outcome_at tree id name text (entry_at directory name)

-- `addfile`: what is there where the name is taken
abbrev pub addfile_outcome_at : Tree → ℕ → List ℕ → ℕ → Option Node → NamesOutcome
addfile_outcome_at tree id name file (Some node) = outcome_of tree (Taken node)
addfile_outcome_at tree id name file None = outcome_of (with_entry_at tree id name (File file)) Done

abbrev pub addfile_outcome : Tree → ℕ → List ℕ → ℕ → Listing → NamesOutcome
addfile_outcome tree id name file directory = addfile_outcome_at tree id name file (entry_at directory name)

-- `remfile`: ENOENT, EISDIR for a directory or a mount, ENOTDIR where a slash follows the name
abbrev pub remfile_outcome_at : Tree → ℕ → List ℕ → Bool → Option Node → NamesOutcome
remfile_outcome_at tree id name slash None = outcome_of tree (Fault Enoent)
remfile_outcome_at tree id name slash (Some (Dir child)) = outcome_of tree (Fault Eisdir)
remfile_outcome_at tree id name slash (Some (Mount backend)) = outcome_of tree (Fault Eisdir)
remfile_outcome_at tree id name true (Some (File file)) = outcome_of tree (Fault Enotdir)
remfile_outcome_at tree id name true (Some (Link link text)) = outcome_of tree (Fault Enotdir)
remfile_outcome_at tree id name false (Some (File file)) = outcome_of (without_entry_at tree id name) (RemovedFile file)
remfile_outcome_at tree id name false (Some (Link link text)) = outcome_of (without_entry_at tree id name) RemovedLink

abbrev pub remfile_outcome : Tree → ℕ → List ℕ → Bool → Listing → NamesOutcome
remfile_outcome tree id name slash directory = remfile_outcome_at tree id name slash (entry_at directory name)

-- there is no entry in a directory, or there is no directory
abbrev pub is_empty : Option Listing → Bool
is_empty None = true
is_empty (Some directory) = length directory.entries == 0

-- `remdir`: ENOENT, EBUSY for a mount, ENOTDIR for a file or a link, ENOTEMPTY
abbrev pub remdir_child_outcome : Tree → ℕ → List ℕ → ℕ → Bool → NamesOutcome
remdir_child_outcome tree id name child false = outcome_of tree (Fault Enotempty)
remdir_child_outcome tree id name child true = outcome_of (without_directory (without_entry_at tree id name) (Some child)) Done

abbrev pub remdir_outcome_at : Tree → ℕ → List ℕ → Option Node → NamesOutcome
remdir_outcome_at tree id name None = outcome_of tree (Fault Enoent)
remdir_outcome_at tree id name (Some (Mount backend)) = outcome_of tree (Fault Ebusy)
remdir_outcome_at tree id name (Some (File file)) = outcome_of tree (Fault Enotdir)
remdir_outcome_at tree id name (Some (Link link text)) = outcome_of tree (Fault Enotdir)
remdir_outcome_at tree id name (Some (Dir child)) = remdir_child_outcome tree id name child (is_empty (dir_at tree child))

abbrev pub remdir_outcome : Tree → ℕ → List ℕ → Listing → NamesOutcome
remdir_outcome tree id name directory = remdir_outcome_at tree id name (entry_at directory name)

-- `move`

-- a directory's parent, and the root where there is no directory
abbrev pub parent_or_root : Option Listing → ℕ
parent_or_root None = 0
parent_or_root (Some directory) = directory.parent

abbrev pub up : Tree → ℕ → ℕ
up tree id = parent_or_root (dir_at tree id)

-- whether `top` is met on the way from `id` up to the root, in at most so many steps
abbrev pub is_inside : ℕ → Tree → ℕ → ℕ → Bool
is_inside zero tree top id = false
is_inside (suc steps) tree top id = if id == top then true else (if id == 0 then false else is_inside steps tree top (up tree id))

-- why a node is not moved to directory `to` at all: a mount is EBUSY (own), one that is no directory is ENOTDIR
-- where a slash follows a name (own), and a directory into itself is EINVAL
abbrev pub move_fault : Tree → Node → ℕ → Bool → Option Errno
move_fault tree (Mount backend) to slash = Some Ebusy
move_fault tree (File file) to slash = if slash then Some Enotdir else None
move_fault tree (Link id text) to slash = if slash then Some Enotdir else None
move_fault tree (Dir id) to slash = if is_inside (length tree) tree id to then Some Einval else None

-- a mount is not replaced: EBUSY (own)
abbrev pub mount_fault : Option Node → Option Errno
mount_fault (Some (Mount backend)) = Some Ebusy
mount_fault over = None

-- why a node does not take another's place: a directory takes an empty directory's, another kind another kind's
abbrev pub over_fault : Tree → Node → Option Node → Option Errno
over_fault tree node None = None
over_fault tree (Dir id) (Some (Dir other)) = if is_empty (dir_at tree other) then None else Some Enotempty
over_fault tree (Dir id) (Some over) = Some Enotdir
over_fault tree node (Some (Dir other)) = Some Eisdir
over_fault tree node (Some over) = None

abbrev pub move_answer : Option Node → NameAnswer
move_answer (Some (File file)) = Over file
move_answer over = Moved

-- the same entry of the same directory
abbrev pub is_same_entry : ℕ → List ℕ → ℕ → List ℕ → Bool
is_same_entry from name to new_name = from == to && pointwise nat_eq name new_name

-- the first refusal, or else the outcome
abbrev pub unless_refused : Option Errno → Tree → NamesOutcome → NamesOutcome
unless_refused (Some error) tree outcome = outcome_of tree (Fault error)
unless_refused None tree outcome = outcome

abbrev pub move_outcome_over : Tree → ℕ → List ℕ → ℕ → List ℕ → Node → Option Node → NamesOutcome
move_outcome_over tree from name to new_name node over =
    if is_same_entry from name to new_name then outcome_of tree Same
    else unless_refused (over_fault tree node over) tree (outcome_of (after_move tree from name to new_name node over) (move_answer over))

abbrev pub move_outcome_at : Tree → ℕ → List ℕ → ℕ → List ℕ → Bool → Option Node → Option Node → NamesOutcome
move_outcome_at tree from name to new_name slash None over = outcome_of tree (Fault Enoent)
move_outcome_at tree from name to new_name slash (Some node) over =
    unless_refused (move_fault tree node to slash) tree
    (unless_refused (mount_fault over) tree
    (move_outcome_over tree from name to new_name node over))

abbrev pub move_outcome : Tree → ℕ → List ℕ → ℕ → List ℕ → Bool → Listing → Listing → NamesOutcome
move_outcome tree from name to new_name slash source target = move_outcome_at tree from name to new_name slash (entry_at source name) (entry_at target new_name)

-- `list`: the names from a position on, as many as one list has, mounts among them
abbrev pub names_from : Listing → ℕ → List (List ℕ)
names_from directory start = take list_max (drop start (keys_of directory.entries))

abbrev pub list_answer : Listing → ℕ → NameAnswer
list_answer directory start = Names (names_from directory start)

-- each operation on a tree
abbrev pub nstep : Tree → NameOp → NamesOutcome
nstep tree (Look id name) = unless_gone tree (dir_at tree id) (λ directory. outcome_of tree (look_answer directory name))
nstep tree (Parent id) = unless_gone tree (dir_at tree id) (λ directory. outcome_of tree (parent_answer directory))
nstep tree (Makedir id name) = unless_gone tree (dir_at tree id) (makedir_outcome tree id name)
nstep tree (Addlink id name text) = unless_gone tree (dir_at tree id) (addlink_outcome tree id name text)
nstep tree (Addfile id name file) = unless_gone tree (dir_at tree id) (addfile_outcome tree id name file)
nstep tree (Remfile id name slash) = unless_gone tree (dir_at tree id) (remfile_outcome tree id name slash)
nstep tree (Remdir id name) = unless_gone tree (dir_at tree id) (remdir_outcome tree id name)
nstep tree (Move from name to new_name slash) = unless_gone tree (dir_at tree from) (λ source. unless_gone tree (dir_at tree to) (move_outcome tree from name to new_name slash source))
nstep tree (ListOp id start) = unless_gone tree (dir_at tree id) (λ directory. outcome_of tree (list_answer directory start))
