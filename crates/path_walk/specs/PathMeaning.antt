-- Where a path leads in a store that stands still: pathname resolution of POSIX.1-2017, XBD 4.13, by recursion on
-- the components, with links followed and mounts entered. That only so many names may be taken and so many links be
-- followed is this project's own.
use Rattle.std.specs.Prelude.{ℕ, ◌==◌, ◌||◌, zero, suc, if◌then◌else◌, Bool, true, false, List, [], ◌∷◌, ◌++◌, Option, None, Some, Result, Ok, Err}
use Rattle.wf_core.specs.Limits.{path_names_max, symloop_max}
use Rattle.wf_core.specs.declared.errno.Errno.{Errno}
use Rattle.wf_core.specs.declared.errno.Errno.TheVariants.{Enoent, Enotdir, Eloop, Enametoolong}
use Rattle.name_store.specs.declared.operation.Node.{Node}
use Rattle.name_store.specs.declared.operation.Node.TheVariants.{Dir, Link, File as FileNode, Mount}
use Rattle.name_store.specs.NameTrees.{Listing, dir_at, entry_at}
use Rattle.path_walk.specs.declared.part.Part.{Part}
use Rattle.path_walk.specs.declared.part.Part.TheVariants.{Here, Up, Down, TooLong}
use Rattle.path_walk.specs.declared.route.Manner.{Manner}
use Rattle.path_walk.specs.declared.route.Manner.TheVariants.{OnWay, Stays}
use Rattle.path_walk.specs.declared.route.Spot.{Spot}
use Rattle.path_walk.specs.declared.route.Station.{Station}
use Rattle.path_walk.specs.declared.route.End.{End}
use Rattle.path_walk.specs.declared.route.End.TheVariants.{Directory, File, LinkText}
use Rattle.path_walk.specs.Store.{Store, names_at}
use Rattle.path_walk.specs.Paths.{is_absolute, parts_of, slash_of}

-- the root directory of a backend
abbrev pub root_of : ℕ → Spot
root_of backend = record { backend = backend; directory = 0 }

-- a directory, with so many names and so many links that a path may still take
abbrev pub station : ℕ → ℕ → Spot → Station
station names links spot = record { names = names; links = links; spot = spot }

-- where a walk starts, with all the names and links that one path may take
abbrev pub start_in : Spot → Station
start_in spot = station path_names_max symloop_max spot

-- in the root
abbrev pub path_start : Station
path_start = start_in (root_of 0)

-- a directory of the same backend
abbrev pub spot_beside : Spot → ℕ → Spot
spot_beside here directory = record { backend = here.backend; directory = directory }

-- where a text starts: at the root where it begins with a slash, else where it stands
abbrev pub start_of : List ℕ → Spot → Spot
start_of text here = if is_absolute text then root_of 0 else here

-- what is still to be walked, and from where: the parts, the slash flag, and how many links may still be followed
pub record Way : Type 0 where
  pub rest : List Part
  pub slash : Bool
  pub links : ℕ
  pub spot : Spot

abbrev pub way : List Part → Bool → ℕ → Spot → Way
way rest slash links spot = record { rest = rest; slash = slash; links = links; spot = spot }

-- a link's text stands before the rest. As the last of a path it sets the slash flag too
abbrev pub way_through : List ℕ → List Part → Bool → ℕ → Spot → Way
way_through text [] slash links here = way (parts_of text) (slash || slash_of text) links (start_of text here)
way_through text (part ∷ rest) slash links here = way (parts_of text ++ part ∷ rest) slash links (start_of text here)

-- what stands under a name ends the walk, or has it go on
pub data Course : Type 0 where
  ends : Result End Errno → Course
  goes : Way → Course

abbrev pub course_through : ℕ → List ℕ → List Part → Bool → Spot → Course
course_through zero text rest slash here = ends (Err Eloop)
course_through (suc links) text rest slash here = goes (way_through text rest slash links here)

-- a last file: with the slash flag it would have to be a directory
abbrev pub course_at_file : Manner → Bool → Spot → ℕ → Course
course_at_file OnWay slash here file = ends (Err Enotdir)
course_at_file manner slash here file = ends (if slash then Err Enotdir else Ok (File here.backend file))

-- a last link: where a walk does not follow it, the slash flag has it followed
abbrev pub is_followed : Manner → Bool → Bool
is_followed Stays slash = slash
is_followed manner slash = true

abbrev pub course_at_link : Bool → List ℕ → Bool → ℕ → Spot → Course
course_at_link true text slash links here = course_through links text [] slash here
course_at_link false text slash links here = ends (Ok (LinkText text))

-- to a link, by its text
abbrev pub course_to_link : Manner → List ℕ → List Part → Bool → ℕ → Spot → Course
course_to_link manner text [] slash links here = course_at_link (is_followed manner slash) text slash links here
course_to_link manner text (part ∷ rest) slash links here = course_through links text (part ∷ rest) slash here

-- from what stands under a name: the name is the last where no parts are left after it
abbrev pub course : Manner → Option Node → List Part → Bool → ℕ → Spot → Course
course manner None rest slash links here = ends (Err Enoent)
course manner (Some (Dir id)) rest slash links here = goes (way rest slash links (spot_beside here id))
course manner (Some (Mount backend)) rest slash links here = goes (way rest slash links (root_of backend))
course manner (Some (FileNode file)) [] slash links here = course_at_file manner slash here file
course manner (Some (FileNode file)) (part ∷ rest) slash links here = ends (Err Enotdir)
course manner (Some (Link id text)) rest slash links here = course_to_link manner text rest slash links here

abbrev pub end_of_course : Course → (Way → Result End Errno) → Result End Errno
end_of_course (ends end) next = end
end_of_course (goes w) next = next w

-- on from what was found, where it was
abbrev pub on_found : {A : Type 0} → Result A Errno → (A → Result End Errno) → Result End Errno
on_found (Ok x) next = next x
on_found (Err error) next = Err error

-- the entry of that name in a directory, where the directory is there
abbrev pub entry_in : Option Listing → List ℕ → Result (Option Node) Errno
entry_in None name = Err Enoent
entry_in (Some directory) name = Ok (entry_at directory name)

-- the directory above another, where that is there
abbrev pub parent_in : Option Listing → Spot → Result Spot Errno
parent_in None here = Err Enoent
parent_in (Some directory) here = Ok (spot_beside here directory.parent)

-- `..` in a backend's root is the root, since mounts stand there alone; in the root it stays, as XBD 4.13 allows
abbrev pub parent_from : Store → Spot → Result Spot Errno
parent_from store here =
    if here.directory == 0 then Ok (root_of 0)
    else parent_in (dir_at (names_at store here.backend) here.directory) here

-- where the parts lead from a directory, with so many names that may still be taken and so many links
abbrev pub resolve : Store → ℕ → List Part → Manner → Bool → ℕ → Spot → Result End Errno
resolve store names [] manner slash links here = Ok (Directory (station names links here))
resolve store names (Here ∷ rest) manner slash links here = resolve store names rest manner slash links here
resolve store names (TooLong ∷ rest) manner slash links here = Err Enametoolong
resolve store zero (Up ∷ rest) manner slash links here = Err Enametoolong
resolve store (suc names) (Up ∷ rest) manner slash links here =
    on_found (parent_from store here) (λ there. resolve store names rest manner slash links there)
resolve store zero (Down name ∷ rest) manner slash links here = Err Enametoolong
resolve store (suc names) (Down name ∷ rest) manner slash links here =
    on_found (entry_in (dir_at (names_at store here.backend) here.directory) name) (λ node.
    end_of_course (course manner node rest slash links here) (λ w. resolve store names w.rest manner w.slash w.links w.spot))
