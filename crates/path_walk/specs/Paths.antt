-- The components of a path, after POSIX.1-2017, XBD 4.13. The limits are this project's own.
use Rattle.std.specs.Prelude.{ℕ, ◌==◌, ◌-◌, ◌&&◌, Bool, false, if◌then◌else◌, not, nat_lt, List, [], ◌∷◌, length, map, filter, take, Option, None, Some, slice_get, slice_index_or}
use Rattle.std.specs.List.{slice_split}
use Rattle.wf_core.specs.Limits.{name_max, path_max}
use Rattle.wf_core.specs.Names.{is_slash, is_dot, is_dot_dot}
use Rattle.wf_core.specs.declared.errno.Errno.{Errno}
use Rattle.wf_core.specs.declared.errno.Errno.TheVariants.{Enoent, Enametoolong}
use Rattle.path_walk.specs.declared.part.Part.{Part}
use Rattle.path_walk.specs.declared.part.Part.TheVariants.{Here, Up, Down, TooLong}

-- what stands between slashes; several slashes count as one (XBD 4.13)
abbrev pub components : List ℕ → List (List ℕ)
components path = filter (λ piece. not (length piece == 0)) (slice_split is_slash path)

-- what a component asks for: `.` to stay, `..` to go up, a name to go down (XBD 4.13)
abbrev pub part_of : List ℕ → Part
part_of component =
    if is_dot component then Here
    else if is_dot_dot component then Up
    else if nat_lt name_max (length component) then TooLong
    else Down component

abbrev pub parts_of : List ℕ → List Part
parts_of path = map part_of (components path)

-- the last component of a path that has one, and those before it
abbrev pub last_of : List Part → Option Part
last_of parts = slice_get parts (length parts - 1)

abbrev pub front_of : List Part → List Part
front_of parts = take (length parts - 1) parts

-- a last component that is a name, and what stands before it; where it is `.` or `..` or there is none, that is the whole
abbrev pub name_in : Option Part → Option (List ℕ)
name_in (Some (Down name)) = Some name
name_in last = None

abbrev pub parts_before : Option Part → List Part → List Part
parts_before (Some (Down name)) parts = front_of parts
parts_before last parts = parts

-- the error of a path that is not walked at all: it is empty (XBD 4.13), or with the byte 0
-- at its end it has more bytes than a path may have
abbrev pub path_fault : List ℕ → Option Errno
path_fault path =
    if length path == 0 then Some Enoent
    else if nat_lt (path_max - 1) (length path) then Some Enametoolong
    else None

-- a path that begins with a slash starts in the root (XBD 4.13)
abbrev pub is_absolute : List ℕ → Bool
is_absolute [] = false
is_absolute (byte ∷ path) = is_slash byte

abbrev pub ends_in_slash : List ℕ → Bool
ends_in_slash path = is_slash (slice_index_or path (length path - 1) 0)

-- the slash flag: slashes at the end of a path that has a component ask for a directory (XBD 4.13)
abbrev pub slash_of : List ℕ → Bool
slash_of path = not (length (components path) == 0) && ends_in_slash path
