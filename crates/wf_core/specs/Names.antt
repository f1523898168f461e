-- Names of directory entries and texts of paths, as bytes.
use Rattle.std.specs.Prelude.{ℕ, Bool, ◌&&◌, ◌==◌, not, nat_le, List, length, codes}
use Rattle.std.specs.List.{list_all}
use Rattle.std.specs.Cmp.Lexicographic.{pointwise}
use Rattle.wf_core.specs.Limits.{name_max}

-- the byte that separates the components of a path
abbrev pub is_slash : ℕ → Bool
is_slash byte = byte == 47

-- the two texts have the same bytes
abbrev pub is_text : List ℕ → List ℕ → Bool
is_text = pointwise (λ a b. a == b)

abbrev pub is_dot : List ℕ → Bool
is_dot name = is_text name (codes ".")

abbrev pub is_dot_dot : List ℕ → Bool
is_dot_dot name = is_text name (codes "..")

-- no byte 0, which ends a string
abbrev pub has_no_nul : List ℕ → Bool
has_no_nul bytes = list_all (λ byte. not (byte == 0)) bytes

-- neither a slash nor byte 0
abbrev pub is_name_byte : ℕ → Bool
is_name_byte byte = not (is_slash byte) && not (byte == 0)

-- what a name may be, its length apart (POSIX.1-2017, XBD 3.170)
abbrev pub is_filename : List ℕ → Bool
is_filename bytes = not (length bytes == 0) && not (is_dot bytes) && not (is_dot_dot bytes) && list_all is_name_byte bytes

-- a name: a filename that is not too long
abbrev pub is_name : List ℕ → Bool
is_name bytes = nat_le (length bytes) name_max && is_filename bytes
