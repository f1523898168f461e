-- The limits of the file system and of a run, each once. Where POSIX.1-2017 names a limit (XBD <limits.h>) the
-- name is POSIX's, and its value, as that of all others, is this project's own.
use Rattle.std.specs.Prelude.{ℕ}

-- the most bytes of a name
abbrev pub name_max : ℕ
name_max = 255

-- the most bytes of a path, with the byte 0 that ends it in C: so a path itself has at most 4,095
abbrev pub path_max : ℕ
path_max = 4096

-- the most names that one path may take. A component `.` takes none
abbrev pub path_names_max : ℕ
path_names_max = 256

-- the most links that one path may follow
abbrev pub symloop_max : ℕ
symloop_max = 40

-- the most bytes of a link's text
abbrev pub symlink_max : ℕ
symlink_max = 255

-- the most steps that one file call takes
abbrev pub call_steps_max : ℕ
call_steps_max = 1100

-- how many descriptors there are, which are numbered from 0
abbrev pub open_max : ℕ
open_max = 1024

-- the most names of one list
abbrev pub list_max : ℕ
list_max = 32

-- the most bytes of one read
abbrev pub read_max : ℕ
read_max = 4096

-- the bytes of a page, in which a file's bytes are kept
abbrev pub page_size : ℕ
page_size = 4096

-- the most bytes of a file
abbrev pub file_max : ℕ
file_max = 16777216

-- the most bytes of all files of a group
abbrev pub group_max : ℕ
group_max = 67108864

-- how many groups a backend's files are in. The ids of one group lie this far apart
abbrev pub group_count : ℕ
group_count = 4

-- the greatest offset of a seek, 2^40
abbrev pub offset_max : ℕ
offset_max = 1099511627776

-- the most bytes of the input of a run
abbrev pub input_max : ℕ
input_max = 16777216

-- the most bytes of a trace's line, without the newline that ends it
abbrev pub line_max : ℕ
line_max = 8192

-- the most threads of a trace
abbrev pub threads_max : ℕ
threads_max = 16

-- the most backends of a trace, the root among them
abbrev pub backends_max : ℕ
backends_max = 8

-- the most calls of a trace
abbrev pub calls_max : ℕ
calls_max = 8192
