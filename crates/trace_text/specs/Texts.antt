-- The texts of replies, of tree lines and of a refusal.
use Rattle.std.specs.Prelude.{ℕ, ◌+◌, ◌-◌, ◌/◌, ◌%◌, if◌then◌else◌, List, [], ◌∷◌, ◌++◌, length, codes, slice_get, Option, None, Some, option_and_then}
use Rattle.std.specs.List.{flat_map, range_with_len}
use Rattle.std.specs.Fmt.{decimal}
use Rattle.wf_core.specs.Errors.{error_word}
use Rattle.wf_core.specs.Limits.{group_count, page_size}
use Rattle.name_store.specs.declared.tree_line.TreeLine.{TreeLine}
use Rattle.name_store.specs.declared.tree_line.TreeLine.TheVariants.{Dir as DirLine, Link as LinkLine, File as FileLine, Mount as MountLine}
use Rattle.file_store.specs.declared.file.File.{File}
use Rattle.file_store.specs.FileBytes.{all_zero, page_of}
use Rattle.file_store.specs.FileGroups.{Group, file_at}
use Rattle.path_walk.specs.declared.call.Reply.{Reply}
use Rattle.path_walk.specs.declared.call.Reply.TheVariants.{Done, Dir, File as FileReply, Link, Text, Names, Fd, Bytes, Count, At, Fault}
use Rattle.trace_text.specs.declared.refusal.Refusal.{Refusal}
use Rattle.trace_text.specs.Fields.{text_field}
use Rattle.trace_text.specs.Refusals.{fault_word}

-- a text field behind a space
abbrev pub next_field : List ℕ → List ℕ
next_field text = 32 ∷ text_field text

abbrev pub reply_text : Reply → List ℕ
reply_text Done = codes "ok"
reply_text Dir = codes "ok dir"
reply_text (FileReply size) = codes "ok file " ++ decimal size
reply_text (Link size) = codes "ok link " ++ decimal size
reply_text (Text text) = codes "ok" ++ next_field text
reply_text (Names names) = codes "ok" ++ flat_map next_field names
reply_text (Fd number) = codes "ok " ++ decimal number
reply_text (Bytes bytes) = codes "ok" ++ next_field bytes
reply_text (Count count) = codes "ok " ++ decimal count
reply_text (At offset) = codes "ok " ++ decimal offset
reply_text (Fault error) = error_word error

-- `reply THREAD N REPLY`
abbrev pub reply_line : List ℕ → ℕ → Reply → List ℕ
reply_line thread number reply = codes "reply " ++ thread ++ codes " " ++ decimal number ++ codes " " ++ reply_text reply ++ 10 ∷ []

-- `WORD DEPTH NAME`
abbrev pub named_text : List ℕ → ℕ → List ℕ → List ℕ
named_text word depth name = word ++ codes " " ++ decimal depth ++ next_field name

-- Files.

-- the bytes up to the last other than 0
abbrev pub up_to_last : List ℕ → List ℕ
up_to_last [] = []
up_to_last (byte ∷ bytes) = if all_zero (byte ∷ bytes) then [] else byte ∷ up_to_last bytes

-- `page INDEX BYTES`, of a page that has a byte other than 0
abbrev pub page_line : ℕ → Option (List ℕ) → List ℕ
page_line page None = []
page_line page (Some bytes) = codes "page " ++ decimal page ++ next_field (up_to_last bytes) ++ 10 ∷ []

-- how many pages so many bytes take
abbrev pub pages_in : ℕ → ℕ
pages_in size = (size + (page_size - 1)) / page_size

abbrev pub page_lines : List ℕ → List ℕ
page_lines bytes = flat_map (λ page. page_line page (page_of bytes page)) (range_with_len 0 (pages_in (length bytes)))

-- the file of an id, where the groups of a backend have it
abbrev pub file_in : List Group → ℕ → Option File
file_in groups file = option_and_then (λ group. file_at group file) (slice_get groups (file % group_count))

-- what follows a file's name: its size, and its pages. A file that the store does not have has size 0
abbrev pub contents_text : Option File → List ℕ
contents_text None = codes " 0" ++ 10 ∷ []
contents_text (Some file) = codes " " ++ decimal (length file.bytes) ++ codes "\n" ++ page_lines file.bytes

-- `dir DEPTH NAME`, which a mount is too, `link DEPTH NAME TEXT`, or `file DEPTH NAME SIZE` and the file's pages, of an
-- entry of a backend with these groups of files, that stands `deeper` levels below the backend's own depth
abbrev pub tree_text : List Group → ℕ → TreeLine → List ℕ
tree_text groups deeper (DirLine depth name) = named_text (codes "dir") (deeper + depth) name ++ 10 ∷ []
tree_text groups deeper (MountLine depth name backend) = named_text (codes "dir") (deeper + depth) name ++ 10 ∷ []
tree_text groups deeper (LinkLine depth name text) = named_text (codes "link") (deeper + depth) name ++ next_field text ++ 10 ∷ []
tree_text groups deeper (FileLine depth name file) = named_text (codes "file") (deeper + depth) name ++ contents_text (file_in groups file)

-- the last line of each text
abbrev pub end_line : List ℕ
end_line = codes "end" ++ 10 ∷ []

-- `line N: WORD`
abbrev pub refusal_text : Refusal → List ℕ
refusal_text refusal = codes "line " ++ decimal refusal.line ++ codes ": " ++ fault_word refusal.fault ++ 10 ∷ []
