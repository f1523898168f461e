-- The words of lines, with the fields that stand behind them: of declarations, and of calls, a row for each.
use Rattle.std.specs.Prelude.{ℕ, ◌==◌, ◌&&◌, not, if◌then◌else◌, Bool, true, false, List, [], ◌∷◌, Option, None, Some, option_map, option_and_then, find, codes}
use Rattle.std.specs.List.{slice_split}
use Rattle.std.specs.Option.{option_or}
use Rattle.wf_core.specs.Names.{is_text}
use Rattle.file_store.specs.declared.file_operation.Access.{Access}
use Rattle.file_store.specs.declared.file_operation.Access.TheVariants as access
use Rattle.file_store.specs.declared.file_operation.Whence.{Whence}
use Rattle.file_store.specs.declared.file_operation.Whence.TheVariants as whence
use Rattle.path_walk.specs.declared.open_request.OpenFlags.{OpenFlags}
use Rattle.trace_text.specs.declared.trace_call.Descriptor.{Descriptor}
use Rattle.trace_text.specs.declared.trace_call.Descriptor.TheVariants.{Number, ReplyOf}
use Rattle.path_walk.specs.declared.descriptor_call.DataCall.TheVariants as on_file
use Rattle.trace_text.specs.declared.trace_call.TraceCall.{TraceCall}
use Rattle.trace_text.specs.declared.trace_call.TraceCall.TheVariants as call
use Rattle.trace_text.specs.declared.trace_call.AtCall.{AtCall}
use Rattle.trace_text.specs.declared.trace_call.AtCall.TheVariants as at
use Rattle.trace_text.specs.declared.trace_call.TraceBase.{TraceBase}
use Rattle.trace_text.specs.declared.trace_call.TraceBase.TheVariants.{Cwd, Fd}
use Rattle.trace_text.specs.declared.version.Version.{Version}
use Rattle.trace_text.specs.declared.version.Version.TheVariants as version
use Rattle.trace_text.specs.declared.trace.BackendLine.{BackendLine}
use Rattle.trace_text.specs.declared.trace.Mode.{Mode}
use Rattle.trace_text.specs.declared.trace.Mode.TheVariants.{Plain, Full}
use Rattle.trace_text.specs.Fields.{one_of, two_of, three_of, four_of, is_label, text_in, path_in, number_in, number_max, count_in, offset_in}
use Rattle.trace_text.specs.Openings.{is_opening_at}
use Rattle.trace_text.specs.Traces.{backend_line}

-- `thread NAME`, by the fields after the word
abbrev pub label_of : Option (List ℕ) → Option (List ℕ)
label_of None = None
label_of (Some name) = if is_label name then Some name else None

abbrev pub name_in : List (List ℕ) → Option (List ℕ)
name_in fields = label_of (one_of fields)

-- `backend NAME memory` or `backend NAME proxied`
abbrev pub proxied_in : List ℕ → Option Bool
proxied_in word = if is_text word (codes "memory") then Some false else if is_text word (codes "proxied") then Some true else None

-- the kinds of backends that a mode has
abbrev pub has_kind : Mode → Bool → Bool
has_kind Plain proxied = true
has_kind Full proxied = not proxied

abbrev pub with_kind : Mode → List ℕ → Option Bool → Option BackendLine
with_kind mode name None = None
with_kind mode name (Some proxied) = if has_kind mode proxied && is_label name then Some (backend_line name proxied) else None

abbrev pub backend_of : Mode → Option (List ℕ × List ℕ) → Option BackendLine
backend_of mode None = None
backend_of mode (Some fields) = with_kind mode fields.0 (proxied_in fields.1)

abbrev pub backend_in : Mode → List (List ℕ) → Option BackendLine
backend_in mode fields = backend_of mode (two_of fields)

-- Fields of calls that are words, or have some.

-- an FD: a number, or `@N` for the number in the reply to call N of the thread, where that is an opening call
abbrev pub reply_of : List Bool → Option ℕ → Option Descriptor
reply_of openings None = None
reply_of openings (Some call) = if is_opening_at openings call then Some (ReplyOf call) else None

abbrev pub descriptor_in : List Bool → List ℕ → Option Descriptor
descriptor_in openings [] = None
descriptor_in openings (byte ∷ field) =
    if byte == 64 then reply_of openings (number_in number_max field)
    else option_map Number (number_in number_max (byte ∷ field))

-- a BASE: the current directory, or an FD
abbrev pub base_in : List Bool → List ℕ → Option TraceBase
base_in openings field = if is_text field (codes "cwd") then Some Cwd else option_map Fd (descriptor_in openings field)

abbrev pub whence_in : List ℕ → Option Whence
whence_in word =
    if is_text word (codes "set") then Some whence.Set
    else if is_text word (codes "cur") then Some whence.Cur
    else if is_text word (codes "end") then Some whence.End
    else None

abbrev pub access_in : List ℕ → Option Access
access_in word =
    if is_text word (codes "r") then Some access.Read
    else if is_text word (codes "w") then Some access.Write
    else if is_text word (codes "rw") then Some access.ReadWrite
    else None

abbrev pub only_access : Access → OpenFlags
only_access access = record { access = access; creat = false; excl = false; trunc = false; append = false; directory = false; nofollow = false }

-- a flag that is not there yet
abbrev pub unless_there : Bool → OpenFlags → Option OpenFlags
unless_there there flags = if there then None else Some flags

abbrev pub with_flag : OpenFlags → List ℕ → Option OpenFlags
with_flag flags word =
    if is_text word (codes "creat") then unless_there flags.creat (record flags { creat = true })
    else if is_text word (codes "excl") then unless_there flags.excl (record flags { excl = true })
    else if is_text word (codes "trunc") then unless_there flags.trunc (record flags { trunc = true })
    else if is_text word (codes "append") then unless_there flags.append (record flags { append = true })
    else if is_text word (codes "directory") then unless_there flags.directory (record flags { directory = true })
    else if is_text word (codes "nofollow") then unless_there flags.nofollow (record flags { nofollow = true })
    else None

abbrev pub with_flags : Option OpenFlags → List (List ℕ) → Option OpenFlags
with_flags None words = None
with_flags (Some flags) [] = Some flags
with_flags (Some flags) (word ∷ words) = with_flags (with_flag flags word) words

-- FLAGS: an access, and behind commas any of the flags, each once at most
abbrev pub flags_of : List (List ℕ) → Option OpenFlags
flags_of [] = None
flags_of (word ∷ words) = with_flags (option_map only_access (access_in word)) words

abbrev pub flags_in : List ℕ → Option OpenFlags
flags_in field = flags_of (slice_split (λ byte. byte == 44) field)

-- What the fields behind a word stand for: nothing where one is missing, is too many, or is spelled otherwise.

module _ {A : Type 0} where
  abbrev pub one : (List ℕ → Option A) → List (List ℕ) → Option A
  one read fields = option_and_then read (one_of fields)

module _ {A B : Type 0} where
  abbrev pub pair : Option A → Option B → Option (A × B)
  pair None second = None
  pair (Some a) None = None
  pair (Some a) (Some b) = Some (a, b)

  abbrev pub both_of : (List ℕ → Option A) → (List ℕ → Option B) → Option (List ℕ × List ℕ) → Option (A × B)
  both_of first second None = None
  both_of first second (Some fields) = pair (first fields.0) (second fields.1)

  abbrev pub two : (List ℕ → Option A) → (List ℕ → Option B) → List (List ℕ) → Option (A × B)
  two first second fields = both_of first second (two_of fields)

module _ {A B C : Type 0} where
  abbrev pub all_of : (List ℕ → Option A) → (List ℕ → Option B) → (List ℕ → Option C) → Option (List ℕ × (List ℕ × List ℕ)) → Option (A × (B × C))
  all_of first second third None = None
  all_of first second third (Some fields) = pair (first fields.0) (pair (second fields.1.0) (third fields.1.1))

  abbrev pub three : (List ℕ → Option A) → (List ℕ → Option B) → (List ℕ → Option C) → List (List ℕ) → Option (A × (B × C))
  three first second third fields = all_of first second third (three_of fields)

module _ {A B C D : Type 0} where
  abbrev pub each_of : (List ℕ → Option A) → (List ℕ → Option B) → (List ℕ → Option C) → (List ℕ → Option D) → Option (List ℕ × (List ℕ × (List ℕ × List ℕ))) → Option (A × (B × (C × D)))
  each_of first second third fourth None = None
  each_of first second third fourth (Some fields) = pair (first fields.0) (pair (second fields.1.0) (pair (third fields.1.1.0) (fourth fields.1.1.1)))

  abbrev pub four : (List ℕ → Option A) → (List ℕ → Option B) → (List ℕ → Option C) → (List ℕ → Option D) → List (List ℕ) → Option (A × (B × (C × D)))
  four first second third fourth fields = each_of first second third fourth (four_of fields)

-- the call that the fields behind a word make, where `openings` says of the earlier calls of its thread which are opening calls
abbrev pub Form : Type 0
Form = List Bool → List (List ℕ) → Option TraceCall

pub record Row : Type 0 where
  pub word : List ℕ
  pub form : Form

abbrev pub row : List ℕ → Form → Row
row word form = record { word = word; form = form }

-- `WORD PATH`
abbrev pub one_path : (List ℕ → TraceCall) → Form
one_path make openings fields = option_map make (one path_in fields)

abbrev pub path_rows : List Row
path_rows =
    row (codes "mkdir") (one_path call.Mkdir)
    ∷ row (codes "rmdir") (one_path call.Rmdir)
    ∷ row (codes "unlink") (one_path call.Unlink)
    ∷ row (codes "readlink") (one_path call.Readlink)
    ∷ row (codes "stat") (one_path call.Stat)
    ∷ row (codes "lstat") (one_path call.Lstat)
    ∷ []

-- with a path and one field more
abbrev pub pair_rows : List Row
pair_rows =
    row (codes "symlink") (λ openings fields. option_map (λ x. call.Symlink x.0 x.1) (two path_in path_in fields))
    ∷ row (codes "rename") (λ openings fields. option_map (λ x. call.Rename x.0 x.1) (two path_in path_in fields))
    ∷ row (codes "list") (λ openings fields. option_map (λ x. call.List x.0 x.1) (two path_in count_in fields))
    ∷ row (codes "open") (λ openings fields. option_map (λ x. call.Open x.0 x.1) (two path_in flags_in fields))
    ∷ []

-- on descriptors
abbrev pub descriptor_rows : List Row
descriptor_rows =
    row (codes "close") (λ openings fields. option_map call.Close (one (descriptor_in openings) fields))
    ∷ row (codes "dup") (λ openings fields. option_map call.Dup (one (descriptor_in openings) fields))
    ∷ row (codes "dup2") (λ openings fields. option_map (λ x. call.Dup2 x.0 x.1) (two (descriptor_in openings) (descriptor_in openings) fields))
    ∷ row (codes "fstat") (λ openings fields. option_map (λ x. call.Data x on_file.Fstat) (one (descriptor_in openings) fields))
    ∷ row (codes "ftruncate") (λ openings fields. option_map (λ x. call.Data x.0 (on_file.Ftruncate x.1)) (two (descriptor_in openings) offset_in fields))
    ∷ []

-- that read, write or seek
abbrev pub data_rows : List Row
data_rows =
    row (codes "read") (λ openings fields. option_map (λ x. call.Data x.0 (on_file.Read x.1)) (two (descriptor_in openings) count_in fields))
    ∷ row (codes "pread") (λ openings fields. option_map (λ x. call.Data x.0 (on_file.Pread x.1.0 x.1.1)) (three (descriptor_in openings) count_in offset_in fields))
    ∷ row (codes "write") (λ openings fields. option_map (λ x. call.Data x.0 (on_file.Write x.1)) (two (descriptor_in openings) text_in fields))
    ∷ row (codes "pwrite") (λ openings fields. option_map (λ x. call.Data x.0 (on_file.Pwrite x.1.0 x.1.1)) (three (descriptor_in openings) text_in offset_in fields))
    ∷ row (codes "seek") (λ openings fields. option_map (λ x. call.Data x.0 (on_file.Seek x.1.0 x.1.1)) (three (descriptor_in openings) offset_in whence_in fields))
    ∷ []

-- `WORD BASE PATH`
abbrev pub base_path : (TraceBase → List ℕ → AtCall) → Form
base_path make openings fields = option_map (λ x. call.At (make x.0 x.1)) (two (base_in openings) path_in fields)

-- of version 2: with a base and a path alone
abbrev pub base_rows : List Row
base_rows =
    row (codes "mkdirat") (base_path at.Mkdirat)
    ∷ row (codes "rmdirat") (base_path at.Rmdirat)
    ∷ row (codes "unlinkat") (base_path at.Unlinkat)
    ∷ row (codes "fstatat") (base_path at.Fstatat)
    ∷ []

-- with more, or with neither
abbrev pub relative_rows : List Row
relative_rows =
    row (codes "chdir") (one_path call.Chdir)
    ∷ row (codes "fchdir") (λ openings fields. option_map call.Fchdir (one (descriptor_in openings) fields))
    ∷ row (codes "openat") (λ openings fields. option_map (λ x. call.At (at.Openat x.0 x.1.0 x.1.1)) (three (base_in openings) path_in flags_in fields))
    ∷ row (codes "renameat") (λ openings fields. option_map (λ x. call.At (at.Renameat x.0 x.1.0 x.1.1.0 x.1.1.1)) (four (base_in openings) path_in (base_in openings) path_in fields))
    ∷ []

-- the row of a word
abbrev pub form_among : List Row → List ℕ → Option Form
form_among rows word = option_map (λ row. row.form) (find (λ row. is_text word row.word) rows)

-- the calls that version 2 has beside those of version 1
abbrev pub later_form : Version → List ℕ → Option Form
later_form version.One word = None
later_form version.Two word = option_or (form_among base_rows word) (form_among relative_rows word)

-- the calls of a version
abbrev pub form_of : Version → List ℕ → Option Form
form_of version word = option_or (form_among path_rows word) (option_or (form_among pair_rows word) (option_or (form_among descriptor_rows word) (option_or (form_among data_rows word) (later_form version word))))
