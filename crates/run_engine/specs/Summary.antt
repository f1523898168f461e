-- The summary of a run: how often each reply came, and what is in the tree that the calls leave.
use Rattle.std.specs.Prelude.{ℕ, ◌==◌, if◌then◌else◌, Bool, true, false, List, [], ◌∷◌, ◌++◌, codes, length, count_by, sum_by, Option, None, Some}
use Rattle.std.specs.List.{flat_map}
use Rattle.std.specs.Fmt.{decimal}
use Rattle.wf_core.specs.Names.{is_text}
use Rattle.wf_core.specs.Errors.{error_word}
use Rattle.wf_core.specs.declared.errno.Errno.{Errno}
use Rattle.wf_core.specs.declared.errno.Errno.TheVariants.{Enoent, Eexist, Enotdir, Eisdir, Enotempty, Einval, Eloop, Enametoolong, Ebadf, Emfile, Efbig, Enospc, Ebusy, Exdev, Eoverflow, Ecanceled, Enxio, Enotsup, Eagain}
use Rattle.name_store.specs.declared.tree_line.TreeLine.{TreeLine}
use Rattle.name_store.specs.declared.tree_line.TreeLine.TheVariants.{File as FileLine}
use Rattle.file_store.specs.declared.file.File.{File}
use Rattle.path_walk.specs.declared.call.Reply.{Reply}
use Rattle.path_walk.specs.declared.call.Reply.TheVariants.{Fault}
use Rattle.path_walk.specs.Store.{Store, backend_at}
use Rattle.trace_text.specs.declared.trace.CallLine.{CallLine}
use Rattle.trace_text.specs.Traces.{Traced}
use Rattle.trace_text.specs.Texts.{end_line, file_in}
use Rattle.trace_text.specs.SoloText.{Between, after_call_line, opening_of_run, outcome_of_line, store_after}
use Rattle.run_engine.specs.declared.whole_tree.PlacedLine.{PlacedLine}
use Rattle.run_engine.specs.WholeTree.{whole_tree}

-- Replies.

-- the replies to calls, one after another
abbrev pub replies_to : Between → List CallLine → List Reply
replies_to between [] = []
replies_to between (line ∷ lines) = (outcome_of_line between line).reply ∷ replies_to (after_call_line between line) lines

-- the reply is no error
abbrev pub is_ok_reply : Reply → Bool
is_ok_reply (Fault error) = false
is_ok_reply reply = true

-- the reply is that error
abbrev pub is_fault_reply : Errno → Reply → Bool
is_fault_reply error (Fault fault) = is_text (error_word fault) (error_word error)
is_fault_reply error reply = false

-- all errors, by their words in byte order
unfoldable pub errors_in_order : List Errno
errors_in_order = Eagain ∷ Ebadf ∷ Ebusy ∷ Ecanceled ∷ Eexist ∷ Efbig ∷ Einval ∷ Eisdir ∷ Eloop ∷ Emfile ∷ Enametoolong ∷ Enoent ∷ Enospc ∷ Enotdir ∷ Enotempty ∷ Enotsup ∷ Enxio ∷ Eoverflow ∷ Exdev ∷ []

-- The tree.

-- a file that the store does not have has size 0
abbrev pub size_of_file : Option File → ℕ
size_of_file None = 0
size_of_file (Some file) = length file.bytes

-- how many bytes the file of a line has
abbrev pub size_in : Store → ℕ → TreeLine → ℕ
size_in store backend (FileLine depth name file) = size_of_file (file_in (backend_at store backend).groups file)
size_in store backend line = 0

abbrev pub size_of_line : Store → PlacedLine → ℕ
size_of_line store line = size_in store line.backend line.line

-- The text.

-- `WORD COUNT`
abbrev pub count_line : List ℕ → ℕ → List ℕ
count_line word count = word ++ codes " " ++ decimal count ++ 10 ∷ []

-- an error that never came has no line
abbrev pub fault_line : List Reply → Errno → List ℕ
fault_line replies error =
    if count_by (is_fault_reply error) replies == 0 then []
    else count_line (error_word error) (count_by (is_fault_reply error) replies)

abbrev pub replies_summary : List Reply → List ℕ
replies_summary replies =
    count_line (codes "calls") (length replies)
    ++ count_line (codes "ok") (count_by is_ok_reply replies)
    ++ flat_map (fault_line replies) errors_in_order

abbrev pub tree_summary : Store → List ℕ
tree_summary store =
    count_line (codes "nodes") (length (whole_tree store))
    ++ count_line (codes "bytes") (sum_by (size_of_line store) (whole_tree store))

abbrev pub summary_text : Traced → List ℕ
summary_text trace =
    replies_summary (replies_to (opening_of_run trace) trace.calls)
    ++ tree_summary (store_after (opening_of_run trace) trace.calls)
    ++ end_line
