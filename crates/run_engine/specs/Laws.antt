-- What a user may conclude of the draws, and of the counts of a summary.
use Rattle.std.specs.Prelude.{◌≡◌, ◌+◌, ℕ, List, [], ◌∷◌, ◌++◌, Contains, count_by, length, sum_by}
use Rattle.std.specs.List.{flat_map, zip}
use Rattle.std.specs.declared.cmp.Ordering.TheVariants.{Less}
use Rattle.wf_core.specs.Errors.{error_word}
use Rattle.wf_core.specs.declared.errno.Errno.{Errno}
use Rattle.name_store.specs.NameTrees.{byte_order}
use Rattle.path_walk.specs.declared.call.Reply.{Reply}
use Rattle.trace_text.specs.declared.trace.CallLine.{CallLine}
use Rattle.trace_text.specs.Traces.{Traced, thread_name}
use Rattle.trace_text.specs.Texts.{end_line, reply_line}
use Rattle.trace_text.specs.SoloText.{opening_of_run, solo_text, store_after}
use Rattle.run_engine.specs.Generated.{draw}
use Rattle.run_engine.specs.Summary.{errors_in_order, is_fault_reply, is_ok_reply, replies_to}
use Rattle.run_engine.specs.WholeTree.{placed_text, whole_tree}

-- the first draws of 0 and of 1 (own)
abbrev pub FirstDraws : Type 0
FirstDraws = (draw 0 1 ≡ 167951807) × (draw 1 1 ≡ 908834774)

-- each error's word is below the next one's in byte order
abbrev pub Rise : List Errno → Type 0
Rise [] = Unit {0}
Rise (error ∷ []) = Unit {0}
Rise (error ∷ next ∷ errors) = (byte_order (error_word error) (error_word next) ≡ Less) × Rise (next ∷ errors)

-- the lines of a summary stand in byte order, and no error is left out
abbrev pub ErrorsStandInOrder : Type 0
ErrorsStandInOrder = Rise errors_in_order × ((error : Errno) → Contains errors_in_order error)

-- each reply counts once: as `ok`, or for the word of its error
abbrev pub CountsSumUp : Type 0
CountsSumUp = (replies : List Reply) → count_by is_ok_reply replies + sum_by (λ error. count_by (is_fault_reply error) replies) errors_in_order ≡ length replies

-- the line of the reply to a call
abbrev pub line_of_reply : List (List ℕ) → CallLine × Reply → List ℕ
line_of_reply threads (line, reply) = reply_line (thread_name threads line.thread) line.number reply

-- the replies and the lines of the tree that a summary counts are those that the solo text of the same trace has
abbrev pub SummariesCountTheSoloText : Type 0
SummariesCountTheSoloText =
    (trace : Traced)
    → let opening = opening_of_run trace in
    solo_text trace
    ≡ flat_map (line_of_reply trace.threads) (zip trace.calls (replies_to opening trace.calls))
    ++ flat_map (placed_text (store_after opening trace.calls)) (whole_tree (store_after opening trace.calls))
    ++ end_line
