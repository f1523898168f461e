-- The text of a run of a trace: each call's reply, in the trace's order, and the tree that is left.
use Rattle.std.specs.Prelude.{◌≡◌, ℕ, ◌+◌, List, [], ◌∷◌, ◌++◌, drop, map, slice_get, slice_set, unwrap_or}
use Rattle.std.specs.List.{flat_map}
use Rattle.name_store.specs.declared.tree_line.TreeLine.{TreeLine}
use Rattle.name_store.specs.declared.tree_line.TreeLine.TheVariants.{Mount as MountLine}
use Rattle.name_store.specs.TreeLines.{tree_lines}
use Rattle.file_store.specs.DescriptorMap.{opening as descriptors_opening}
use Rattle.path_walk.specs.Store.{Store, backend_at, names_at, opening_backend}
use Rattle.path_walk.specs.declared.call.Call.{Call}
use Rattle.path_walk.specs.Programs.{CallOutcome}
use Rattle.path_walk.specs.Posix.{posix}
use Rattle.trace_text.specs.declared.trace.BackendLine.{BackendLine}
use Rattle.trace_text.specs.declared.trace.CallLine.{CallLine}
use Rattle.trace_text.specs.declared.trace.Mode.{Mode}
use Rattle.trace_text.specs.declared.version.Version.{Version}
use Rattle.trace_text.specs.Traces.{Traced, thread_name}
use Rattle.trace_text.specs.Versions.{version_number}
use Rattle.trace_text.specs.TraceCalls.{file_call, number_in_reply}
use Rattle.trace_text.specs.Grammar.{Reads}
use Rattle.trace_text.specs.Texts.{reply_line, tree_text, end_line}

-- the backend of a name, which is the one of that number, is mounted in the root
abbrev pub mounts_from : ℕ → List BackendLine → List (List ℕ × ℕ)
mounts_from number [] = []
mounts_from number (backend ∷ backends) = (backend.name, number) ∷ mounts_from (number + 1) backends

-- the store before the first call: the root's backend with the mounts, the others, which are empty, and no descriptor
abbrev pub opening_store : List BackendLine → Store
opening_store backends = record {
  backends = opening_backend (mounts_from 1 backends) ∷ map (λ backend. opening_backend []) backends;
  descriptors = descriptors_opening;
}

-- what is between two calls of a trace of that version: the store, and for each thread the numbers in the replies to its calls so far
pub record Between : Type 0 where
  pub version : Version
  pub store : Store
  pub numbers : List (List ℕ)

abbrev pub numbers_of : List (List ℕ) → ℕ → List ℕ
numbers_of numbers thread = unwrap_or (slice_get numbers thread) []

abbrev pub with_number : List (List ℕ) → ℕ → ℕ → List (List ℕ)
with_number numbers thread number = slice_set numbers thread (numbers_of numbers thread ++ number ∷ [])

-- before the first call
abbrev pub opening_of_run : Traced → Between
opening_of_run trace = record { version = trace.version; store = opening_store trace.backends; numbers = map (λ name. []) trace.threads }

-- the call of a line, and what comes of it, taken at once
abbrev pub call_of_line : Between → CallLine → Call
call_of_line between line = file_call (numbers_of between.numbers line.thread) line.call

abbrev pub outcome_of_line : Between → CallLine → CallOutcome
outcome_of_line between line = posix (version_number between.version) between.store (call_of_line between line)

abbrev pub after_call_line : Between → CallLine → Between
after_call_line between line = record {
  version = between.version;
  store = (outcome_of_line between line).store;
  numbers = with_number between.numbers line.thread (number_in_reply (outcome_of_line between line).reply);
}

-- the store that the calls leave
abbrev pub store_after : Between → List CallLine → Store
store_after between [] = between.store
store_after between (line ∷ lines) = store_after (after_call_line between line) lines

-- the lines of the calls' replies
abbrev pub replies_text : List (List ℕ) → Between → List CallLine → List ℕ
replies_text threads between [] = []
replies_text threads between (line ∷ lines) =
    reply_line (thread_name threads line.thread) line.number (outcome_of_line between line).reply
    ++ replies_text threads (after_call_line between line) lines

-- the text of a line of that backend's tree
abbrev pub backend_line_text : Store → ℕ → ℕ → TreeLine → List ℕ
backend_line_text store backend deeper line = tree_text (backend_at store backend).groups deeper line

-- what stands in a mount: its backend's tree without the root's line, which is the mount's own
abbrev pub mounted_text : Store → TreeLine → List ℕ
mounted_text store (MountLine depth name backend) = flat_map (backend_line_text store backend depth) (drop 1 (tree_lines (names_at store backend)))
mounted_text store line = []

-- a line of the root's tree, and what stands in it where it is a mount
abbrev pub line_text : Store → TreeLine → List ℕ
line_text store line = backend_line_text store 0 0 line ++ mounted_text store line

-- the lines of the whole tree
abbrev pub store_text : Store → List ℕ
store_text store = flat_map (line_text store) (tree_lines (names_at store 0))

abbrev pub solo_text : Traced → List ℕ
solo_text trace =
    replies_text trace.threads (opening_of_run trace) trace.calls
    ++ store_text (store_after (opening_of_run trace) trace.calls)
    ++ end_line

-- the text is that of the trace that the bytes are
abbrev pub IsSoloText : Mode → List ℕ → List ℕ → Type 0
IsSoloText mode bytes text = (trace : Traced) × Reads bytes mode trace × (text ≡ solo_text trace)
