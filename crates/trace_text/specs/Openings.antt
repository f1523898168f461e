-- The opening calls: those whose reply has a descriptor's number, so that `@N` may stand for it.
use Rattle.std.specs.Prelude.{◌≡◌, ℕ, ◌<◌, [], slice_index_or, length, zero, suc, ◌==◌, ◌||◌, if◌then◌else◌, Bool, true, false, List, codes, slice_get, Option, None, Some, unwrap_or}
use Rattle.std.specs.List.{filter_map}
use Rattle.wf_core.specs.Limits.{threads_max}
use Rattle.wf_core.specs.Names.{is_text}
use Rattle.trace_text.specs.declared.trace.CallLine.{CallLine}
use Rattle.trace_text.specs.declared.trace_call.TraceCall.{TraceCall}
use Rattle.trace_text.specs.declared.trace_call.TraceCall.TheVariants.{Open, Dup, Dup2, At}
use Rattle.trace_text.specs.declared.trace_call.AtCall.TheVariants.{Openat}

abbrev pub is_opening : TraceCall → Bool
is_opening (Open path flags) = true
is_opening (Dup descriptor) = true
is_opening (Dup2 descriptor target) = true
is_opening (At (Openat base path flags)) = true
is_opening call = false

-- the words of such calls
abbrev pub is_opening_word : List ℕ → Bool
is_opening_word word = is_text word (codes "open") || is_text word (codes "dup") || is_text word (codes "dup2") || is_text word (codes "openat")

abbrev pub opening_of : ℕ → CallLine → Option Bool
opening_of thread line = if line.thread == thread then Some (is_opening line.call) else None

-- which calls of a thread are such, in their order
abbrev pub openings_of : ℕ → List CallLine → List Bool
openings_of thread calls = filter_map (opening_of thread) calls

-- call `number` is such, counted from 1
abbrev pub is_opening_at : List Bool → ℕ → Bool
is_opening_at openings zero = false
is_opening_at openings (suc before) = unwrap_or (slice_get openings before) false

-- these are the opening calls of each thread
pub record AreOpenings (calls : List CallLine) (openings : List (List Bool)) : Type 0 where
  pub count : length openings ≡ threads_max
  pub each : (thread : ℕ) → thread < threads_max → slice_index_or openings thread [] ≡ openings_of thread calls
