-- What a trace says, apart from where it lies in memory.
use Rattle.std.specs.Prelude.{◌≡◌, ℕ, ◌+◌, ◌==◌, ◌<◌, ◌≤◌, ◌||◌, Bool, List, [], ◌∷◌, ◌++◌, length, count_by, codes, position, slice_index_or, slice_get, unwrap_or, Option}
use Rattle.std.specs.List.{list_any}
use Rattle.wf_core.specs.Limits.{threads_max, calls_max}
use Rattle.wf_core.specs.Names.{is_text}
use Rattle.trace_text.specs.declared.trace_call.TraceCall.{TraceCall}
use Rattle.trace_text.specs.declared.trace.CallLine.{CallLine}
use Rattle.trace_text.specs.declared.trace.BackendLine.{BackendLine}
use Rattle.trace_text.specs.declared.trace.Trace.{Trace}
use Rattle.trace_text.specs.declared.version.Version.{Version}

-- the version, the threads' names and the backends in order of declaration, and the calls in the trace's order
pub record Traced : Type 0 where
  pub version : Version
  pub threads : List (List ℕ)
  pub backends : List BackendLine
  pub calls : List CallLine

abbrev pub traced : Trace → Traced
traced trace = record { version = trace.version; threads = trace.threads.items; backends = trace.backends.items; calls = trace.calls.items }

-- a trace that declares nothing
abbrev pub nothing : Version → Traced
nothing version = record { version = version; threads = []; backends = []; calls = [] }

-- threads and backends share one name space, in which `main` stands from the start
abbrev pub is_declared : Traced → List ℕ → Bool
is_declared trace name =
    is_text name (codes "main")
    || list_any (λ thread. is_text thread name) trace.threads
    || list_any (λ backend. is_text backend.name name) trace.backends

-- the number of the thread of that name
abbrev pub thread_number : Traced → List ℕ → Option ℕ
thread_number trace name = position (λ thread. is_text thread name) trace.threads

-- the name of a thread by its number
abbrev pub thread_name : List (List ℕ) → ℕ → List ℕ
thread_name threads number = unwrap_or (slice_get threads number) []

-- how many of the calls a thread makes
abbrev pub calls_of : ℕ → List CallLine → ℕ
calls_of thread calls = count_by (λ line. line.thread == thread) calls

-- The trace with one line more.

abbrev pub with_thread : Traced → List ℕ → Traced
with_thread trace name = record trace { threads = trace.threads ++ name ∷ [] }

abbrev pub backend_line : List ℕ → Bool → BackendLine
backend_line name proxied = record { name = name; proxied = proxied }

abbrev pub with_backend : Traced → BackendLine → Traced
with_backend trace backend = record trace { backends = trace.backends ++ backend ∷ [] }

-- the next call of a thread, counted from 1
abbrev pub next_call : Traced → ℕ → TraceCall → CallLine
next_call trace thread call = record { thread = thread; number = calls_of thread trace.calls + 1; call = call }

abbrev pub with_call : Traced → ℕ → TraceCall → Traced
with_call trace thread call = record trace { calls = trace.calls ++ next_call trace thread call ∷ [] }

-- how many calls each thread has so far
pub record AreCounts (trace : Traced) (counts : List ℕ) : Type 0 where
  pub threads : length trace.threads ≤ threads_max
  pub calls : length trace.calls ≤ calls_max
  pub each : (thread : ℕ) → thread < threads_max → slice_index_or counts thread 0 ≡ calls_of thread trace.calls
