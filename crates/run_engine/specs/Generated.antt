-- The trace that `gen` makes of a number: what is drawn, the call that three draws are, and the lines.
use Rattle.std.specs.Prelude.{ℕ, ◌+◌, ◌*◌, ◌/◌, ◌%◌, ◌^◌, ◌==◌, zero, suc, if◌then◌else◌, true, false, List, [], ◌∷◌, ◌++◌, codes}
use Rattle.std.specs.Fmt.{decimal}
use Rattle.file_store.specs.declared.file_operation.Access.TheVariants.{ReadWrite}
use Rattle.path_walk.specs.declared.open_request.OpenFlags.{OpenFlags}
use Rattle.trace_text.specs.declared.trace_call.Descriptor.TheVariants.{Number}
use Rattle.path_walk.specs.declared.descriptor_call.DataCall.TheVariants.{Write}
use Rattle.trace_text.specs.declared.trace_call.TraceCall.{TraceCall}
use Rattle.trace_text.specs.declared.trace_call.TraceCall.TheVariants.{Mkdir, Rmdir, Unlink, Rename, Symlink, Open, Data, Stat}
use Rattle.trace_text.specs.declared.trace.BackendLine.{BackendLine}
use Rattle.trace_text.specs.declared.trace.CallLine.{CallLine}
use Rattle.trace_text.specs.declared.version.Version.TheVariants.{One}
use Rattle.trace_text.specs.Traces.{Traced, backend_line, calls_of}
use Rattle.trace_text.specs.Words.{only_access}
use Rattle.run_engine.specs.declared.draws.Draws.{Draws}

-- What is drawn: a linear congruential generator of 64 bits, of which each draw gives the upper 31 (own).

abbrev pub next_state : ℕ → ℕ
next_state state = (state * 6364136223846793005 + 1442695040888963407) % 2 ^ 64

-- the state after so many draws, which is the number itself before the first
unfoldable pub state_after : ℕ → ℕ → ℕ
state_after seed zero = seed
state_after seed (suc count) = next_state (state_after seed count)

abbrev pub draw_at : ℕ → ℕ
draw_at state = state / 2 ^ 33

-- the draw of that number, counted from 1
abbrev pub draw : ℕ → ℕ → ℕ
draw seed number = draw_at (state_after seed number)

-- the draws of a call: three each, one call after the other, counted from 0
abbrev pub draws_of_call : ℕ → ℕ → Draws
draws_of_call seed call = record { a = draw seed (3 * call + 1); b = draw seed (3 * call + 2); c = draw seed (3 * call + 3) }

-- The call that draws are (own).

-- `/`, `/m/` or `/p/`
abbrev pub prefix_of : ℕ → List ℕ
prefix_of number =
    if number == 0 then codes "/"
    else if number == 1 then codes "/m/"
    else codes "/p/"

-- `n` and a number
abbrev pub entry_name : ℕ → List ℕ
entry_name number = codes "n" ++ decimal number

abbrev pub first_path : Draws → List ℕ
first_path draws = prefix_of (draws.b % 3) ++ entry_name (draws.c % 16)

abbrev pub second_path : Draws → List ℕ
second_path draws = prefix_of (draws.b / 3 % 3) ++ entry_name (draws.c / 16 % 16)

-- the text of a link
abbrev pub link_text : Draws → List ℕ
link_text draws = entry_name (draws.c / 16 % 16)

-- `rw,creat`
abbrev pub flags_drawn : OpenFlags
flags_drawn = record (only_access ReadWrite) { creat = true }

-- the calls by number: `write` has a descriptor from 0 to 7, and the others a path or two
abbrev pub call_by_number : ℕ → Draws → TraceCall
call_by_number number draws =
    if number == 0 then Mkdir (first_path draws)
    else if number == 1 then Rmdir (first_path draws)
    else if number == 2 then Unlink (first_path draws)
    else if number == 3 then Rename (first_path draws) (second_path draws)
    else if number == 4 then Symlink (link_text draws) (first_path draws)
    else if number == 5 then Open (first_path draws) flags_drawn
    else if number == 6 then Data (Number (draws.c % 8)) (Write (codes "xyz"))
    else Stat (first_path draws)

abbrev pub thread_of : Draws → ℕ
thread_of draws = draws.a % 4

abbrev pub call_of : Draws → TraceCall
call_of draws = call_by_number (draws.a / 4 % 8) draws

-- The trace.

-- the next line of its thread, whose calls are counted from 1
abbrev pub next_line : List CallLine → Draws → CallLine
next_line lines draws = record { thread = thread_of draws; number = calls_of (thread_of draws) lines + 1; call = call_of draws }

-- the lines of the first calls
unfoldable pub generated_lines : ℕ → ℕ → List CallLine
generated_lines seed zero = []
generated_lines seed (suc count) = generated_lines seed count ++ next_line (generated_lines seed count) (draws_of_call seed count) ∷ []

abbrev pub generated_threads : List (List ℕ)
generated_threads = codes "A" ∷ codes "B" ∷ codes "C" ∷ codes "D" ∷ []

abbrev pub generated_backends : List BackendLine
generated_backends = backend_line (codes "m") false ∷ backend_line (codes "p") true ∷ []

-- how many calls the trace has (own)
abbrev pub generated_calls : ℕ
generated_calls = 2000

abbrev pub generated_trace : ℕ → Traced
generated_trace seed = record {
  version = One;
  threads = generated_threads;
  backends = generated_backends;
  calls = generated_lines seed generated_calls;
}
