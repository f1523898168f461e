-- One call of a thread, by what its steps did to the pass.
use Rattle.std.proofs.Common.{◌≡◌, ℕ, List, map, sym, subst}
use Rattle.turn_cell.specs.Passes.{pass_number}
use Rattle.path_walk.specs.declared.call.Reply.{Reply}
use Rattle.path_walk.specs.Posix.{Walk, program}
use Rattle.path_walk.specs.Programs.{Step}
use Rattle.memory_backend.specs.CellSteps.{PassRan, StorePass}
use Rattle.cell_runs.specs.Scripts.{IsMade}
use Rattle.trace_text.specs.declared.trace_call.TraceCall.{TraceCall}
use Rattle.trace_text.specs.declared.version.Version.{Version}
use Rattle.trace_text.specs.TraceCalls.{file_call, number_in_reply}
use Rattle.trace_text.specs.Versions.{version_number}
use Rattle.thread_runs.specs.StoreRuns.{StoreWalk}
use Rattle.thread_runs.proofs.Entries.{of_call, placed, taken}

pub made_by : (version : Version) (backends number : ℕ) (call : TraceCall) (numbers : List ℕ) (before : List Reply) (steps : List Step) (reply : Reply) (old new : StorePass)
    → PassRan backends (record { thread = pass_number old; call = number }) steps old new → Walk (version_number version) (file_call numbers call) steps reply → numbers ≡ map number_in_reply before
    → IsMade (StoreWalk version backends before call) number reply old new
made_by version backends number call numbers before steps reply old new (entries, enters, own, seen, rise, number_is, stays) walk known = record {
  entries = entries;
  own = own;
  seen = seen;
  rise = rise;
  of_call = of_call backends (pass_number old) number steps entries enters;
  walk = record {
    walk = subst (λ (z : List ℕ × List Step). Walk (version_number version) (file_call z.0 call) z.1 reply)
        (λ i. (known i, sym (taken backends (pass_number old) (record { thread = pass_number old; call = number }) (program (version_number version) (file_call numbers call)) steps entries reply walk enters) i)) walk;
    placed = placed backends (pass_number old) (record { thread = pass_number old; call = number }) steps entries enters;
  };
}
