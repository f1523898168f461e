-- Laws of the definitions, which say what a user may conclude from them.
use Rattle.std.specs.Prelude.{◌≡◌, ℕ, ◌<◌}
use Rattle.wf_core.specs.Limits.{call_steps_max}
use Rattle.path_walk.specs.declared.call.Call.{Call}
use Rattle.path_walk.specs.Store.{Store}
use Rattle.path_walk.specs.Programs.{run, IsWithin, StaysAmong}
use Rattle.path_walk.specs.Posix.{posix, program}

-- the steps of a call, taken one after another by nobody else, are the call at once
abbrev pub StepsAreTheCall : Type 0
StepsAreTheCall = (version : ℕ) (store : Store) (call : Call) → run (program version call) store ≡ posix version store call

-- a call takes at most so many steps, whatever it meets
abbrev pub CallsEnd : Type 0
CallsEnd = (version : ℕ) (call : Call) → IsWithin call_steps_max (program version call)

-- each step of a call is on a backend that is there, the root's or one that an answer named
abbrev pub CallsStayAmong : Type 0
CallsStayAmong = (version backends : ℕ) (call : Call) → 0 < backends → StaysAmong backends (program version call)
