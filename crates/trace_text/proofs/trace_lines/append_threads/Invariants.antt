use Rattle.std.proofs.Common.{◌≡◌, ◌++◌, take}
use Rattle.std.specs.List.{flat_map}
use Rattle.trace_text.specs.TraceTexts.{thread_line, ended}
use Rattle.trace_text.proofs.trace_lines.append_threads.Given as goal

abbrev pub invariant-loop-name : goal.invariant-loop-name
invariant-loop-name l = l.text.items ≡ l.fn.text.items ++ flat_map (λ name. ended (thread_line name)) (take l.name-index l.threads)
