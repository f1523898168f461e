use Rattle.std.proofs.Common.{◌≡◌, ◌++◌, take}
use Rattle.std.specs.List.{flat_map}
use Rattle.trace_text.specs.TraceTexts.{call_line, ended}
use Rattle.trace_text.proofs.trace_lines.append_calls.Given as goal

abbrev pub invariant-loop-line : goal.invariant-loop-line
invariant-loop-line l = l.text.items ≡ l.fn.text.items ++ flat_map (λ line. ended (call_line l.threads line)) (take l.line-index l.calls)
