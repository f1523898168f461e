use Rattle.std.proofs.Common.{◌≡◌, ◌++◌, take}
use Rattle.std.specs.List.{flat_map}
use Rattle.trace_text.specs.TraceTexts.{backend_text, ended}
use Rattle.trace_text.proofs.trace_lines.append_backends.Given as goal

abbrev pub invariant-loop-backend : goal.invariant-loop-backend
invariant-loop-backend l = l.text.items ≡ l.fn.text.items ++ flat_map (λ backend. ended (backend_text backend)) (take l.backend-index l.backends)
