use Rattle.std.proofs.Common.{◌≡◌, ◌++◌, take}
use Rattle.std.specs.List.{flat_map}
use Rattle.run_engine.specs.Summary.{fault_line}
use Rattle.run_engine.proofs.summary.push_faults.Given as goal

-- the lines so far were added
abbrev pub invariant-loop-error : goal.invariant-loop-error
invariant-loop-error l = l.text.items ≡ l.fn.text.items ++ flat_map (fault_line l.replies) (take l.error-index l.errors)
