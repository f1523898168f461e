use Rattle.std.proofs.Common.{◌≡◌, [], replicate}
use Rattle.trace_text.proofs.openings.Openings.new.Given as goal

abbrev pub invariant-loop : goal.invariant-loop
invariant-loop l = l.threads.items ≡ replicate l.counter []
