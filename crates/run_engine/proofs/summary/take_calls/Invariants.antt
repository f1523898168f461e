use Rattle.std.proofs.Common.{◌≡◌, ◌++◌}
use Rattle.std.specs.Vec.Iter.{into_iter_items}
use Rattle.trace_text.specs.SoloText.{store_after}
use Rattle.run_engine.specs.Summary.{replies_to}
use Rattle.run_engine.proofs.summary.take_calls.Given as goal

-- the replies so far and those to the calls that are left are all replies
abbrev pub invariant-loop-line : goal.invariant-loop-line
invariant-loop-line l = record {
  replies : l.replies.items ++ replies_to l.run (into_iter_items l.line-iterator) ≡ replies_to l.fn.run l.fn.calls.items;
  store : store_after l.run (into_iter_items l.line-iterator) ≡ store_after l.fn.run l.fn.calls.items;
}
