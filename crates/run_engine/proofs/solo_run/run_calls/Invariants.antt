use Rattle.std.proofs.Common.{◌≡◌, ◌++◌}
use Rattle.std.specs.Vec.Iter.{into_iter_items}
use Rattle.trace_text.specs.SoloText.{replies_text, store_after}
use Rattle.run_engine.proofs.solo_run.run_calls.Given as goal

-- the lines so far and those of the calls that are left are all lines
abbrev pub invariant-loop-line : goal.invariant-loop-line
invariant-loop-line l = record {
  text : l.text.items ++ replies_text l.threads l.run (into_iter_items l.line-iterator) ≡ l.fn.text.items ++ replies_text l.threads l.fn.run l.fn.calls.items;
  store : store_after l.run (into_iter_items l.line-iterator) ≡ store_after l.fn.run l.fn.calls.items;
}
