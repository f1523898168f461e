use Rattle.std.proofs.Common.{◌≡◌, [], ◌++◌, length, map}
use Rattle.turn_cell.specs.Passes.{IsPassOf, pass_number, pass_own, pass_seen}
use Rattle.cell_runs.specs.Runs.{AreCallsMade}
use Rattle.cell_runs.specs.Scripts.{RiseAfter}
use Rattle.trace_text.specs.TraceCalls.{number_in_reply}
use Rattle.thread_runs.specs.StoreRuns.{StoreWalk}
use Rattle.thread_runs.proofs.script.make_calls.Given as goal

abbrev pub invariant-loop-call : goal.invariant-loop-call
invariant-loop-call g l = record {
  whole : l.yielded ++ l.call-iterator.rest.items ≡ l.fn.calls.items;
  of_table : IsPassOf l.stage.table.now l.pass;
  same : pass_number l.pass ≡ pass_number l.fn.pass;
  number : l.number ≡ length l.yielded;
  numbers : l.numbers.items ≡ map number_in_reply l.replies.items;
  made : AreCallsMade (StoreWalk l.stage.version l.stage.backends) (pass_number l.fn.pass) 1 [] l.yielded l.replies.items (pass_own l.pass);
  rise : RiseAfter [] (pass_own l.pass);
  seen : pass_seen l.pass ≡ pass_own l.pass;
}
