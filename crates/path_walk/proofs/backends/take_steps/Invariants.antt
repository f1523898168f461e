use Rattle.std.proofs.Common.{◌≡◌, ℕ}
use Rattle.path_walk.specs.declared.call.Call.{Call}
use Rattle.path_walk.specs.declared.trail.Stage.TheVariants.{Start}
use Rattle.path_walk.specs.Calls.{act_of}
use Rattle.path_walk.proofs.Along.{Along}
use Rattle.path_walk.proofs.backends.take_steps.Given as goal

abbrev pub invariant-loop : goal.invariant-loop
invariant-loop g l = record {
  begun : (version : ℕ) × (call : Call) × (l.fn.machine ≡ Start (act_of version call));
  along : (version : ℕ) (call : Call) → l.fn.machine ≡ Start (act_of version call) → Along g.B.Backends.ran g.B.Backends.store version (g.B.Backends.backends l.fn.backends) l.counter call l.fn.backends l.backends l.machine l.answer;
  same : g.B.Backends.backends l.backends ≡ g.B.Backends.backends l.fn.backends;
}
