use Rattle.std.proofs.Common.{◌≡◌, ◌++◌, map, Some}
use Rattle.cell_runs.specs.Scripts.{pass_in, replies_in}
use Rattle.cell_runs.proofs.script.ends_of.Given as goal

abbrev pub invariant-loop-script : goal.invariant-loop-script
invariant-loop-script g l = record {
  whole : l.yielded ++ l.script-iterator.rest.items ≡ l.fn.scripts.items;
  replies : map replies_in l.yielded ≡ map (λ given. Some given) l.replies.items;
  passes : map pass_in l.yielded ≡ map (λ pass. Some pass) l.passes.items;
}
