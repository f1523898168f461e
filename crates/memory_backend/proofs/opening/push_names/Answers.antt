use Rattle.std.proofs.Common.{arith}
use Rattle.memory_backend.proofs.Mounting.{root_within}
use Rattle.memory_backend.proofs.opening.push_names.Goals as goal

pub new-requires-2 : goal.new-requires-2
new-requires-2 c = root_within _ c.args.backends.now c.in_ok-root.root c.in_ok-mounts_of.field-0.items c.in_ok-root.ensures c.in_ok-mounts_of.ensures (omega arith)
