use Rattle.std.proofs.Common.{◌≡◌, ◌≤◌, vec_capacity, length}
use Rattle.post_core.specs.Making.{system_uses}
use Rattle.post_core.proofs.making.new_system.Given as goal

abbrev pub invariant-loop-sender : goal.invariant-loop-sender
invariant-loop-sender g l = (l.uses.items ≡ system_uses l.target l.sender) × (length l.uses.items ≡ l.sender) × (l.senders ≤ vec_capacity l.uses)
