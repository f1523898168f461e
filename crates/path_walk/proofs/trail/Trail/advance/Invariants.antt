use Rattle.std.proofs.Common.{◌≡◌, length}
use Rattle.path_walk.specs.Machine.{walk_of, way_of}
use Rattle.path_walk.proofs.trail.Trail.advance.Given as goal

-- the walk is the same, with the same goal
abbrev pub invariant-loop-part : goal.invariant-loop-part
invariant-loop-part l = record {
  same : walk_of l.self (way_of l.self) ≡ walk_of l.fn.self (way_of l.fn.self);
  goal : l.self.goal ≡ l.fn.self.goal;
}

abbrev pub decreases-loop-part : goal.decreases-loop-part
decreases-loop-part l = length l.self.rest
