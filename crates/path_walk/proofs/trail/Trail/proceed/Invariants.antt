use Rattle.std.proofs.Common.{◌≡◌}
use Rattle.path_walk.specs.Machine.{walk_of, way_of, walks_after}
use Rattle.path_walk.proofs.trail.Trail.proceed.Given as goal

-- the walk that is left is the same
abbrev pub invariant-loop-need : goal.invariant-loop-need
invariant-loop-need l = walk_of l.trail (way_of l.trail) ≡ walk_of l.fn.self (way_of l.fn.self)

abbrev pub decreases-loop-need : goal.decreases-loop-need
decreases-loop-need l = walks_after l.trail.goal
