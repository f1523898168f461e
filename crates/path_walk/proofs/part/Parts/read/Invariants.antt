use Rattle.std.proofs.Common.{◌≡◌, map, take}
use Rattle.path_walk.specs.Paths.{part_of}
use Rattle.path_walk.proofs.part.Parts.read.Given as goal

-- the parts of the components so far
abbrev pub invariant-loop-piece : goal.invariant-loop-piece
invariant-loop-piece l = l.parts.items ≡ map part_of (map (λ x. x.now) (take l.piece-index l.piece-items))
