use Rattle.std.proofs.Common.{◌≡◌, ◌-◌, length}
use Rattle.name_store.specs.NameTrees.{is_inside}
use Rattle.name_store.proofs.directories.Directories.is_inside.Given as goal

-- the answer is that of the way that is left
abbrev pub invariant-loop : goal.invariant-loop
invariant-loop l = is_inside (length l.self - l.counter) l.self l.top l.here ≡ is_inside (length l.self) l.self l.top l.fn.id
