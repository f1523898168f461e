use Rattle.std.proofs.Common.{◌≡◌, map}
use Rattle.name_store.proofs.directory.names_in.Given as goal

-- the names so far
abbrev pub invariant-loop-name : goal.invariant-loop-name
invariant-loop-name l =
    (goal.iterator-loop-name).can_next l.name-iterator ×
    (goal.iterator-loop-name).is_finite l.name-iterator ×
    (l.names ≡ map (λ x. x.now) l.yielded)
