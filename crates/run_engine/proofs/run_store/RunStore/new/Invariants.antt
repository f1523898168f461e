use Rattle.std.proofs.Common.{◌≡◌, ◌∷◌, [], map, take}
use Rattle.path_walk.specs.Store.{opening_backend}
use Rattle.trace_text.specs.SoloText.{mounts_from}
use Rattle.run_engine.proofs.run_store.RunStore.new.Given as goal

-- the root's backend, and one for each line so far
abbrev pub invariant-loop : goal.invariant-loop
invariant-loop l = l.backends.items ≡ opening_backend (mounts_from 1 l.lines) ∷ map (λ line. opening_backend []) (take l.index l.lines)
