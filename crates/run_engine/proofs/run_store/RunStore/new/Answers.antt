use Rattle.std.proofs.Common.{◌≡◌, ◌∷◌, [], List, map, sym, ap, ap₂, subst, ◌∙◌, arith}
use Rattle.std.proofs.lemmas.List.{take_all}
use Rattle.file_store.specs.DescriptorMap.{Map}
use Rattle.path_walk.specs.Store.{Backend, Store, opening_backend}
use Rattle.trace_text.specs.declared.trace.BackendLine.{BackendLine}
use Rattle.trace_text.specs.SoloText.{mounts_from, opening_store}
use Rattle.run_engine.specs.RunStores.{IsRunStore}
use Rattle.run_engine.proofs.OpeningLemmas.{opening_is_store}
use Rattle.run_engine.proofs.run_store.RunStore.new.Goals as goal

abbrev store_of : List Backend → Map → Store
store_of backends descriptors = record { backends = backends; descriptors = descriptors }

pub invariant_of-result : goal.invariant_of-result
invariant_of-result c =
    let all = take_all c.loop.index c.args.lines.now (omega (arith, c.loop-test.false)) in
    let is : c.loop.backends.items ≡ (opening_store c.args.lines.now).backends = c.loop.invariant ∙ ap (λ ls. opening_backend (mounts_from 1 c.args.lines.now) ∷ map (λ (line : BackendLine). opening_backend []) ls) all in
    subst IsRunStore (sym (ap₂ store_of is c.in_ok-descriptors.ensures)) (opening_is_store c.args.lines.now)
