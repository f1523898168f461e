use Rattle.std.proofs.Common.{◌<◌, ℕ, length, ap, sym, subst, ◌∙◌}
use Rattle.path_walk.specs.Store.{Backend, Store}
use Rattle.run_engine.specs.RunStores.{backends_of}
use Rattle.run_engine.proofs.StoreLemmas.{all_backends, read_at, with_changed, names_fit, names_told}
use Rattle.memory_backend.proofs.NodesAmong.{told_among}
use Rattle.run_engine.proofs.run_store.RunStore.names_step.Goals as goal

pub invariant_of-self : goal.invariant_of-self
invariant_of-self c =
    let store : Store = record { backends = c.self.inside.backends.items; descriptors = c.self.inside.descriptors } in
    let old : Backend = record { names = c.behind-self.inside.names; groups = c.behind-self.inside.groups.items } in
    let within = subst (λ (n : ℕ). c.args.backend < n) (ap backends_of (sym c.self.view_is) ∙ all_backends store c.self.invariant ∙ ap (λ (s : Store). length s.backends) c.self.view_is) c.requires in
    let here = read_at store.backends c.args.self.now.backends c.number.result c.args.backend old c.index_mut.result.now (ap (λ (s : Store). s.backends) c.self.view_is) c.number.ensures within c.behind-self.view_is c.index_mut.ensures.value in
    with_changed store c.number.result _ c.self.invariant
    (names_fit (length store.backends) old c.apply.new.self c.args.op.now c.apply.result (c.self.invariant.each c.number.result old here) c.apply.ensures.ok c.apply.ensures.err c.apply.ensures.sound)

pub returns-clause-among : goal.returns-clause-among
returns-clause-among c =
    let store : Store = record { backends = c.self.inside.backends.items; descriptors = c.self.inside.descriptors } in
    let old : Backend = record { names = c.behind-self.inside.names; groups = c.behind-self.inside.groups.items } in
    let within = subst (λ (n : ℕ). c.args.backend < n) (ap backends_of (sym c.self.view_is) ∙ all_backends store c.self.invariant ∙ ap (λ (s : Store). length s.backends) c.self.view_is) c.requires in
    let here = read_at store.backends c.args.self.now.backends c.number.result c.args.backend old c.index_mut.result.now (ap (λ (s : Store). s.backends) c.self.view_is) c.number.ensures within c.behind-self.view_is c.index_mut.ensures.value in
    rw (← c.self.view_is) (rw (all_backends store c.self.invariant) (told_among (length store.backends) old.names (c.self.invariant.each c.number.result old here).mounts c.apply.new.self c.args.op.now c.apply.result c.apply.ensures.ok c.apply.ensures.form))

pub returns-clause-ok : goal.returns-clause-ok
returns-clause-ok c =
    let store : Store = record { backends = c.self.inside.backends.items; descriptors = c.self.inside.descriptors } in
    let old : Backend = record { names = c.behind-self.inside.names; groups = c.behind-self.inside.groups.items } in
    let within = subst (λ (n : ℕ). c.args.backend < n) (ap backends_of (sym c.self.view_is) ∙ all_backends store c.self.invariant ∙ ap (λ (s : Store). length s.backends) c.self.view_is) c.requires in
    let here = read_at store.backends c.args.self.now.backends c.number.result c.args.backend old c.index_mut.result.now (ap (λ (s : Store). s.backends) c.self.view_is) c.number.ensures within c.behind-self.view_is c.index_mut.ensures.value in
    rw (← c.self.view_is) (rw (← c.number.ensures) (names_told store c.number.result old c.apply.new.self c.args.op.now c.apply.result here c.apply.ensures.ok))
