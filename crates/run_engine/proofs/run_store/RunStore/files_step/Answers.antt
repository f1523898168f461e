use Rattle.std.proofs.Common.{◌<◌, ℕ, length, ap, sym, refl, subst, ◌∙◌, arith}
use Rattle.path_walk.specs.Store.{Backend, Store}
use Rattle.run_engine.specs.RunStores.{backends_of}
use Rattle.run_engine.proofs.StoreLemmas.{all_backends, read_at, with_changed, files_fit, files_told}
use Rattle.run_engine.proofs.run_store.RunStore.files_step.Goals as goal

pub index_mut-requires-2 : goal.index_mut-requires-2
index_mut-requires-2 c =
    let store : Store = record { backends = c.self.inside.backends.items; descriptors = c.self.inside.descriptors } in
    let old : Backend = record { names = c.behind-self.inside.names; groups = c.behind-self.inside.groups.items } in
    let within = subst (λ (n : ℕ). c.args.backend < n) (ap backends_of (sym c.self.view_is) ∙ all_backends store c.self.invariant ∙ ap (λ (s : Store). length s.backends) c.self.view_is) c.requires.backend in
    let here = read_at store.backends c.args.self.now.backends c.number.result c.args.backend old c.index_mut.result.now (ap (λ (s : Store). s.backends) c.self.view_is) c.number.ensures within c.behind-self.view_is c.index_mut.ensures.value in
    let all : c.args.group < length old.groups = subst (λ (n : ℕ). c.args.group < n) (sym (c.self.invariant.each c.number.result old here).groups) c.requires.group in
    omega (arith, all)

pub invariant_of-self : goal.invariant_of-self
invariant_of-self c =
    let store : Store = record { backends = c.self.inside.backends.items; descriptors = c.self.inside.descriptors } in
    let old : Backend = record { names = c.behind-self.inside.names; groups = c.behind-self.inside.groups.items } in
    let within = subst (λ (n : ℕ). c.args.backend < n) (ap backends_of (sym c.self.view_is) ∙ all_backends store c.self.invariant ∙ ap (λ (s : Store). length s.backends) c.self.view_is) c.requires.backend in
    let here = read_at store.backends c.args.self.now.backends c.number.result c.args.backend old c.index_mut.result.now (ap (λ (s : Store). s.backends) c.self.view_is) c.number.ensures within c.behind-self.view_is c.index_mut.ensures.value in
    with_changed store c.number.result _ c.self.invariant
    (files_fit (length store.backends) old c.args.group c.apply.new.self (c.self.invariant.each c.number.result old here))

pub returns-clause-ok : goal.returns-clause-ok
returns-clause-ok c =
    let store : Store = record { backends = c.self.inside.backends.items; descriptors = c.self.inside.descriptors } in
    let old : Backend = record { names = c.behind-self.inside.names; groups = c.behind-self.inside.groups.items } in
    let within = subst (λ (n : ℕ). c.args.backend < n) (ap backends_of (sym c.self.view_is) ∙ all_backends store c.self.invariant ∙ ap (λ (s : Store). length s.backends) c.self.view_is) c.requires.backend in
    let here = read_at store.backends c.args.self.now.backends c.number.result c.args.backend old c.index_mut.result.now (ap (λ (s : Store). s.backends) c.self.view_is) c.number.ensures within c.behind-self.view_is c.index_mut.ensures.value in
    let all : c.args.group < length old.groups = subst (λ (n : ℕ). c.args.group < n) (sym (c.self.invariant.each c.number.result old here).groups) c.requires.group in
    let there = read_at old.groups old.groups c.args.group c.args.group c.index_mut-2.result.now c.index_mut-2.result.now refl refl all refl c.index_mut-2.ensures.value in
    rw (← c.self.view_is) (rw (← c.number.ensures) (files_told store c.number.result c.args.group old c.index_mut-2.result.now c.apply.new.self c.args.op.now c.apply.result here there c.apply.ensures.ok))
