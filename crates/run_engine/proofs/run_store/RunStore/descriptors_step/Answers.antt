use Rattle.std.proofs.Common.{ap, sym, subst, ◌∙◌, ℕ}
use Rattle.path_walk.specs.Store.{Store}
use Rattle.path_walk.specs.Backing.{IsFdOpAmong}
use Rattle.run_engine.specs.RunStores.{backends_of}
use Rattle.run_engine.proofs.StoreLemmas.{all_backends, slots_fit, slots_told, with_slots}
use Rattle.run_engine.proofs.run_store.RunStore.descriptors_step.Goals as goal

pub invariant_of-self : goal.invariant_of-self
invariant_of-self c =
    let store : Store = record { backends = c.self.inside.backends.items; descriptors = c.self.inside.descriptors } in
    let fits = subst (λ (n : ℕ). IsFdOpAmong n c.args.op.now) (ap backends_of (sym c.self.view_is) ∙ all_backends store c.self.invariant) c.requires in
    with_slots store c.apply.new.self c.self.invariant (slots_fit store c.apply.new.self c.args.op.now c.apply.result c.self.invariant fits c.apply.ensures.step).0

pub returns-clause-among : goal.returns-clause-among
returns-clause-among c =
    let store : Store = record { backends = c.self.inside.backends.items; descriptors = c.self.inside.descriptors } in
    let fits = subst (λ (n : ℕ). IsFdOpAmong n c.args.op.now) (ap backends_of (sym c.self.view_is) ∙ all_backends store c.self.invariant) c.requires in
    rw (← c.self.view_is) (rw (all_backends store c.self.invariant) (slots_fit store c.apply.new.self c.args.op.now c.apply.result c.self.invariant fits c.apply.ensures.step).1)

pub returns-clause-ok : goal.returns-clause-ok
returns-clause-ok c =
    let store : Store = record { backends = c.self.inside.backends.items; descriptors = c.self.inside.descriptors } in
    rw (← c.self.view_is) (slots_told store c.apply.new.self c.args.op.now c.apply.result c.apply.ensures.step)
