use Rattle.std.proofs.Common.{sym, ap, refl, ◌∙◌, inl, inr}
use Rattle.file_store.specs.declared.descriptor_operation.FdAnswer.TheVariants as answer
use Rattle.file_store.specs.DescriptorMap.{Map, is_description_open, outcome_of}
use Rattle.file_store.proofs.descriptors.Descriptors.copy_over.Goals as goal

pub returns-in-Reserved-clause-step : goal.returns-in-Reserved-clause-step
returns-in-Reserved-clause-step c = rw (← c.in-Reserved.ensures.value) refl

pub returns-then-is_open-clause-step : goal.returns-then-is_open-clause-step
returns-then-is_open-clause-step c =
    let named = ap (is_description_open c.in-File.backend c.in-File.description) (sym c.set.ensures.value) ∙ sym c.is_open.ensures ∙ c.if-is_open.true in
    rw (← c.in-File.ensures.value, named) (ap (λ (m : Map). outcome_of m (answer.Fd c.args.number)) (sym c.set.ensures.value))

pub returns-else-is_open-clause-step : goal.returns-else-is_open-clause-step
returns-else-is_open-clause-step c =
    let named = ap (is_description_open c.in-File.backend c.in-File.description) (sym c.set.ensures.value) ∙ sym c.is_open.ensures ∙ c.if-is_open.false in
    rw (← c.in-File.ensures.value, named) (ap (λ (m : Map). outcome_of m (answer.FdLast c.args.number c.in-File.backend c.in-File.description)) (sym c.set.ensures.value))

pub returns-in-Free-clause-step : goal.returns-in-Free-clause-step
returns-in-Free-clause-step c =
    elim c.in-Free.is [
      | inl free ↦ rw (← c.slot.ensures.value, free, c.set-in-Free.ensures.value) refl
      | inr dir ↦ rw (← c.slot.ensures.value, dir.2, c.set-in-Free.ensures.value) refl
    ]
