use Rattle.std.proofs.Common.{ap, ◌∙◌, Bool, position}
use Rattle.file_store.specs.DescriptorMap.{is_free}
use Rattle.file_store.proofs.DescriptorMapLemmas.{position-map}
use Rattle.file_store.proofs.descriptors.Descriptors.lowest_free.Goals as goal

pub returns-clause-value : goal.returns-clause-value
returns-clause-value c = rw (← c.self.view_is) (c.first.ensures ∙ ap (λ bs. position (λ (b : Bool). b) bs) c.self.invariant.1 ∙ position-map is_free c.self.inside.slots.items)
