use Rattle.std.proofs.Common.{◌≡◌, ◌∙◌, List, ap, take}
use Rattle.std.specs.List.{list_any}
use Rattle.file_store.specs.declared.descriptor_operation.Slot.{Slot}
use Rattle.file_store.specs.DescriptorMap.{is_description_open, is_number_of}
use Rattle.file_store.proofs.UsedNumbers.{open_in_front}
use Rattle.file_store.proofs.descriptors.Descriptors.is_open.Goals as goal

pub returns : goal.returns
returns c =
    c.is_named_in.ensures
    ∙ ap (λ (slots : List Slot). list_any (is_number_of c.args.backend c.args.description) (take c.self.inside.end slots)) c.deref.ensures.value
    ∙ open_in_front c.args.backend c.args.description c.self.inside.slots.items c.self.inside.end c.self.invariant.3
    ∙ ap (is_description_open c.args.backend c.args.description) c.self.view_is
