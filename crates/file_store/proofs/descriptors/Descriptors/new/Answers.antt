use Rattle.std.proofs.Common.{sym, refl, ◌∙◌, arith}
use Rattle.std.proofs.lemmas.List.{length-replicate}
use Rattle.file_store.specs.declared.descriptor_operation.Slot.TheVariants as slot
use Rattle.file_store.proofs.DescriptorMapLemmas.{all_free}
use Rattle.file_store.proofs.UsedNumbers.{all_free_at_first}
use Rattle.file_store.proofs.descriptors.Descriptors.new.Goals as goal

pub invariant_of-result : goal.invariant_of-result
invariant_of-result c =
    let items = c.in_ok-vec.ensures.items_if_clones_equal (λ y e. e) in
    rw items (length-replicate 1024 slot.Free, c.full.ensures ∙ sym (all_free 1024), omega arith, all_free_at_first 1024)

pub returns : goal.returns
returns c = rw (c.in_ok-vec.ensures.items_if_clones_equal (λ y e. e), c.new.ensures, c.new-2.ensures) refl
