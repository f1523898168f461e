use Rattle.std.proofs.Common.{refl, ap}
use Rattle.file_store.specs.declared.descriptor_operation.Slot.{Slot}
use Rattle.file_store.specs.DescriptorMap.{look_answer}
use Rattle.file_store.proofs.DescriptorLawLemmas.{copy_shares, copy_to_shares}
use Rattle.file_store.proofs.laws.copies_share.Goals as goal

pub returns : goal.returns
returns c = record {
  copy = λ map number copy a.
      let h = copy_shares map number copy _ _ refl refl a in
      (ap (λ (s : Slot). look_answer s) h.0, ap (λ (s : Slot). look_answer s) h.1);
  copy_to = λ map number target done.
      let h = copy_to_shares map number target _ _ refl refl done in
      (ap (λ (s : Slot). look_answer s) h.0, ap (λ (s : Slot). look_answer s) h.1);
}
