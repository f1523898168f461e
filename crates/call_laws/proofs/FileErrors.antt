-- A call on files that replies an error leaves the store as it was.
use Rattle.std.proofs.Common.{◌≡◌, ℕ, ◌%◌, Bool, true, false, if◌then◌else◌, Option, None, Some, IsSome, refl, sym, ap, ◌∙◌}
use Rattle.wf_core.specs.Limits.{group_count}
use Rattle.wf_core.specs.declared.errno.Errno.{Errno}
use Rattle.wf_core.specs.declared.errno.Errno.TheVariants.{Ebadf}
use Rattle.file_store.specs.declared.descriptor_operation.Slot.{Slot}
use Rattle.file_store.specs.declared.descriptor_operation.Slot.TheVariants as slot
use Rattle.file_store.specs.declared.descriptor_operation.FdOp.TheVariants as fd
use Rattle.file_store.specs.declared.descriptor_operation.FdAnswer.TheVariants as fd_answer
use Rattle.file_store.specs.DescriptorMap.{with_slot, Map, DescriptorsOutcome, outcome_of, slot_at, is_named, is_description_open, lowest_free, look_answer, place_outcome, copyto_outcome_over, take_outcome}
use Rattle.file_store.specs.declared.file.Description.{Description}
use Rattle.file_store.specs.declared.file_operation.FileAnswer.{FileAnswer}
use Rattle.file_store.specs.declared.file_operation.FileAnswer.TheVariants as file_answer
use Rattle.file_store.specs.declared.file_operation.FileOp.TheVariants.{Release}
use Rattle.file_store.specs.FileGroups.{Group, description_at, fstep, release_outcome}
use Rattle.file_store.specs.Laws.{LeavesGroup}
use Rattle.file_store.proofs.StepLaws.{refusals_change_nothing}
use Rattle.path_walk.specs.declared.descriptor_call.DataCall.{DataCall}
use Rattle.path_walk.specs.declared.step.StoreAnswer.TheVariants.{Files as FilesAnswer, Descriptors as DescriptorsAnswer}
use Rattle.path_walk.specs.declared.step.StepAnswer.TheVariants.{Answered}
use Rattle.path_walk.specs.declared.call.Reply.{Reply}
use Rattle.path_walk.specs.declared.call.Reply.TheVariants as reply
use Rattle.path_walk.specs.Store.{Store, group_at, with_group}
use Rattle.path_walk.specs.Programs.{CallOutcome}
use Rattle.path_walk.specs.Plans.{at_once, fault_in, reply_to_files, unless_told}
use Rattle.path_walk.specs.DescriptorCalls.{op_of_data, data_step_plan, data_plan, number_plan, changes_numbers}
use Rattle.call_laws.specs.ErrorLaws.{DescriptionsAreThere}
use Rattle.call_laws.proofs.StoreLemmas.{same_group}

-- where the outcome is an error, its store is that one
abbrev pub Same : Store → CallOutcome → Type 0
Same store outcome = (error : Errno) → outcome.reply ≡ reply.Fault error → outcome.store ≡ store

fault_leaves : (given : FileAnswer) (error : Errno) → reply_to_files given ≡ reply.Fault error → LeavesGroup given
fault_leaves file_answer.Gone error e = tt
fault_leaves (file_answer.Size size) error e = tt
fault_leaves (file_answer.Fault given) error e = tt
fault_leaves (file_answer.Count count) error e = cc
fault_leaves (file_answer.File file description) error e = cc
fault_leaves (file_answer.Desc description) error e = cc
fault_leaves file_answer.Done error e = cc
fault_leaves (file_answer.Bytes bytes) error e = cc
fault_leaves (file_answer.At at) error e = cc

-- The file of a descriptor.

use_same : (store : Store) (purpose : DataCall) (named : Slot) → Same store (at_once store (data_step_plan purpose (Answered (DescriptorsAnswer (look_answer named)))))
use_same store purpose slot.Free error e = refl
use_same store purpose slot.Reserved error e = refl
use_same store purpose (slot.Dir backend directory) error e = refl
use_same store purpose (slot.File backend description) error e =
    let group = group_at store backend (description % group_count) in
    let outcome = fstep group (op_of_data purpose description) in
    ap (with_group store backend (description % group_count)) (refusals_change_nothing group (op_of_data purpose description) (fault_leaves outcome.answer error e))
    ∙ same_group store backend (description % group_count)

pub uses_same : (store : Store) (number : ℕ) (purpose : DataCall) → Same store (at_once store (data_plan number purpose))
uses_same store number purpose = use_same store purpose (slot_at store.descriptors number)

-- Numbers.

-- on from an operation on the descriptors
abbrev after_numbers : Store → DescriptorsOutcome → CallOutcome
after_numbers store outcome = at_once (record store { descriptors = outcome.map }) (number_plan (Answered (DescriptorsAnswer outcome.answer)))

-- a description that is there is released
release_told : (group : Group) (id : ℕ) (found : Option Description) (given : Reply) → IsSome found → unless_told (fault_in (Answered (FilesAnswer (release_outcome group id found).answer))) given ≡ given
release_told group id None given there = cc
release_told group id (Some description) given there = refl

module _ (store : Store) (there : DescriptionsAreThere store) where
  last_told : (number backend description : ℕ) (given : Reply) → slot_at store.descriptors number ≡ slot.File backend description → unless_told (fault_in (Answered (FilesAnswer (fstep (group_at store backend (description % group_count)) (Release description)).answer))) given ≡ given
  last_told number backend description given named =
      let group = group_at store backend (description % group_count) in
      release_told group description (description_at group description) given (there.named number backend description named)

  take_last : (number backend description : ℕ) (new : Map) (still : Bool) → slot_at store.descriptors number ≡ slot.File backend description → Same store (after_numbers store (record { map = new; answer = if still then fd_answer.Done else fd_answer.Last backend description }))
  take_last number backend description new true named error e = cc
  take_last number backend description new false named error e = let clash : reply.Done ≡ reply.Fault error = sym (last_told number backend description reply.Done named) ∙ e in cc

  take_same : (number : ℕ) (named : Slot) → slot_at store.descriptors number ≡ named → Same store (after_numbers store (take_outcome store.descriptors number named))
  take_same number slot.Free is error e = refl
  take_same number slot.Reserved is error e = refl
  take_same number (slot.Dir backend directory) is error e = cc
  take_same number (slot.File backend description) is error e = take_last number backend description (with_slot store.descriptors number slot.Free) (is_description_open backend description (with_slot store.descriptors number slot.Free)) is error e

  pub takes_same : (number : ℕ) → Same store (at_once store (changes_numbers (fd.Take number)))
  takes_same number = take_same number (slot_at store.descriptors number) refl

  copy_same : (named : Slot) (is : Bool) (free : Option ℕ) → Same store (after_numbers store (if is then place_outcome store.descriptors named free else outcome_of store.descriptors (fd_answer.Fault Ebadf)))
  copy_same named true None error e = refl
  copy_same named true (Some number) error e = cc
  copy_same named false free error e = refl

  pub copies_same : (number : ℕ) → Same store (at_once store (changes_numbers (fd.Copy number)))
  copies_same number = copy_same (slot_at store.descriptors number) (is_named (slot_at store.descriptors number)) (lowest_free store.descriptors)

  onto_last : (target backend description : ℕ) (new : Map) (still : Bool) → slot_at store.descriptors target ≡ slot.File backend description → Same store (after_numbers store (record { map = new; answer = if still then fd_answer.Fd target else fd_answer.FdLast target backend description }))
  onto_last target backend description new true named error e = cc
  onto_last target backend description new false named error e = let clash : reply.Fd target ≡ reply.Fault error = sym (last_told target backend description (reply.Fd target) named) ∙ e in cc

  onto_same : (target : ℕ) (new over : Slot) → slot_at store.descriptors target ≡ over → Same store (after_numbers store (copyto_outcome_over store.descriptors target new over))
  onto_same target new slot.Free is error e = cc
  onto_same target new slot.Reserved is error e = refl
  onto_same target new (slot.Dir backend directory) is error e = cc
  onto_same target new (slot.File backend description) is error e = onto_last target backend description (with_slot store.descriptors target new) (is_description_open backend description (with_slot store.descriptors target new)) is error e

  copyto_same : (target : ℕ) (named : Slot) (may : Bool) → Same store (after_numbers store (if may then copyto_outcome_over store.descriptors target named (slot_at store.descriptors target) else outcome_of store.descriptors (fd_answer.Fault Ebadf)))
  copyto_same target named true error e = onto_same target named (slot_at store.descriptors target) refl error e
  copyto_same target named false error e = refl

  pub copies_onto_same : (number target : ℕ) → Same store (at_once store (changes_numbers (fd.Copyto number target)))
  copies_onto_same number target = copyto_same target (slot_at store.descriptors number) _
