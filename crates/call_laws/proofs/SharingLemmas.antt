-- Numbers that name the same do the same, and one reads on where the other has read to.
use Rattle.std.proofs.Common.{◌≡◌, ℕ, ◌+◌, min, Bool, true, false, if◌then◌else◌, length, Option, None, Some, refl, sym, ap, ◌∙◌}
use Rattle.wf_core.specs.Limits.{read_max}
use Rattle.wf_core.specs.declared.errno.Errno.TheVariants.{Ebadf}
use Rattle.file_store.specs.declared.descriptor_operation.Slot.{Slot}
use Rattle.file_store.specs.declared.descriptor_operation.FdAnswer.TheVariants as fd_answer
use Rattle.file_store.specs.DescriptorMap.{DescriptorsOutcome, Map, is_named, look_answer, lowest_free, outcome_of, place_outcome, slot_at}
use Rattle.file_store.proofs.DescriptorLawLemmas.{copy_shares}
use Rattle.file_store.specs.Tables.{Table, row_at}
use Rattle.file_store.specs.declared.file.File.{File}
use Rattle.file_store.specs.declared.file.Description.{Description}
use Rattle.file_store.specs.FileBytes.{part}
use Rattle.path_walk.specs.declared.descriptor_call.DataCall.{DataCall}
use Rattle.path_walk.specs.declared.descriptor_call.DataCall.TheVariants as on_file
use Rattle.path_walk.specs.declared.step.StoreAnswer.TheVariants.{Descriptors as DescriptorsAnswer}
use Rattle.path_walk.specs.declared.step.StepAnswer.TheVariants.{Answered}
use Rattle.path_walk.specs.declared.call.Call.TheVariants.{Dup, Read}
use Rattle.path_walk.specs.declared.call.Reply.TheVariants as reply
use Rattle.path_walk.specs.Store.{Store}
use Rattle.path_walk.specs.Programs.{CallOutcome}
use Rattle.path_walk.specs.Plans.{at_once}
use Rattle.path_walk.specs.DescriptorCalls.{number_plan, data_step_plan, data_plan}
use Rattle.path_walk.specs.Posix.{posix}
use Rattle.call_laws.specs.FileLaws.{AreOne, CopiesShare, DoTheSame, IsOpenOn, ReadBy, ReadsOn}
use Rattle.call_laws.proofs.FileLemmas.{reads_move_offsets}

-- on from an operation on the descriptors
abbrev pub after_numbers : Store → DescriptorsOutcome → CallOutcome
after_numbers store outcome = at_once (record store { descriptors = outcome.map }) (number_plan (Answered (DescriptorsAnswer outcome.answer)))

module _ (version : ℕ) (store : Store) (number : ℕ) where
  abbrev copied : Bool → Option ℕ → DescriptorsOutcome
  copied named free = if named then place_outcome store.descriptors (slot_at store.descriptors number) free else outcome_of store.descriptors (fd_answer.Fault Ebadf)

  copy_told : (named : Bool) (free : Option ℕ) (copy : ℕ) → (after_numbers store (copied named free)).reply ≡ reply.Fd copy → ((copied named free).answer ≡ fd_answer.Fd copy) × ((after_numbers store (copied named free)).store.descriptors ≡ (copied named free).map)
  copy_told true None copy e = cc
  copy_told true (Some place) copy e = (cc, refl)
  copy_told false free copy e = cc

  dup_shares : (copy : ℕ) → (posix version store (Dup number)).reply ≡ reply.Fd copy → AreOne (posix version store (Dup number)).store number copy × (slot_at (posix version store (Dup number)).store.descriptors number ≡ slot_at store.descriptors number)
  dup_shares copy e =
      let map : Map = store.descriptors in
      let (told, left) = copy_told (is_named (slot_at map number)) (lowest_free map) copy e in
      let (first, second) = copy_shares map number copy (is_named (slot_at map number)) (lowest_free map) refl refl told in
      let at_copy = ap (λ (m : Map). slot_at m copy) left in
      let at_number = ap (λ (m : Map). slot_at m number) left in
      (at_copy ∙ first ∙ sym second ∙ sym at_number, at_number ∙ second)

module _ (version : ℕ) (store : Store) (number other : ℕ) (one : AreOne store number other) where
  use_same : (purpose : DataCall) → at_once store (data_plan other purpose) ≡ at_once store (data_plan number purpose)
  use_same purpose = ap (λ (s : Slot). at_once store (data_step_plan purpose (Answered (DescriptorsAnswer (look_answer s))))) one

  do_the_same : DoTheSame version store number other
  do_the_same = record {
    read = λ count. use_same (on_file.Read count);
    pread = λ count offset. use_same (on_file.Pread count offset);
    write = λ bytes. use_same (on_file.Write bytes);
    pwrite = λ bytes offset. use_same (on_file.Pwrite bytes offset);
    seek = λ offset whence. use_same (on_file.Seek offset whence);
    ftruncate = λ size. use_same (on_file.Ftruncate size);
    fstat = use_same on_file.Fstat;
  }

  reads_on : (backend group : ℕ) → ReadsOn version store number other backend group
  reads_on backend group count more d first next opened e f =
      let left : Store = (posix version store (Read number count)).store in
      let one_read : ReadBy store left number backend group count d first = reads_move_offsets version store number backend group count d first opened e in
      let still : AreOne left number other = ap (λ (s : Store). slot_at s.descriptors other) one_read.elsewhere ∙ one ∙ sym (ap (λ (s : Store). slot_at s.descriptors number) one_read.elsewhere) in
      let moved : Description = record d { offset = d.offset + length first } in
      let there : IsOpenOn left number backend group moved = one_read.offset in
      let through : IsOpenOn left other backend group moved = record { id = there.id; named = still ∙ there.named; of_group = there.of_group; there = there.there } in
      let goes_on : ReadBy left (posix version left (Read other more)).store other backend group more moved next = reads_move_offsets version left other backend group more moved next through f in
      let again : Some one_read.file ≡ Some goes_on.file = sym one_read.was ∙ sym (ap (λ (files : Table File). row_at files d.file) one_read.files) ∙ goes_on.was in
      let same : goes_on.file ≡ one_read.file = cc in
      (one_read.file, one_read.was, one_read.read, goes_on.read ∙ ap (λ (file : File). part file.bytes (d.offset + length first) (min more read_max)) same)

pub copies_share : CopiesShare
copies_share = record {
  dup = dup_shares;
  same = do_the_same;
  reads_on = λ version store number other backend group one. reads_on version store number other one backend group;
}
