-- A file that has lost its name is there as long as it is open.
use Rattle.std.proofs.Common.{◌≡◌, ◌≢◌, inl, inr, ℕ, ◌%◌, ◌==◌, ◌||◌, Bool, true, false, if◌then◌else◌, List, Option, None, Some, ℤ, refl, sym, ap, subst, ◌∙◌}
use Rattle.std.proofs.lemmas.Bool.{false≢true}
use Rattle.std.proofs.lemmas.Bool.Decides.{Decides-eqb}
use Rattle.wf_core.specs.Limits.{group_count}
use Rattle.name_store.specs.declared.operation.Node.{Node}
use Rattle.name_store.specs.declared.operation.Node.TheVariants.{Dir, Link, File as FileNode, Mount}
use Rattle.name_store.specs.NameTrees.{Tree}
use Rattle.name_store.proofs.Changes.{same_id}
use Rattle.file_store.specs.declared.descriptor_operation.Slot.{Slot}
use Rattle.file_store.specs.declared.descriptor_operation.Slot.TheVariants as slot
use Rattle.file_store.specs.declared.descriptor_operation.FdAnswer.TheVariants as fd_answer
use Rattle.file_store.specs.DescriptorMap.{with_slot, look_answer, slot_at, take_outcome, Map}
use Rattle.file_store.specs.declared.file.File.{File}
use Rattle.file_store.specs.declared.file.Description.{Description}
use Rattle.file_store.specs.declared.file_operation.FileOp.{FileOp}
use Rattle.file_store.specs.declared.file_operation.FileOp.TheVariants as op
use Rattle.file_store.specs.declared.file_operation.FileAnswer.{FileAnswer}
use Rattle.file_store.specs.declared.file_operation.FileAnswer.TheVariants as answer
use Rattle.file_store.specs.Tables.{Table, without_row}
use Rattle.file_store.specs.FileGroups.{Group, FilesOutcome, description_at, file_at, files_after_sweep, files_after_unlink, fstep, is_open, on_open, open_file_at, open_file_of, open_file_with, readat_outcome, release_outcome, size_outcome, with_files}
use Rattle.file_store.proofs.TableChanges.{changed_here, changed_other, removed_here, removed_other, some_found}
use Rattle.path_walk.specs.declared.descriptor_call.DataCall.{DataCall}
use Rattle.path_walk.specs.declared.descriptor_call.DataCall.TheVariants as on_file
use Rattle.path_walk.specs.declared.step.StoreAnswer.TheVariants.{Descriptors as DescriptorsAnswer, Files as FilesAnswer}
use Rattle.path_walk.specs.declared.step.StepAnswer.TheVariants.{Answered}
use Rattle.path_walk.specs.declared.call.Call.TheVariants.{Close}
use Rattle.path_walk.specs.declared.call.Reply.TheVariants as reply
use Rattle.path_walk.specs.Store.{Store, group_at, with_group, with_names}
use Rattle.path_walk.specs.Programs.{CallOutcome}
use Rattle.path_walk.specs.Plans.{at_once, fault_in, reply_to_files, unless_told}
use Rattle.path_walk.specs.DescriptorCalls.{op_of_data, data_step_plan}
use Rattle.path_walk.specs.Posix.{posix}
use Rattle.call_laws.specs.Entries.{after_loss}
use Rattle.call_laws.specs.LastLaws.{IsLast, ReadsAsBefore, RemovedFilesGo, RemovedFilesStay}
use Rattle.call_laws.specs.OpenLaws.{HasGroup}
use Rattle.call_laws.proofs.GroupLemmas.{group_here, groups_named}
use Rattle.call_laws.proofs.RemovalLemmas.{unlink_removes}
use Rattle.call_laws.proofs.SharingLemmas.{after_numbers}
use Rattle.call_laws.proofs.TidyLemmas.{group_either, store_with_slot}

-- What is asked of a file that is open.

-- an answer that hangs on the bytes of a file alone
record OfBytes (done : Description → File → FilesOutcome) : Type 0 where
  same : (d : Description) (file other : File) → other.bytes ≡ file.bytes → (done d other).answer ≡ (done d file).answer

module _ (group : Group) (file : ℕ) where
  abbrev left : Group
  left = (fstep group (op.Unlinked file)).group

  -- a file that is open has its bytes still
  still_bytes : (d : Description) (id : ℕ) → description_at group id ≡ Some d → (was : File) → file_at group d.file ≡ Some was → (now : File) × (file_at left d.file ≡ Some now) × (now.bytes ≡ was.bytes)
  still_bytes d id there was is = elim (same_id d.file file) as (λ _. (now : File) × (file_at left d.file ≡ Some now) × (now.bytes ≡ was.bytes)) [
    | inl e ↦ by_one e (is_open group.descriptions file) (file_at group file) refl refl
    | inr ne ↦ (was, by_other ne (is_open group.descriptions file) (file_at group file) ∙ is, refl)
  ]
    where
      by_other : d.file ≢ file → (used : Bool) (found : Option File) → file_at (with_files group (files_after_unlink group.files used file found)) d.file ≡ file_at group d.file
      by_other ne used None = refl
      by_other ne true (Some old) = changed_other group.files file d.file _ ne
      by_other ne false (Some old) = removed_other group.files file d.file ne

      used_by : d.file ≡ file → is_open group.descriptions file ≡ true
      used_by e = some_found (λ (other : Description). other.file == file) group.descriptions id d there ((Decides-eqb d.file file).1 e)

      by_one : d.file ≡ file → (used : Bool) (found : Option File) → is_open group.descriptions file ≡ used → file_at group file ≡ found → (now : File) × (file_at (with_files group (files_after_unlink group.files used file found)) d.file ≡ Some now) × (now.bytes ≡ was.bytes)
      by_one e false found unused at = absurd (false≢true (sym unused ∙ used_by e))
      by_one e true None used at = let clash : None ≡ Some was = sym at ∙ ap (file_at group) (sym e) ∙ is in cc
      by_one e true (Some old) used at =
          let now : File = record old { linked = false } in
          let same : old ≡ was = let both : Some old ≡ Some was = sym at ∙ ap (file_at group) (sym e) ∙ is in cc in
          (now, ap (file_at (with_files group (files_after_unlink group.files true file (Some old)))) e ∙ changed_here group.files file now old at, ap (λ (f : File). f.bytes) same)

  asked_same : (done : Description → File → FilesOutcome) (done_left : Description → File → FilesOutcome) → ((d : Description) (f : File) → (done_left d f).answer ≡ (done d f).answer) → OfBytes done → (id : ℕ) → (on_open left done_left (open_file_at left id)).answer ≡ (on_open group done (open_file_at group id)).answer
  asked_same done done_left alike of_bytes id = by_description (description_at group id) refl where
    by_file : (d : Description) → description_at group id ≡ Some d → (found : Option File) → file_at group d.file ≡ found → (on_open left done_left (open_file_with (file_at left d.file) d)).answer ≡ (on_open group done (open_file_with found d)).answer
    by_file d there (Some was) is =
        let (now, at, bytes) = still_bytes d id there was is in
        ap (λ (found : Option File). (on_open left done_left (open_file_with found d)).answer) at ∙ alike d now ∙ of_bytes.same d was now bytes
    by_file d there None is = ap (λ (found : Option File). (on_open left done_left (open_file_with found d)).answer) (none_still (is_open group.descriptions file) (file_at group file) refl)
      where
        apart : (old : File) → file_at group file ≡ Some old → d.file ≢ file
        apart old at e = let clash : None ≡ Some old = sym is ∙ ap (file_at group) e ∙ at in cc

        none_still : (used : Bool) (found : Option File) → file_at group file ≡ found → file_at (with_files group (files_after_unlink group.files used file found)) d.file ≡ None
        none_still used None at = is
        none_still true (Some old) at = changed_other group.files file d.file _ (apart old at) ∙ is
        none_still false (Some old) at = removed_other group.files file d.file (apart old at) ∙ is

    by_description : (found : Option Description) → description_at group id ≡ found → (on_open left done_left (open_file_of left found)).answer ≡ (on_open group done (open_file_of group found)).answer
    by_description None is = refl
    by_description (Some d) is = by_file d is (file_at group d.file) refl

  read_same : (id count : ℕ) (offset : ℤ) → (fstep left (op.Readat id count offset)).answer ≡ (fstep group (op.Readat id count offset)).answer
  read_same id count offset = asked_same (readat_outcome group count offset) (readat_outcome left count offset) (λ d f. refl) (record { same = λ d f other e. read_of d f other e }) id where
    read_of : (d : Description) (f other : File) → other.bytes ≡ f.bytes → (readat_outcome group count offset d other).answer ≡ (readat_outcome group count offset d f).answer
    read_of d f other e = ap (λ (xs : List ℕ). (readat_outcome group count offset d (record f { bytes = xs })).answer) e

  size_same : (id : ℕ) → (fstep left (op.Size id)).answer ≡ (fstep group (op.Size id)).answer
  size_same id = asked_same (size_outcome group) (size_outcome left) (λ d f. refl) (record { same = λ d f other e. ap (λ (xs : List ℕ). (size_outcome group d (record f { bytes = xs })).answer) e }) id

-- Calls.

-- what is asked answers the same in both stores
abbrev AnswerAlike : Store → Store → (ℕ → FileOp) → Type 0
AnswerAlike old new asked = (b id : ℕ) → (fstep (group_at new b (id % group_count)) (asked id)).answer ≡ (fstep (group_at old b (id % group_count)) (asked id)).answer

used_alike : (old new : Store) (purpose : DataCall) → AnswerAlike old new (op_of_data purpose) → (named : Slot) → (at_once new (data_step_plan purpose (Answered (DescriptorsAnswer (look_answer named))))).reply ≡ (at_once old (data_step_plan purpose (Answered (DescriptorsAnswer (look_answer named))))).reply
used_alike old new purpose alike slot.Free = refl
used_alike old new purpose alike slot.Reserved = refl
used_alike old new purpose alike (slot.Dir b id) = refl
used_alike old new purpose alike (slot.File b id) = ap reply_to_files (alike b id)

module _ (version : ℕ) (store : Store) (backend : ℕ) (tree : Tree) where
  abbrev named : Store
  named = with_names store backend tree

  lost_alike : (asked : ℕ → FileOp) → ((group : Group) (file id : ℕ) → (fstep (fstep group (op.Unlinked file)).group (asked id)).answer ≡ (fstep group (asked id)).answer) → (node : Node) → AnswerAlike store (after_loss named backend (Some node)) asked
  lost_alike asked same (Dir id) b d = ap (λ (g : Group). (fstep g (asked d)).answer) (groups_named store backend tree b (d % group_count))
  lost_alike asked same (Link id text) b d = ap (λ (g : Group). (fstep g (asked d)).answer) (groups_named store backend tree b (d % group_count))
  lost_alike asked same (Mount other) b d = ap (λ (g : Group). (fstep g (asked d)).answer) (groups_named store backend tree b (d % group_count))
  lost_alike asked same (FileNode file) b d =
      group_either named backend (file % group_count) (fstep (group_at named backend (file % group_count)) (op.Unlinked file)).group b (d % group_count) (λ (g : Group). (fstep g (asked d)).answer ≡ (fstep (group_at store b (d % group_count)) (asked d)).answer)
      (λ e f. same (group_at named backend (file % group_count)) file d ∙ at_place e f) (ap (λ (g : Group). (fstep g (asked d)).answer) (groups_named store backend tree b (d % group_count)))
    where
      at_place : b ≡ backend → d % group_count ≡ file % group_count → (fstep (group_at named backend (file % group_count)) (asked d)).answer ≡ (fstep (group_at store b (d % group_count)) (asked d)).answer
      at_place e f =
          ap (λ (g : Group). (fstep g (asked d)).answer) (groups_named store backend tree backend (file % group_count))
          ∙ sym (ap (λ (n : ℕ). (fstep (group_at store n (file % group_count)) (asked d)).answer) e)
          ∙ sym (ap (λ (n : ℕ). (fstep (group_at store b n) (asked d)).answer) f)

  loss_descriptors : (node : Node) → (after_loss named backend (Some node)).descriptors ≡ store.descriptors
  loss_descriptors (Dir id) = refl
  loss_descriptors (Link id text) = refl
  loss_descriptors (Mount other) = refl
  loss_descriptors (FileNode file) = refl

  loss_stays : (node : Node) → ReadsAsBefore version store (after_loss named backend (Some node))
  loss_stays node = record {
    pread = λ number count offset. ap (λ (s : Slot). (at_once (after_loss named backend (Some node)) (data_step_plan (on_file.Pread count offset) (Answered (DescriptorsAnswer (look_answer s))))).reply) (ap (λ (m : Map). slot_at m number) (loss_descriptors node)) ∙ used_alike store (after_loss named backend (Some node)) (on_file.Pread count offset) (lost_alike (λ id. op.Readat id count offset) (λ group file id. read_same group file id count offset) node) (slot_at store.descriptors number);
    fstat = λ number. ap (λ (s : Slot). (at_once (after_loss named backend (Some node)) (data_step_plan on_file.Fstat (Answered (DescriptorsAnswer (look_answer s))))).reply) (ap (λ (m : Map). slot_at m number) (loss_descriptors node)) ∙ used_alike store (after_loss named backend (Some node)) on_file.Fstat (lost_alike (λ id. op.Size id) (λ group file id. size_same group file id) node) (slot_at store.descriptors number);
  }

pub removed_files_stay : RemovedFilesStay
removed_files_stay = record {
  unlink = λ version store path done. let gone = unlink_removes version store path done in subst (ReadsAsBefore version store) (sym gone.elsewhere) (loss_stays version store gone.here.backend _ gone.node);
  loss = loss_stays;
}

-- The last number.

module _ (version : ℕ) (store : Store) (number backend group : ℕ) (d : Description) (file : File) (has : HasGroup store backend group) (last : IsLast store number backend group d) (is : file_at (group_at store backend group) d.file ≡ Some file) (unlinked : file.linked ≡ false) where
  abbrev id : ℕ
  id = last.opened.id

  abbrev now : Group
  now = group_at store backend group

  abbrev freed : Store
  freed = store_with_slot store number slot.Free

  released : (fstep now (op.Release id)).answer ≡ answer.Done
  released = ap (λ (found : Option Description). (release_outcome now id found).answer) last.opened.there

  swept : file_at (fstep now (op.Release id)).group d.file ≡ None
  swept =
      ap (λ (found : Option Description). file_at (release_outcome now id found).group d.file) last.opened.there
      ∙ ap (λ (used : Bool). let files : Table File = files_after_sweep now.files used d.file (file_at now d.file) in file_at (with_files now files) d.file) last.description_is
      ∙ ap (λ (found : Option File). file_at (with_files now (files_after_sweep now.files false d.file found)) d.file) is
      ∙ ap (λ (linked : Bool). let files : Table File = if linked || false then now.files else without_row now.files d.file in file_at (with_files now files) d.file) unlinked
      ∙ removed_here now.files d.file _ has.sound.file_ids

  closes : posix version store (Close number) ≡ record { store = with_group freed backend group (fstep now (op.Release id)).group; reply = reply.Done }
  closes =
      ap (λ (s : Slot). after_numbers store (take_outcome store.descriptors number s)) last.opened.named
      ∙ ap (λ (still : Bool). after_numbers store (record { map = with_slot store.descriptors number slot.Free; answer = if still then fd_answer.Done else fd_answer.Last backend id })) last.number_is
      ∙ ap (λ (g : ℕ). let o : FilesOutcome = fstep (group_at store backend g) (op.Release id) in let c : CallOutcome = record { store = with_group freed backend g o.group; reply = unless_told (fault_in (Answered (FilesAnswer o.answer))) reply.Done } in c) last.opened.of_group
      ∙ ap (λ (a : FileAnswer). let c : CallOutcome = record { store = with_group freed backend group (fstep now (op.Release id)).group; reply = unless_told (fault_in (Answered (FilesAnswer a))) reply.Done } in c) released

  goes : ((posix version store (Close number)).reply ≡ reply.Done) × (file_at (group_at (posix version store (Close number)).store backend group) d.file ≡ None)
  goes = (
    ap (λ (c : CallOutcome). c.reply) closes,
    ap (λ (c : CallOutcome). file_at (group_at c.store backend group) d.file) closes ∙ ap (λ (g : Group). file_at g d.file) (group_here freed backend group (fstep now (op.Release id)).group id d last.opened.there) ∙ swept,
  )

pub removed_files_go : RemovedFilesGo
removed_files_go version store number backend group d file has last is unlinked = goes version store number backend group d file has last is unlinked
