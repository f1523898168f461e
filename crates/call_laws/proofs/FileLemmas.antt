-- What calls by a descriptor read, write and cut.
use Rattle.std.proofs.Common.{arith, ◌≡◌, ℕ, ◌+◌, ◌<◌, ◌==◌, suc, min, Bool, true, false, if◌then◌else◌, List, [], ◌∷◌, length, Option, None, Some, ℤ, pos, refl, sym, ap, subst, ◌∙◌}
use Rattle.std.proofs.lemmas.Bool.Decides.{nat_tests}
use Rattle.wf_core.specs.Limits.{read_max}
use Rattle.wf_core.specs.declared.errno.Errno.{Errno}
use Rattle.wf_core.specs.declared.errno.Errno.TheVariants.{Ebadf, Einval}
use Rattle.file_store.specs.declared.file.File.{File}
use Rattle.file_store.specs.declared.file.Description.{Description}
use Rattle.file_store.specs.declared.file_operation.FileOp.TheVariants as op
use Rattle.file_store.specs.declared.file_operation.FileAnswer.{FileAnswer}
use Rattle.file_store.specs.declared.file_operation.FileAnswer.TheVariants as answer
use Rattle.file_store.specs.FileBytes.{part}
use Rattle.file_store.specs.FileGroups.{Group, FilesOutcome, can_read, cut_outcome, cut_outcome_to, description_at, file_at, fstep, natural, on_open, open_file_at, outcome_of, read_outcome, read_outcome_on, readat_outcome, unless_refused, can_write, with_offset, write_offset, write_outcome, write_outcome_on, writeat_outcome, writeat_outcome_from}
use Rattle.file_store.specs.WriteLaws.{IsWritten, Resizes, WritesBytes}
use Rattle.file_store.proofs.TableChanges.{changed_here}
use Rattle.file_store.proofs.WriteLawLemmas.{cuts_keep_the_rest as group_cuts, writes_are_read as group_writes}
use Rattle.path_walk.specs.declared.descriptor_call.DataCall.{DataCall}
use Rattle.path_walk.specs.declared.descriptor_call.DataCall.TheVariants as on_file
use Rattle.path_walk.specs.declared.call.Reply.TheVariants as reply
use Rattle.path_walk.specs.Store.{Store, group_at, with_group}
use Rattle.path_walk.specs.Programs.{CallOutcome, replied}
use Rattle.path_walk.specs.Plans.{at_once, reply_to_files}
use Rattle.path_walk.specs.DescriptorCalls.{data_plan}
use Rattle.call_laws.specs.FileLaws.{AreReadAt, CutsKeepTheRest, FileCut, FileWritten, IsOpenOn, ReadBy, ReadsMoveOffsets, WritesAreRead, WrittenBy}
use Rattle.call_laws.proofs.StoreLemmas.{same_group}
use Rattle.call_laws.proofs.GroupLemmas.{file_found, group_here, is_fault, opened_use}

-- The answers that replies tell.

count_told : (a : FileAnswer) (n : ℕ) → reply_to_files a ≡ reply.Count n → a ≡ answer.Count n
count_told (answer.Count m) n e = cc
count_told (answer.Size m) n e = cc
count_told (answer.Fault error) n e = cc
count_told answer.Gone n e = cc
count_told (answer.File file description) n e = cc
count_told (answer.Desc description) n e = cc
count_told answer.Done n e = cc
count_told (answer.Bytes bytes) n e = cc
count_told (answer.At at) n e = cc

bytes_told : (a : FileAnswer) (bytes : List ℕ) → reply_to_files a ≡ reply.Bytes bytes → a ≡ answer.Bytes bytes
bytes_told (answer.Bytes other) bytes e = cc
bytes_told (answer.Count m) bytes e = cc
bytes_told (answer.Size m) bytes e = cc
bytes_told (answer.Fault error) bytes e = cc
bytes_told answer.Gone bytes e = cc
bytes_told (answer.File file description) bytes e = cc
bytes_told (answer.Desc description) bytes e = cc
bytes_told answer.Done bytes e = cc
bytes_told (answer.At at) bytes e = cc

-- a call by a descriptor answers no error where it replies none
unfaulted : (a : FileAnswer) (b : FileAnswer) → a ≡ b → is_fault b ≡ false → is_fault a ≡ false
unfaulted a b e h = ap is_fault e ∙ h

done_unfaulted : (a : FileAnswer) → reply_to_files a ≡ reply.Done → is_fault a ≡ false
done_unfaulted (answer.Bytes other) e = cc
done_unfaulted (answer.Count m) e = cc
done_unfaulted (answer.Size m) e = cc
done_unfaulted (answer.Fault error) e = cc
done_unfaulted answer.Gone e = cc
done_unfaulted (answer.File file description) e = refl
done_unfaulted (answer.Desc description) e = refl
done_unfaulted answer.Done e = refl
done_unfaulted (answer.At at) e = cc

-- Cutting.

cut_told : (left : Group) (size : ℤ) (d : Description) (file : File) (a : FileAnswer) → a ≡ (cut_outcome left size d file).answer → reply_to_files a ≡ reply.Done → a ≡ answer.Done
cut_told left size d file a is e = is ∙ by_access (can_write d.mode.access) (ap reply_to_files (sym is) ∙ e) where
  by_fault : (fault : Option Errno) (done : Group) → reply_to_files (unless_refused left fault (record { group = done; answer = answer.Done })).answer ≡ reply.Done → (unless_refused left fault (record { group = done; answer = answer.Done })).answer ≡ answer.Done
  by_fault None done e = refl
  by_fault (Some error) done e = cc

  by_size : (n : Option ℕ) → reply_to_files (cut_outcome_to left d.file file n).answer ≡ reply.Done → (cut_outcome_to left d.file file n).answer ≡ answer.Done
  by_size None e = cc
  by_size (Some n) e = by_fault _ _ e

  by_access : (may : Bool) → reply_to_files (if may then cut_outcome_to left d.file file (natural size) else outcome_of left (answer.Fault Einval)).answer ≡ reply.Done → (if may then cut_outcome_to left d.file file (natural size) else outcome_of left (answer.Fault Einval)).answer ≡ answer.Done
  by_access true e = by_size (natural size) e
  by_access false e = cc

-- Writing.

-- what is told to be written is all
all_or_error : (left : Group) (fault : Option Errno) (done : Group) (n count : ℕ) → (unless_refused left fault (record { group = done; answer = answer.Count n })).answer ≡ answer.Count count → count ≡ n
all_or_error left None done n count e = cc
all_or_error left (Some error) done n count e = cc

nothing_counted : (bytes : List ℕ) (none : Bool) (left : Group) (done : FilesOutcome) (count : ℕ) → (length bytes == 0) ≡ none → (done.answer ≡ answer.Count count → count ≡ length bytes) → (if none then outcome_of left (answer.Count 0) else done).answer ≡ answer.Count count → count ≡ length bytes
nothing_counted [] true left done count is rest e = cc
nothing_counted (b ∷ bytes) true left done count is rest e =
    let some : (suc (length bytes) == 0) ≡ false = grind (arith, nat_tests) in
    let clash : true ≡ false = sym is ∙ some in cc
nothing_counted bytes false left done count is rest e = rest e

counted : (left : Group) (id : ℕ) (bytes : List ℕ) (d : Description) (file : File) (count : ℕ) → (write_outcome left id bytes d file).answer ≡ answer.Count count → count ≡ length bytes
counted left id bytes d file count e = by_access (can_write d.mode.access) e where
  by_access : (may : Bool) → (if may then (if length bytes == 0 then outcome_of left (answer.Count 0) else write_outcome_on left id d file (write_offset d file) bytes) else outcome_of left (answer.Fault Ebadf)).answer ≡ answer.Count count → count ≡ length bytes
  by_access true e = nothing_counted bytes (length bytes == 0) left (write_outcome_on left id d file (write_offset d file) bytes) count refl (all_or_error left _ _ (length bytes) count) e
  by_access false e = cc

counted_at : (left : Group) (bytes : List ℕ) (offset : ℤ) (d : Description) (file : File) (count : ℕ) → (writeat_outcome left bytes offset d file).answer ≡ answer.Count count → count ≡ length bytes
counted_at left bytes offset d file count e = by_access (can_write d.mode.access) e where
  by_offset : (at : Option ℕ) → (writeat_outcome_from left d.file file bytes at).answer ≡ answer.Count count → count ≡ length bytes
  by_offset None e = cc
  by_offset (Some at) e = nothing_counted bytes (length bytes == 0) left _ count refl (all_or_error left _ _ (length bytes) count) e

  by_access : (may : Bool) → (if may then writeat_outcome_from left d.file file bytes (natural offset) else outcome_of left (answer.Fault Ebadf)).answer ≡ answer.Count count → count ≡ length bytes
  by_access true e = by_offset (natural offset) e
  by_access false e = cc

module _ (version : ℕ) (store : Store) (backend group file at : ℕ) (bytes : List ℕ) where
  readat_same : (now : Group) (count : ℕ) (offset : ℤ) (o : Option (Description × File)) → (on_open now (readat_outcome now count offset) o).group ≡ now
  readat_same now count offset None = refl
  readat_same now count offset (Some o) = refl

  reads_at : (before : Group) (old new : File) → WritesBytes before (group_at store backend group) file old new at bytes → AreReadAt version store backend group file at bytes
  reads_at before old new w reader skip count d opened same can low =
      let now : Group = group_at store backend group in
      let given : FilesOutcome = fstep now (op.Readat opened.id count (pos (at + skip))) in
      opened_use store reader (on_file.Pread count (pos (at + skip))) backend group d opened
      ∙ ap (λ (g : Group). let o : CallOutcome = record { store = with_group store backend group g; reply = reply_to_files given.answer } in o) (readat_same now count (pos (at + skip)) (open_file_at now opened.id))
      ∙ ap (λ (s : Store). replied s (reply_to_files given.answer)) (same_group store backend group)
      ∙ ap (λ (a : FileAnswer). replied store (reply_to_files a)) (group_writes.read_at before now file old new at bytes w opened.id skip count d opened.there same can low)

module _ (version : ℕ) (store : Store) (number backend group : ℕ) (d : Description) (opened : IsOpenOn store number backend group d) where
  abbrev now : Group
  now = group_at store backend group

  abbrev later : Group → Store
  later left = with_group store backend group left

  here : (left : Group) → group_at (later left) backend group ≡ left
  here left = group_here store backend group left opened.id d opened.there

  -- the number names its description in a group that has it at another offset
  still_open : (left : Group) (moved : Description) → description_at left opened.id ≡ Some moved → IsOpenOn (later left) number backend group moved
  still_open left moved is = record {
    id = opened.id;
    named = opened.named;
    of_group = opened.of_group;
    there = ap (λ (g : Group). description_at g opened.id) (here left) ∙ is;
  }

  file_written : (left : Group) (file at : ℕ) (bytes : List ℕ) (old new : File) → WritesBytes now left file old new at bytes → FileWritten version store (later left) backend group file at bytes
  file_written left file at bytes old new w = record {
    before = old;
    after = new;
    writes = subst (λ (g : Group). WritesBytes now g file old new at bytes) (sym (here left)) w;
    elsewhere = ap later (sym (here left));
    read = reads_at version (later left) backend group file at bytes now old new (subst (λ (g : Group). WritesBytes now g file old new at bytes) (sym (here left)) w);
  }

  written_by : (left : Group) (file : File) (count at : ℕ) (bytes : List ℕ) → count ≡ length bytes → IsWritten now left opened.id d file at bytes → WrittenBy version store (later left) number backend group d count at bytes
  written_by left file count at bytes all (new, w, moved) = record {
    all = all;
    file = file_written left d.file at bytes file new w;
    offset = still_open left (record d { offset = at + length bytes }) moved;
  }

  abbrev called : DataCall → CallOutcome
  called purpose = at_once store (data_plan number purpose)

  write_call : (count at : ℕ) (bytes : List ℕ) → ((file : File) → open_file_at now opened.id ≡ Some (d, file) → file_at now d.file ≡ Some file → (fstep now (op.Write opened.id bytes)).answer ≡ answer.Count count → IsWritten now (fstep now (op.Write opened.id bytes)).group opened.id d file at bytes) → (called (on_file.Write bytes)).reply ≡ reply.Count count → WrittenBy version store (called (on_file.Write bytes)).store number backend group d count at bytes
  write_call count at bytes law e =
      let o : FilesOutcome = fstep now (op.Write opened.id bytes) in
      let is = opened_use store number (on_file.Write bytes) backend group d opened in
      let told : o.answer ≡ answer.Count count = count_told o.answer count (sym (ap (λ (c : CallOutcome). c.reply) is) ∙ e) in
      let (file, with_file, there) = file_found now opened.id d (write_outcome now opened.id bytes) opened.there (unfaulted o.answer (answer.Count count) told refl) in
      let all : count ≡ length bytes = counted now opened.id bytes d file count (sym (ap (λ (found : Option (Description × File)). (on_open now (write_outcome now opened.id bytes) found).answer) with_file) ∙ told) in
      subst (λ (s : Store). WrittenBy version store s number backend group d count at bytes) (sym (ap (λ (c : CallOutcome). c.store) is)) (written_by o.group file count at bytes all (law file with_file there told))

  abbrev PwriteIs : Store → ℕ → ℕ → List ℕ → Type 0
  PwriteIs new count at bytes = (count ≡ length bytes) × FileWritten version store new backend group d.file at bytes × ((group_at new backend group).descriptions ≡ now.descriptions)

  pwritten : (left : Group) (file : File) (count at : ℕ) (bytes : List ℕ) → count ≡ length bytes → ((new : File) × WritesBytes now left d.file file new at bytes × (left.descriptions ≡ now.descriptions)) → PwriteIs (later left) count at bytes
  pwritten left file count at bytes all (new, w, same) = (all, file_written left d.file at bytes file new w, ap (λ (g : Group). g.descriptions) (here left) ∙ same)

  pwrite_call : (count at : ℕ) (bytes : List ℕ) (offset : ℤ) → natural offset ≡ Some at → 0 < length bytes → (called (on_file.Pwrite bytes offset)).reply ≡ reply.Count count → PwriteIs (called (on_file.Pwrite bytes offset)).store count at bytes
  pwrite_call count at bytes offset is_at some e =
      let o : FilesOutcome = fstep now (op.Writeat opened.id bytes offset) in
      let is = opened_use store number (on_file.Pwrite bytes offset) backend group d opened in
      let told : o.answer ≡ answer.Count count = count_told o.answer count (sym (ap (λ (c : CallOutcome). c.reply) is) ∙ e) in
      let (file, with_file, there) = file_found now opened.id d (writeat_outcome now bytes offset) opened.there (unfaulted o.answer (answer.Count count) told refl) in
      let all : count ≡ length bytes = counted_at now bytes offset d file count (sym (ap (λ (found : Option (Description × File)). (on_open now (writeat_outcome now bytes offset) found).answer) with_file) ∙ told) in
      subst (λ (s : Store). PwriteIs s count at bytes) (sym (ap (λ (c : CallOutcome). c.store) is)) (pwritten o.group file count at bytes all (group_writes.write_at now opened.id bytes offset at count d file with_file is_at some told))

  -- the end of the file that was written to
  append_call : (count : ℕ) (bytes : List ℕ) (file : File) → file_at now d.file ≡ Some file → d.mode.append ≡ true → 0 < length bytes → (called (on_file.Write bytes)).reply ≡ reply.Count count → WrittenBy version store (called (on_file.Write bytes)).store number backend group d count (length file.bytes) bytes
  append_call count bytes file is mode some e = write_call count (length file.bytes) bytes (λ other with_file there told. appended other (sym there ∙ is) (group_writes.append now opened.id bytes count d other with_file mode some told)) e
    where
      appended : (other : File) → Some other ≡ Some file → IsWritten now (fstep now (op.Write opened.id bytes)).group opened.id d other (length other.bytes) bytes → IsWritten now (fstep now (op.Write opened.id bytes)).group opened.id d other (length file.bytes) bytes
      appended other one w = let same : other ≡ file = cc in subst (λ (n : ℕ). IsWritten now (fstep now (op.Write opened.id bytes)).group opened.id d other n bytes) (ap (λ (f : File). length f.bytes) same) w

  -- Reading.

  read_group : (b : Bool) (bytes read : List ℕ) → (let o : FilesOutcome = if b then read_outcome_on now opened.id d read else outcome_of now (answer.Fault Ebadf) in reply_to_files o.answer ≡ reply.Bytes bytes → (bytes ≡ read) × (o.group ≡ with_offset now opened.id d (d.offset + length read)))
  read_group true bytes read e = (cc, refl)
  read_group false bytes read e = cc

  read_by : (file : File) (left : Group) (count : ℕ) (bytes read : List ℕ) → file_at now d.file ≡ Some file → read ≡ part file.bytes d.offset (min count read_max) → (bytes ≡ read) × (left ≡ with_offset now opened.id d (d.offset + length read)) → ReadBy store (later left) number backend group count d bytes
  read_by file left count bytes read is given (same, left_is) = record {
    file = file;
    was = is;
    read = same ∙ given;
    offset = still_open left (record d { offset = d.offset + length bytes }) (ap (λ (g : Group). description_at g opened.id) left_is ∙ changed_here now.descriptions opened.id (record d { offset = d.offset + length read }) d opened.there ∙ ap (λ (xs : List ℕ). let moved : Option Description = Some (record d { offset = d.offset + length xs }) in moved) (sym same));
    files = ap (λ (g : Group). g.files) (here left ∙ left_is);
    elsewhere = ap later (sym (here left));
  }

  read_call : (count : ℕ) (bytes : List ℕ) → (called (on_file.Read count)).reply ≡ reply.Bytes bytes → ReadBy store (called (on_file.Read count)).store number backend group count d bytes
  read_call count bytes e =
      let o : FilesOutcome = fstep now (op.Read opened.id count) in
      let is = opened_use store number (on_file.Read count) backend group d opened in
      let told : o.answer ≡ answer.Bytes bytes = bytes_told o.answer bytes (sym (ap (λ (c : CallOutcome). c.reply) is) ∙ e) in
      let (file, with_file, there) = file_found now opened.id d (read_outcome now opened.id count) opened.there (unfaulted o.answer (answer.Bytes bytes) told refl) in
      let same : o ≡ read_outcome now opened.id count d file = ap (λ (found : Option (Description × File)). on_open now (read_outcome now opened.id count) found) with_file in
      let read = part file.bytes d.offset (min count read_max) in
      let (all, left_is) = read_group (can_read d.mode.access) bytes read (ap (λ (c : FilesOutcome). reply_to_files c.answer) (sym same) ∙ ap reply_to_files told) in
      subst (λ (s : Store). ReadBy store s number backend group count d bytes) (sym (ap (λ (c : CallOutcome). c.store) is)) (read_by file o.group count bytes read there refl (all, ap (λ (c : FilesOutcome). c.group) same ∙ left_is))

  -- Cutting.

  cut_by : (left : Group) (file : File) (size : ℕ) → ((new : File) × Resizes now left d.file file new size × (left.descriptions ≡ now.descriptions)) → FileCut store (later left) backend group d.file size
  cut_by left file size (new, r, same) = record {
    before = file;
    after = new;
    resizes = subst (λ (g : Group). Resizes now g d.file file new size) (sym (here left)) r;
    offsets = ap (λ (g : Group). g.descriptions) (here left) ∙ same;
    elsewhere = ap later (sym (here left));
  }

  cut_call : (n : ℕ) (size : ℤ) → natural size ≡ Some n → (called (on_file.Ftruncate size)).reply ≡ reply.Done → FileCut store (called (on_file.Ftruncate size)).store backend group d.file n
  cut_call n size is_size e =
      let o : FilesOutcome = fstep now (op.Cut opened.id size) in
      let is = opened_use store number (on_file.Ftruncate size) backend group d opened in
      let done : reply_to_files o.answer ≡ reply.Done = sym (ap (λ (c : CallOutcome). c.reply) is) ∙ e in
      let (file, with_file, there) = file_found now opened.id d (cut_outcome now size) opened.there (done_unfaulted o.answer done) in
      let told : o.answer ≡ answer.Done = cut_told now size d file o.answer (ap (λ (found : Option (Description × File)). (on_open now (cut_outcome now size) found).answer) with_file) done in
      subst (λ (s : Store). FileCut store s backend group d.file n) (sym (ap (λ (c : CallOutcome). c.store) is)) (cut_by o.group file n (group_cuts.cut now opened.id size n d file with_file is_size told))

pub writes_are_read : WritesAreRead
writes_are_read = record {
  write = λ version store number backend group count d bytes opened mode some e. write_call version store number backend group d opened count d.offset bytes (λ file with_file there told. group_writes.write (group_at store backend group) opened.id bytes count d file with_file mode some told) e;
  append = λ version store number backend group count d bytes file opened is mode some e. append_call version store number backend group d opened count bytes file is mode some e;
  pwrite = λ version store number backend group count at d bytes offset opened is some e. pwrite_call version store number backend group d opened count at bytes offset is some e;
}

pub reads_move_offsets : ReadsMoveOffsets
reads_move_offsets version store number backend group count d bytes opened e = read_call version store number backend group d opened count bytes e

pub cuts_keep_the_rest : CutsKeepTheRest
cuts_keep_the_rest version store number backend group n d size opened is e = cut_call version store number backend group d opened n size is e
