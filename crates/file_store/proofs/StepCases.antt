-- The ways that one step may go, so that a law on steps is shown way by way.
use Rattle.std.proofs.Common.{◌≡◌, ℕ, ◌+◌, ◌≤◌, ◌==◌, ◌||◌, Bool, true, false, cond, ltb, min, List, length, Option, None, Some, is_some, Result, Ok, Err, ℤ, pos, ◌+ℤ◌, refl, sym, ap, ◌∙◌, inl, inr, arith}
use Rattle.std.proofs.lemmas.Bool.{false≢true, ltb-false}
use Rattle.std.proofs.lemmas.Bool.Decides.{Decides-eqb}
use Rattle.wf_core.specs.declared.errno.Errno.{Errno}
use Rattle.wf_core.specs.declared.errno.Errno.TheVariants.{Ebadf, Einval, Efbig, Enospc, Eoverflow}
use Rattle.wf_core.specs.Limits.{file_max, group_max, offset_max, read_max}
use Rattle.file_store.specs.declared.file.File.{File}
use Rattle.file_store.specs.declared.file.Description.{Description}
use Rattle.file_store.specs.declared.file_operation.Mode.{Mode}
use Rattle.file_store.specs.declared.file_operation.Whence.{Whence}
use Rattle.file_store.specs.declared.file_operation.FileOp.{FileOp}
use Rattle.file_store.specs.declared.file_operation.FileOp.TheVariants as op
use Rattle.file_store.specs.declared.file_operation.FileAnswer.{FileAnswer}
use Rattle.file_store.specs.declared.file_operation.FileAnswer.TheVariants as answer
use Rattle.file_store.specs.FileBytes.{part}
use Rattle.file_store.specs.FileForms.{IsForm, AreOfRead}
use Rattle.file_store.proofs.FileBytesLemmas.{length-part}
use Rattle.file_store.specs.Tables.{Table, without_row, with_row}
use Rattle.file_store.specs.FileGroups.{Group, FilesOutcome, fstep, outcome_of, file_at, description_at, on_open, open_file_at, open_file_of, open_file_with, is_open, total, make_outcome, attach_outcome, with_description, with_files, with_offset, files_after_truncation, files_after_unlink, files_after_sweep, sizeof_answer, release_outcome, read_outcome, read_outcome_on, readat_outcome, readat_answer_from, write_outcome, write_outcome_on, writeat_outcome, writeat_outcome_from, write_offset, with_bytes, put_refusal, refusal, unless_refused, seek_outcome, seek_outcome_to, seek_base, seek_offset, natural, cut_outcome, cut_outcome_to, cut_refusal, with_size, size_outcome, can_read, can_write}

-- a description and its file are there
pub record Opened (group : Group) (id : ℕ) (description : Description) (file : File) : Type 0 where
  pub there : description_at group id ≡ Some description
  pub of_file : file_at group description.file ≡ Some file

-- what is shown of each way
pub record Ways (group : Group) (P : FileOp → FilesOutcome → Type 0) : Type 0 where
  -- nothing is changed
  pub same : (o : FileOp) (a : FileAnswer) → IsForm o a → P o (outcome_of group a)
  pub size : (o : FileOp) (id : ℕ) (file : File) → ((n : ℕ) → n ≤ file_max → IsForm o (answer.Size n)) → file_at group id ≡ Some file → P o (outcome_of group (answer.Size (length file.bytes)))
  pub made : (mode : Mode) → P (op.Make mode) (make_outcome group mode)
  pub attached : (id : ℕ) (mode : Mode) (truncate : Bool) (file : File) → file_at group id ≡ Some file → P (op.Attach id mode truncate) (record { group = with_description (with_files group (files_after_truncation group.files id file truncate)) id mode; answer = answer.Desc group.descriptions.next })
  pub unlinked : (id : ℕ) (file : File) → file_at group id ≡ Some file → is_open group.descriptions id ≡ true → P (op.Unlinked id) (record { group = with_files group (with_row group.files id (record file { linked = false })); answer = answer.Done })
  pub freed : (id : ℕ) (file : File) → file_at group id ≡ Some file → is_open group.descriptions id ≡ false → P (op.Unlinked id) (record { group = with_files group (without_row group.files id); answer = answer.Done })
  pub released : (id : ℕ) (description : Description) → description_at group id ≡ Some description → ((file : File) → file_at group description.file ≡ Some file → file.linked ≡ false → is_open (without_row group.descriptions id) description.file ≡ true) → P (op.Release id) (record { group = record { files = group.files; descriptions = without_row group.descriptions id }; answer = answer.Done })
  pub ended : (id : ℕ) (description : Description) (file : File) → Opened group id description file → file.linked ≡ false → is_open (without_row group.descriptions id) description.file ≡ false → P (op.Release id) (record { group = record { files = without_row group.files description.file; descriptions = without_row group.descriptions id }; answer = answer.Done })
  pub read : (id count : ℕ) (description : Description) (file : File) → Opened group id description file → P (op.Read id count) (read_outcome_on group id description (part file.bytes description.offset (min count read_max)))
  pub wrote : (id : ℕ) (bytes : List ℕ) (description : Description) (file : File) → Opened group id description file → (length bytes == 0) ≡ false → put_refusal group.files description.file file (write_offset description file) bytes ≡ None → P (op.Write id bytes) (record { group = with_offset (with_files group (with_bytes group.files description.file file (write_offset description file) bytes)) id description (write_offset description file + length bytes); answer = answer.Count (length bytes) })
  pub wrote_at : (id : ℕ) (bytes : List ℕ) (offset : ℤ) (at : ℕ) (description : Description) (file : File) → Opened group id description file → natural offset ≡ Some at → (length bytes == 0) ≡ false → put_refusal group.files description.file file at bytes ≡ None → P (op.Writeat id bytes offset) (record { group = with_files group (with_bytes group.files description.file file at bytes); answer = answer.Count (length bytes) })
  pub sought : (id : ℕ) (offset : ℤ) (whence : Whence) (at : ℕ) (description : Description) (file : File) → Opened group id description file → at ≤ offset_max → P (op.Seek id offset whence) (record { group = with_offset group id description at; answer = answer.At at })
  pub cut : (id : ℕ) (size : ℤ) (n : ℕ) (description : Description) (file : File) → Opened group id description file → natural size ≡ Some n → cut_refusal group.files description.file file n ≡ None → P (op.Cut id size) (record { group = with_files group (with_size group.files description.file file n); answer = answer.Done })

-- a fact of one of two values, by the test that chose it
pub chosen : {X : Type 0} (P : X → Type 0) (b : Bool) (x y : X) → (b ≡ true → P x) → (b ≡ false → P y) → P (cond b x y)
chosen P true x y px py = px refl
chosen P false x y px py = py refl

-- a description with its file, where both are there
pub opened : (group : Group) (id : ℕ) (P : Option (Description × File) → Type 0) → P None → ((description : Description) (file : File) → Opened group id description file → P (Some (description, file))) → P (open_file_at group id)
opened group id P none some = by_description (description_at group id) refl where
  by_file : (description : Description) (found : Option File) → description_at group id ≡ Some description → file_at group description.file ≡ found → P (open_file_with found description)
  by_file description None there is = none
  by_file description (Some file) there is = some description file (record { there = there; of_file = is })

  by_description : (found : Option Description) → description_at group id ≡ found → P (open_file_of group found)
  by_description None is = none
  by_description (Some description) is = by_file description (file_at group description.file) is refl

-- a part that was read is within what was asked for
pub of_read : (bytes : List ℕ) (offset count : ℕ) → AreOfRead count (part bytes offset (min count read_max))
of_read bytes offset count = let size = length-part bytes offset (min count read_max) in (omega (arith, size), omega (arith, size))

zero_is : (n : ℕ) → (n == 0) ≡ true → 0 ≡ n
zero_is n t = sym ((Decides-eqb n 0).0 t)

-- what a refusal is
refused : (P : Option Errno → Type 0) (end : ℕ) (files : Table File) → P (Some Efbig) → P (Some Enospc) → P None → P (refusal end files)
refused P end files big full none = chosen P (ltb file_max end) (Some Efbig) (cond (ltb group_max (total files)) (Some Enospc) None) (λ t. big) (λ t. chosen P (ltb group_max (total files)) (Some Enospc) None (λ t. full) (λ t. none))

-- what is done by a description, by whether it is there
pub on_opened : (group : Group) (id : ℕ) (P : FilesOutcome → Type 0) (done : Description → File → FilesOutcome) → P (outcome_of group (answer.Fault Ebadf)) → ((description : Description) (file : File) → Opened group id description file → P (done description file)) → P (on_open group done (open_file_at group id))
on_opened group id P done none some = opened group id (λ (o : Option (Description × File)). P (on_open group done o)) none some

module _ (group : Group) (P : FileOp → FilesOutcome → Type 0) (ways : Ways group P) where
  unless : (o : FileOp) (end : ℕ) (files : Table File) (done : FilesOutcome) → IsForm o (answer.Fault Efbig) → IsForm o (answer.Fault Enospc) → (refusal end files ≡ None → P o done) → P o (unless_refused group (refusal end files) done)
  unless o end files done big full go =
      refused (λ (e : Option Errno). (e ≡ None → P o done) → P o (unless_refused group e done)) end files (λ g. ways.same o (answer.Fault Efbig) big) (λ g. ways.same o (answer.Fault Enospc) full) (λ g. g refl) go

  attach_step : (id : ℕ) (mode : Mode) (truncate : Bool) (found : Option File) → file_at group id ≡ found → P (op.Attach id mode truncate) (attach_outcome group id mode truncate found)
  attach_step id mode truncate None is = ways.same (op.Attach id mode truncate) answer.Gone tt
  attach_step id mode truncate (Some file) is =
      chosen (P (op.Attach id mode truncate)) file.linked (record { group = with_description (with_files group (files_after_truncation group.files id file truncate)) id mode; answer = answer.Desc group.descriptions.next }) (outcome_of group answer.Gone) (λ t. ways.attached id mode truncate file is) (λ t. ways.same (op.Attach id mode truncate) answer.Gone tt)

  sizeof_step : (id : ℕ) (found : Option File) → file_at group id ≡ found → P (op.Sizeof id) (outcome_of group (sizeof_answer found))
  sizeof_step id None is = ways.same (op.Sizeof id) answer.Gone tt
  sizeof_step id (Some file) is =
      chosen (λ (a : FileAnswer). P (op.Sizeof id) (outcome_of group a)) file.linked (answer.Size (length file.bytes)) answer.Gone (λ t. ways.size (op.Sizeof id) id file (λ n low. low) is) (λ t. ways.same (op.Sizeof id) answer.Gone tt)

  unlink_step : (id : ℕ) (in_use : Bool) (found : Option File) → is_open group.descriptions id ≡ in_use → file_at group id ≡ found → P (op.Unlinked id) (outcome_of (with_files group (files_after_unlink group.files in_use id found)) answer.Done)
  unlink_step id in_use None used is = ways.same (op.Unlinked id) answer.Done tt
  unlink_step id true (Some file) used is = ways.unlinked id file is used
  unlink_step id false (Some file) used is = ways.freed id file is used

  release_step : (id : ℕ) (found : Option Description) → description_at group id ≡ found → P (op.Release id) (release_outcome group id found)
  release_step id None is = ways.same (op.Release id) (answer.Fault Ebadf) refl
  release_step id (Some description) is = by_file (file_at group description.file) refl where
    left : Table Description
    left = without_row group.descriptions id

    in_use : Bool
    in_use = is_open (without_row group.descriptions id) description.file

    by_flags : (file : File) (linked used : Bool) → file_at group description.file ≡ Some file → file.linked ≡ linked → is_open (without_row group.descriptions id) description.file ≡ used → P (op.Release id) (record { group = record { files = cond (linked || used) group.files (without_row group.files description.file); descriptions = without_row group.descriptions id }; answer = answer.Done })
    by_flags file true used found l u = ways.released id description is (λ other e unlinked. absurd (false≢true (sym unlinked ∙ ap (λ (o : Option File). linked_of o) (sym e ∙ found) ∙ l))) where
      linked_of : Option File → Bool
      linked_of None = true
      linked_of (Some f) = f.linked
    by_flags file false true found l u = ways.released id description is (λ other e unlinked. u)
    by_flags file false false found l u = ways.ended id description file (record { there = is; of_file = found }) l u

    by_file : (found : Option File) → file_at group description.file ≡ found → P (op.Release id) (record { group = record { files = files_after_sweep group.files (is_open (without_row group.descriptions id) description.file) description.file found; descriptions = without_row group.descriptions id }; answer = answer.Done })
    by_file None e = ways.released id description is (λ file there unlinked. absurd (false≢true (ap is_some (sym e ∙ there))))
    by_file (Some file) e = by_flags file file.linked (is_open (without_row group.descriptions id) description.file) e refl refl

  read_step : (id count : ℕ) → P (op.Read id count) (on_open group (read_outcome group id count) (open_file_at group id))
  read_step id count = on_opened group id (P (op.Read id count)) (read_outcome group id count) (ways.same (op.Read id count) (answer.Fault Ebadf) refl) (λ description file there.
      chosen (P (op.Read id count)) (can_read description.mode.access) (read_outcome_on group id description (part file.bytes description.offset (min count read_max))) (outcome_of group (answer.Fault Ebadf)) (λ t. ways.read id count description file there) (λ t. ways.same (op.Read id count) (answer.Fault Ebadf) refl))

  readat_from : (id count : ℕ) (offset : ℤ) (file : File) (at : Option ℕ) → P (op.Readat id count offset) (outcome_of group (readat_answer_from file count at))
  readat_from id count offset file None = ways.same (op.Readat id count offset) (answer.Fault Einval) (inr refl)
  readat_from id count offset file (Some at) = ways.same (op.Readat id count offset) (answer.Bytes (part file.bytes at (min count read_max))) (of_read file.bytes at count)

  readat_step : (id count : ℕ) (offset : ℤ) → P (op.Readat id count offset) (on_open group (readat_outcome group count offset) (open_file_at group id))
  readat_step id count offset = on_opened group id (P (op.Readat id count offset)) (readat_outcome group count offset) (ways.same (op.Readat id count offset) (answer.Fault Ebadf) (inl refl)) (λ description file there.
      chosen (λ (a : FileAnswer). P (op.Readat id count offset) (outcome_of group a)) (can_read description.mode.access) (readat_answer_from file count (natural offset)) (answer.Fault Ebadf) (λ t. readat_from id count offset file (natural offset)) (λ t. ways.same (op.Readat id count offset) (answer.Fault Ebadf) (inl refl)))

  write_step : (id : ℕ) (bytes : List ℕ) → P (op.Write id bytes) (on_open group (write_outcome group id bytes) (open_file_at group id))
  write_step id bytes = on_opened group id (P (op.Write id bytes)) (write_outcome group id bytes) (ways.same (op.Write id bytes) (answer.Fault Ebadf) (inl refl)) (λ description file there.
      let at = write_offset description file in
      let done : FilesOutcome = record { group = with_offset (with_files group (with_bytes group.files description.file file at bytes)) id description (at + length bytes); answer = answer.Count (length bytes) } in
      chosen (P (op.Write id bytes)) (can_write description.mode.access) (cond (length bytes == 0) (outcome_of group (answer.Count 0)) (write_outcome_on group id description file at bytes)) (outcome_of group (answer.Fault Ebadf))
      (λ t. chosen (P (op.Write id bytes)) (length bytes == 0) (outcome_of group (answer.Count 0)) (write_outcome_on group id description file at bytes) (λ e. ways.same (op.Write id bytes) (answer.Count 0) (zero_is (length bytes) e)) (λ e. unless (op.Write id bytes) (at + length bytes) (with_bytes group.files description.file file at bytes) done (inr (inl refl)) (inr (inr refl)) (ways.wrote id bytes description file there e)))
      (λ t. ways.same (op.Write id bytes) (answer.Fault Ebadf) (inl refl)))

  writeat_from : (id : ℕ) (bytes : List ℕ) (offset : ℤ) (description : Description) (file : File) → Opened group id description file → (at : Option ℕ) → natural offset ≡ at → P (op.Writeat id bytes offset) (writeat_outcome_from group description.file file bytes at)
  writeat_from id bytes offset description file there None is = ways.same (op.Writeat id bytes offset) (answer.Fault Einval) (inr (inl refl))
  writeat_from id bytes offset description file there (Some at) is =
      let done : FilesOutcome = record { group = with_files group (with_bytes group.files description.file file at bytes); answer = answer.Count (length bytes) } in
      chosen (P (op.Writeat id bytes offset)) (length bytes == 0) (outcome_of group (answer.Count 0)) (unless_refused group (put_refusal group.files description.file file at bytes) done) (λ e. ways.same (op.Writeat id bytes offset) (answer.Count 0) (zero_is (length bytes) e)) (λ e. unless (op.Writeat id bytes offset) (at + length bytes) (with_bytes group.files description.file file at bytes) done (inr (inr (inl refl))) (inr (inr (inr refl))) (ways.wrote_at id bytes offset at description file there is e))

  writeat_step : (id : ℕ) (bytes : List ℕ) (offset : ℤ) → P (op.Writeat id bytes offset) (on_open group (writeat_outcome group bytes offset) (open_file_at group id))
  writeat_step id bytes offset = on_opened group id (P (op.Writeat id bytes offset)) (writeat_outcome group bytes offset) (ways.same (op.Writeat id bytes offset) (answer.Fault Ebadf) (inl refl)) (λ description file there.
      chosen (P (op.Writeat id bytes offset)) (can_write description.mode.access) (writeat_outcome_from group description.file file bytes (natural offset)) (outcome_of group (answer.Fault Ebadf)) (λ t. writeat_from id bytes offset description file there (natural offset) refl) (λ t. ways.same (op.Writeat id bytes offset) (answer.Fault Ebadf) (inl refl)))

  seek_to : (id : ℕ) (offset : ℤ) (whence : Whence) (description : Description) (file : File) → Opened group id description file → (at : Option ℕ) → P (op.Seek id offset whence) (seek_outcome_to group id description (seek_offset at))
  seek_to id offset whence description file there None = ways.same (op.Seek id offset whence) (answer.Fault Einval) (inr (inl refl))
  seek_to id offset whence description file there (Some at) =
      chosen (λ (r : Result ℕ Errno). P (op.Seek id offset whence) (seek_outcome_to group id description r)) (ltb offset_max at) (Err Eoverflow) (Ok at) (λ t. ways.same (op.Seek id offset whence) (answer.Fault Eoverflow) (inr (inr refl))) (λ t. ways.sought id offset whence at description file there (ltb-false offset_max at t))

  seek_step : (id : ℕ) (offset : ℤ) (whence : Whence) → P (op.Seek id offset whence) (on_open group (seek_outcome group id offset whence) (open_file_at group id))
  seek_step id offset whence = on_opened group id (P (op.Seek id offset whence)) (seek_outcome group id offset whence) (ways.same (op.Seek id offset whence) (answer.Fault Ebadf) (inl refl)) (λ description file there.
      seek_to id offset whence description file there (natural (pos (seek_base whence description file) +ℤ offset)))

  cut_to : (id : ℕ) (size : ℤ) (description : Description) (file : File) → Opened group id description file → (n : Option ℕ) → natural size ≡ n → P (op.Cut id size) (cut_outcome_to group description.file file n)
  cut_to id size description file there None is = ways.same (op.Cut id size) (answer.Fault Einval) (inr (inl refl))
  cut_to id size description file there (Some n) is =
      unless (op.Cut id size) n (with_size group.files description.file file n) (record { group = with_files group (with_size group.files description.file file n); answer = answer.Done }) (inr (inr (inl refl))) (inr (inr (inr refl))) (ways.cut id size n description file there is)

  cut_step : (id : ℕ) (size : ℤ) → P (op.Cut id size) (on_open group (cut_outcome group size) (open_file_at group id))
  cut_step id size = on_opened group id (P (op.Cut id size)) (cut_outcome group size) (ways.same (op.Cut id size) (answer.Fault Ebadf) (inl refl)) (λ description file there.
      chosen (P (op.Cut id size)) (can_write description.mode.access) (cut_outcome_to group description.file file (natural size)) (outcome_of group (answer.Fault Einval)) (λ t. cut_to id size description file there (natural size) refl) (λ t. ways.same (op.Cut id size) (answer.Fault Einval) (inr (inl refl))))

  size_step : (id : ℕ) → P (op.Size id) (on_open group (size_outcome group) (open_file_at group id))
  size_step id = on_opened group id (P (op.Size id)) (size_outcome group) (ways.same (op.Size id) (answer.Fault Ebadf) refl) (λ description file there.
      ways.size (op.Size id) description.file file (λ n low. low) there.of_file)

  -- each step goes one of the ways
  pub step_way : (o : FileOp) → P o (fstep group o)
  step_way (op.Make mode) = ways.made mode
  step_way (op.Attach file mode truncate) = attach_step file mode truncate (file_at group file) refl
  step_way (op.Sizeof file) = sizeof_step file (file_at group file) refl
  step_way (op.Unlinked file) = unlink_step file (is_open group.descriptions file) (file_at group file) refl refl
  step_way (op.Release id) = release_step id (description_at group id) refl
  step_way (op.Read id count) = read_step id count
  step_way (op.Readat id count offset) = readat_step id count offset
  step_way (op.Write id bytes) = write_step id bytes
  step_way (op.Writeat id bytes offset) = writeat_step id bytes offset
  step_way (op.Seek id offset whence) = seek_step id offset whence
  step_way (op.Cut id size) = cut_step id size
  step_way (op.Size id) = size_step id
