-- Lemmas for the laws of the bytes that are written, read and cut.
use Rattle.std.proofs.Common.{◌≡◌, ℕ, ◌+◌, ◌-◌, ◌<◌, ◌≤◌, ◌==◌, min, Bool, true, false, cond, List, [], ◌++◌, length, take, drop, get_or, Option, None, Some, is_some, ℤ, pos, refl, sym, ap, subst, ◌∙◌, arith}
use Rattle.std.proofs.Math.Seq.{drop-append_seam, take-append_seam}
use Rattle.std.proofs.lemmas.Bool.{false≢true}
use Rattle.std.proofs.lemmas.Bool.Decides.{Decides-eqb}
use Rattle.std.proofs.lemmas.Grind.{same_number_lists}
use Rattle.std.proofs.lemmas.List.{get_or_past}
use Rattle.std.proofs.lemmas.Option.{same_Some}
use Rattle.wf_core.specs.declared.errno.Errno.{Errno}
use Rattle.wf_core.specs.declared.errno.Errno.TheVariants.{Ebadf, Einval}
use Rattle.wf_core.specs.Limits.{read_max}
use Rattle.file_store.specs.declared.file.File.{File}
use Rattle.file_store.specs.declared.file.Description.{Description}
use Rattle.file_store.specs.declared.file_operation.Mode.{Mode}
use Rattle.file_store.specs.declared.file_operation.FileOp.TheVariants as op
use Rattle.file_store.specs.declared.file_operation.FileAnswer.{FileAnswer}
use Rattle.file_store.specs.declared.file_operation.FileAnswer.TheVariants as answer
use Rattle.file_store.specs.FileBytes.{part, with_bytes_at, with_length}
use Rattle.file_store.specs.Tables.{Table, row_at, with_row}
use Rattle.file_store.specs.FileGroups.{Group, FilesOutcome, outcome_of, fstep, file_at, description_at, on_open, open_file_at, open_file_of, open_file_with, attach_outcome, with_files, with_offset, with_description, with_bytes, with_size, put_refusal, cut_refusal, unless_refused, write_offset, write_outcome, write_outcome_on, writeat_outcome, writeat_outcome_from, readat_outcome, readat_answer_from, cut_outcome, cut_outcome_to, can_read, can_write, natural}
use Rattle.file_store.specs.WriteLaws.{ChangesOne, WritesBytes, Resizes, IsWritten, WritesAreRead, CutsKeepTheRest}
use Rattle.file_store.proofs.FileBytesLemmas.{length-resized, resized_at, length-overwritten, overwritten_at, length-part, part_at}
use Rattle.file_store.proofs.WriteLemmas.{overlaid_before, overlaid_after}
use Rattle.file_store.proofs.TableChanges.{changed_here, changed_other}
use Rattle.file_store.proofs.StepCases.{Opened, chosen}

-- what was found with its file is there
opened_of : (group : Group) (id : ℕ) (description : Description) (file : File) → open_file_at group id ≡ Some (description, file) → Opened group id description file
opened_of group id description file is = by_description (description_at group id) refl is where
  by_file : (d : Description) (found : Option File) → description_at group id ≡ Some d → file_at group d.file ≡ found → open_file_with found d ≡ Some (description, file) → Opened group id description file
  by_file d None there e found = absurd (false≢true (ap is_some found))
  by_file d (Some f) there e found =
      let pair : ◌≡◌ {A = Description × File} (d, f) (description, file) = same_Some {A = Description × File} (d, f) (description, file) found in
      let first : d ≡ description = ap (λ (p : Description × File). p.0) pair in
      record {
        there = there ∙ ap (λ (x : Description). Some x) first;
        of_file = ap (λ (x : Description). file_at group x.file) (sym first) ∙ e ∙ ap (λ (p : Description × File). Some p.1) pair;
      }

  by_description : (found : Option Description) → description_at group id ≡ found → open_file_of group found ≡ Some (description, file) → Opened group id description file
  by_description None e found = absurd (false≢true (ap is_some found))
  by_description (Some d) e found = by_file d (file_at group d.file) e refl found

-- what holds of the group after what was done, holds after an answer that no fault is
unless : {X : Type 0} (read : FileAnswer → Option X) (G : Group → Type 0) (group : Group) (error : Option Errno) (done : FilesOutcome) → ((e : Errno) → read (answer.Fault e) ≡ None) → G done.group → is_some (read (unless_refused group error done).answer) ≡ true → G (unless_refused group error done).group
unless read G group None done faults g some = g
unless read G group (Some e) done faults g some = absurd (false≢true (sym (ap is_some (faults e)) ∙ some))

abbrev counted : FileAnswer → Option ℕ
counted (answer.Count n) = Some n
counted _ = None

abbrev ended : FileAnswer → Option Bool
ended answer.Done = Some true
ended _ = None

abbrev described : FileAnswer → Option ℕ
described (answer.Desc id) = Some id
described _ = None

one_changed : (group after : Group) (id : ℕ) (old new : File) → file_at group id ≡ Some old → new.linked ≡ old.linked → after.files ≡ with_row group.files id new → ChangesOne group after id old new
one_changed group after id old new there linked e = record {
  was = there;
  is = ap (λ (t : Table File). row_at t id) e ∙ changed_here group.files id new old there;
  linked = linked;
  others = λ other apart. ap (λ (t : Table File). row_at t other) e ∙ changed_other group.files id other new apart;
}

abbrev written_file : File → ℕ → List ℕ → File
written_file old at bytes = record old { bytes = with_bytes_at old.bytes at bytes }

written_part : (old : List ℕ) (at : ℕ) (bytes : List ℕ) → part (with_bytes_at old at bytes) at (length bytes) ≡ bytes
written_part old at bytes =
    let front = length-resized at old in
    let rest = bytes ++ drop (at + length bytes) old in
    ap (λ (n : ℕ). take (length bytes) (drop n (with_length at old ++ rest))) (sym front)
    ∙ ap (λ (xs : List ℕ). take (length bytes) xs) (drop-append_seam (with_length at old) rest)
    ∙ take-append_seam bytes (drop (at + length bytes) old)

wrote : (group after : Group) (id : ℕ) (old : File) (at : ℕ) (bytes : List ℕ) → file_at group id ≡ Some old → after.files ≡ with_bytes group.files id old at bytes → WritesBytes group after id old (written_file old at bytes) at bytes
wrote group after id old at bytes there e =
    let byte : ℕ → ℕ = λ i. get_or old.bytes i 0 in
    record {
      one = one_changed group after id old (written_file old at bytes) there refl e;
      size = length-overwritten old.bytes at bytes;
      written = written_part old.bytes at bytes;
      below = λ i low inside. overwritten_at old.bytes at bytes i ∙ overlaid_before byte at bytes i low;
      gap = λ i past low. overwritten_at old.bytes at bytes i ∙ overlaid_before byte at bytes i low ∙ get_or_past old.bytes i 0 past;
      above = λ i high inside. overwritten_at old.bytes at bytes i ∙ overlaid_after byte at bytes i high;
    }

resized : (group after : Group) (id : ℕ) (old : File) (size : ℕ) → file_at group id ≡ Some old → after.files ≡ with_size group.files id old size → Resizes group after id old (record old { bytes = with_length size old.bytes }) size
resized group after id old size there e = record {
  one = one_changed group after id old (record old { bytes = with_length size old.bytes }) there refl e;
  size = length-resized size old.bytes;
  kept = λ i low inside. resized_at size old.bytes i low;
  growth = λ i past low. resized_at size old.bytes i low ∙ get_or_past old.bytes i 0 past;
}

not_empty : (bytes : List ℕ) → 0 < length bytes → (length bytes == 0) ≡ true → ⊥
not_empty bytes some e = let zero : length bytes ≡ 0 = (Decides-eqb (length bytes) 0).0 e in omega (arith, some, zero)

write_done : (group : Group) (id : ℕ) (bytes : List ℕ) (count at : ℕ) (description : Description) (old : File) → open_file_at group id ≡ Some (description, old) → write_offset description old ≡ at → 0 < length bytes → (fstep group (op.Write id bytes)).answer ≡ answer.Count count → IsWritten group (fstep group (op.Write id bytes)).group id description old at bytes
write_done group id bytes count at description old is e some =
    subst (λ (o : Option (Description × File)). P (on_open group (write_outcome group id bytes) o)) (sym is) by_access
  where
    P : FilesOutcome → Type 0
    P o = o.answer ≡ answer.Count count → IsWritten group o.group id description old at bytes

    there : Opened group id description old
    there = opened_of group id description old is

    after : ℕ → Group
    after n = with_offset (with_files group (with_bytes group.files description.file old n bytes)) id description (n + length bytes)

    goal : (n : ℕ) → n ≡ at → IsWritten group (after n) id description old at bytes
    goal n same = subst (λ (k : ℕ). IsWritten group (after n) id description old k bytes) same (written_file old n bytes, wrote group (after n) description.file old n bytes there.of_file refl, changed_here group.descriptions id (record description { offset = n + length bytes }) description there.there)

    by_refusal : (n : ℕ) → n ≡ at → P (write_outcome_on group id description old n bytes)
    by_refusal n same answered =
        unless counted (λ g. IsWritten group g id description old at bytes) group (put_refusal group.files description.file old n bytes) (record { group = after n; answer = answer.Count (length bytes) }) (λ fault. refl) (goal n same) (ap (λ (a : FileAnswer). is_some (counted a)) answered)

    by_length : P (cond (length bytes == 0) (outcome_of group (answer.Count 0)) (write_outcome_on group id description old (write_offset description old) bytes))
    by_length = chosen P (length bytes == 0) (outcome_of group (answer.Count 0)) (write_outcome_on group id description old (write_offset description old) bytes) (λ t. absurd (not_empty bytes some t)) (λ t. by_refusal (write_offset description old) e)

    by_access : P (write_outcome group id bytes description old)
    by_access = chosen P (can_write description.mode.access) (cond (length bytes == 0) (outcome_of group (answer.Count 0)) (write_outcome_on group id description old (write_offset description old) bytes)) (outcome_of group (answer.Fault Ebadf)) (λ t. by_length) (λ t answered. absurd (false≢true (ap (λ (a : FileAnswer). is_some (counted a)) answered)))

write_at_done : (group : Group) (id : ℕ) (bytes : List ℕ) (offset : ℤ) (at count : ℕ) (description : Description) (old : File) → open_file_at group id ≡ Some (description, old) → natural offset ≡ Some at → 0 < length bytes → (fstep group (op.Writeat id bytes offset)).answer ≡ answer.Count count → (new : File) × WritesBytes group (fstep group (op.Writeat id bytes offset)).group description.file old new at bytes × ((fstep group (op.Writeat id bytes offset)).group.descriptions ≡ group.descriptions)
write_at_done group id bytes offset at count description old is e some =
    subst (λ (o : Option (Description × File)). P (on_open group (writeat_outcome group bytes offset) o)) (sym is) by_access
  where
    G : Group → Type 0
    G after = (new : File) × WritesBytes group after description.file old new at bytes × (after.descriptions ≡ group.descriptions)

    P : FilesOutcome → Type 0
    P o = o.answer ≡ answer.Count count → (new : File) × WritesBytes group o.group description.file old new at bytes × (o.group.descriptions ≡ group.descriptions)

    there : Opened group id description old
    there = opened_of group id description old is

    done : FilesOutcome
    done = record { group = with_files group (with_bytes group.files description.file old at bytes); answer = answer.Count (length bytes) }

    by_refusal : P (unless_refused group (put_refusal group.files description.file old at bytes) done)
    by_refusal answered =
        unless counted G group (put_refusal group.files description.file old at bytes) done (λ fault. refl) (written_file old at bytes, wrote group done.group description.file old at bytes there.of_file refl, refl) (ap (λ (a : FileAnswer). is_some (counted a)) answered)

    by_offset : P (writeat_outcome_from group description.file old bytes (natural offset))
    by_offset = subst (λ (n : Option ℕ). P (writeat_outcome_from group description.file old bytes n)) (sym e) (chosen P (length bytes == 0) (outcome_of group (answer.Count 0)) (unless_refused group (put_refusal group.files description.file old at bytes) done) (λ t. absurd (not_empty bytes some t)) (λ t. by_refusal))

    by_access : P (writeat_outcome group bytes offset description old)
    by_access = chosen P (can_write description.mode.access) (writeat_outcome_from group description.file old bytes (natural offset)) (outcome_of group (answer.Fault Ebadf)) (λ t. by_offset) (λ t answered. absurd (false≢true (ap (λ (a : FileAnswer). is_some (counted a)) answered)))

-- a part of what was written, in the file that has it
part_written : (new : List ℕ) (at : ℕ) (bytes : List ℕ) (skip count : ℕ) → at + length bytes ≤ length new → part new at (length bytes) ≡ bytes → skip + count ≤ length bytes → part new (at + skip) count ≡ part bytes skip count
part_written new at bytes skip count fits written low =
    same_number_lists (part new (at + skip) count) (part bytes skip count) (omega (arith, length-part new (at + skip) count, length-part bytes skip count)) (λ k inside.
    let under : k < count = omega (arith, length-part new (at + skip) count) in
    let place : at + skip + k ≡ at + (skip + k) = omega arith in
    part_at new (at + skip) count k under ∙ ap (λ (n : ℕ). get_or new n 0) place
    ∙ sym (part_at new at (length bytes) (skip + k) (omega arith)) ∙ ap (λ (xs : List ℕ). get_or xs (skip + k) 0) written ∙ sym (part_at bytes skip count k under))

found_with_file : (group : Group) (id : ℕ) (description : Description) (file : File) → description_at group id ≡ Some description → file_at group description.file ≡ Some file → open_file_at group id ≡ Some (description, file)
found_with_file group id description file there is =
    ap (λ (found : Option Description). open_file_of group found) there ∙ ap (λ (found : Option File). open_file_with found description) is

read_done : (before after : Group) (file : ℕ) (old new : File) (at : ℕ) (bytes : List ℕ) → WritesBytes before after file old new at bytes → (reader skip count : ℕ) (description : Description) → description_at after reader ≡ Some description → description.file ≡ file → can_read description.mode.access ≡ true → skip + min count read_max ≤ length bytes → (fstep after (op.Readat reader count (pos (at + skip)))).answer ≡ answer.Bytes (part bytes skip (min count read_max))
read_done before after file old new at bytes w reader skip count description there same can low =
    let is : file_at after description.file ≡ Some new = ap (λ (n : ℕ). file_at after n) same ∙ w.one.is in
    ap (λ (o : Option (Description × File)). (on_open after (readat_outcome after count (pos (at + skip))) o).answer) (found_with_file after reader description new there is)
    ∙ ap (λ (b : Bool). cond b (readat_answer_from new count (Some (at + skip))) (answer.Fault Ebadf)) can
    ∙ ap (λ (xs : List ℕ). answer.Bytes xs) (part_written new.bytes at bytes skip (min count read_max) (omega (arith, w.size)) w.written low)

pub writes_are_read : WritesAreRead
writes_are_read = record {
  append = λ group id bytes count description old is mode. write_done group id bytes count (length old.bytes) description old is (ap (λ (b : Bool). cond b (length old.bytes) description.offset) mode);
  write = λ group id bytes count description old is mode. write_done group id bytes count description.offset description old is (ap (λ (b : Bool). cond b (length old.bytes) description.offset) mode);
  write_at = write_at_done;
  read_at = read_done;
}

cut_done : (group : Group) (id : ℕ) (size : ℤ) (n : ℕ) (description : Description) (old : File) → open_file_at group id ≡ Some (description, old) → natural size ≡ Some n → (fstep group (op.Cut id size)).answer ≡ answer.Done → (new : File) × Resizes group (fstep group (op.Cut id size)).group description.file old new n × ((fstep group (op.Cut id size)).group.descriptions ≡ group.descriptions)
cut_done group id size n description old is e =
    subst (λ (o : Option (Description × File)). P (on_open group (cut_outcome group size) o)) (sym is) by_access
  where
    G : Group → Type 0
    G after = (new : File) × Resizes group after description.file old new n × (after.descriptions ≡ group.descriptions)

    P : FilesOutcome → Type 0
    P o = o.answer ≡ answer.Done → (new : File) × Resizes group o.group description.file old new n × (o.group.descriptions ≡ group.descriptions)

    there : Opened group id description old
    there = opened_of group id description old is

    done : FilesOutcome
    done = record { group = with_files group (with_size group.files description.file old n); answer = answer.Done }

    by_refusal : P (unless_refused group (cut_refusal group.files description.file old n) done)
    by_refusal answered =
        unless ended G group (cut_refusal group.files description.file old n) done (λ fault. refl) (record old { bytes = with_length n old.bytes }, resized group done.group description.file old n there.of_file refl, refl) (ap (λ (a : FileAnswer). is_some (ended a)) answered)

    by_size : P (cut_outcome_to group description.file old (natural size))
    by_size = subst (λ (m : Option ℕ). P (cut_outcome_to group description.file old m)) (sym e) by_refusal

    by_access : P (cut_outcome group size description old)
    by_access = chosen P (can_write description.mode.access) (cut_outcome_to group description.file old (natural size)) (outcome_of group (answer.Fault Einval)) (λ t. by_size) (λ t answered. absurd (false≢true (ap (λ (a : FileAnswer). is_some (ended a)) answered)))

nothing_left : (bytes : List ℕ) → with_length 0 bytes ≡ []
nothing_left bytes = let none : 0 - length bytes ≡ 0 = omega arith in same_number_lists (with_length 0 bytes) [] (length-resized 0 bytes) (λ k low. absurd (omega (arith, low, length-resized 0 bytes)))

truncated : (group : Group) (file : ℕ) (mode : Mode) (description : ℕ) (old : File) → file_at group file ≡ Some old → (fstep group (op.Attach file mode true)).answer ≡ answer.Desc description → (new : File) × Resizes group (fstep group (op.Attach file mode true)).group file old new 0
truncated group file mode description old is =
    subst (λ (found : Option File). P (attach_outcome group file mode true found)) (sym is) (chosen P old.linked done (outcome_of group answer.Gone) (λ t answered. (record old { bytes = with_length 0 old.bytes }, resized group done.group file old 0 is (ap (λ (bytes : List ℕ). with_row group.files file (record old { bytes = bytes })) (sym (nothing_left old.bytes))))) (λ t answered. absurd (false≢true (ap (λ (a : FileAnswer). is_some (described a)) answered))))
  where
    P : FilesOutcome → Type 0
    P o = o.answer ≡ answer.Desc description → (new : File) × Resizes group o.group file old new 0

    done : FilesOutcome
    done = record { group = with_description (with_files group (with_row group.files file (record old { bytes = [] }))) file mode; answer = answer.Desc group.descriptions.next }

not_truncated : (group : Group) (file : ℕ) (mode : Mode) (found : Option File) → (attach_outcome group file mode false found).group.files ≡ group.files
not_truncated group file mode None = refl
not_truncated group file mode (Some old) = chosen (λ (o : FilesOutcome). o.group.files ≡ group.files) old.linked (record { group = with_description group file mode; answer = answer.Desc group.descriptions.next }) (outcome_of group answer.Gone) (λ t. refl) (λ t. refl)

pub cuts_keep_the_rest : CutsKeepTheRest
cuts_keep_the_rest = record {
  cut = cut_done;
  truncation = truncated;
  no_truncation = λ group file mode. not_truncated group file mode (file_at group file);
}
