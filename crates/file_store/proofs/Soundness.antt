-- Each step leaves a sound group sound.
use Rattle.std.proofs.Common.{◌≡◌, ◌≢◌, ℕ, ◌+◌, ◌%◌, ◌≤◌, ◌==◌, Bool, true, false, List, [], length, min, Option, None, Some, is_some, IsSome, Result, Ok, Err, IfOk, OnErr, nat_cmp, refl, sym, ap, subst, ◌∙◌, inl, inr, arith}
use Rattle.std.specs.List.Sorted.{IsStrictlySortedBy}
use Rattle.std.proofs.lemmas.Bool.{false≢true, cases_eq, eq-eqb}
use Rattle.std.proofs.lemmas.Bool.Decides.{nat_tests}
use Rattle.wf_core.specs.Limits.{file_max, group_max, read_max}
use Rattle.file_store.specs.declared.file.File.{File}
use Rattle.file_store.specs.declared.file.Description.{Description}
use Rattle.file_store.specs.declared.file_operation.Mode.{Mode}
use Rattle.file_store.specs.declared.file_operation.FileOp.{FileOp}
use Rattle.file_store.specs.declared.file_operation.FileAnswer.{FileAnswer}
use Rattle.file_store.specs.FileBytes.{part, with_bytes_at, with_length}
use Rattle.file_store.specs.Tables.{Table, empty_from, row_at, with_next_row, with_row, without_row}
use Rattle.file_store.specs.FileGroups.{Group, FilesOutcome, opening, fstep, file_at, description_at, is_open, total, empty_file, make_outcome, with_description, with_files, with_offset, files_after_truncation, write_offset, with_bytes, with_size}
use Rattle.file_store.specs.Sound.{IsSound, AreIdsOf, number_of}
use Rattle.file_store.proofs.FileBytesLemmas.{length-overwritten, length-resized}
use Rattle.file_store.proofs.SumLemmas.{total_other, total_without, total_added, not_refused}
use Rattle.file_store.proofs.TableChanges.{changed_here, changed_other, removed_here, removed_other, added_here, added_other, fresh_of, some_found, some_changed, some_removed, some_added, changed_ids, removed_ids, added_ids}
use Rattle.file_store.proofs.StepCases.{Ways, step_way}

-- a description of that file
abbrev of_file : ℕ → Description → Bool
of_file id description = description.file == id

same_value : {X : Type 0} (found : Option X) (a b : X) → found ≡ Some a → found ≡ Some b → a ≡ b
same_value found a b ea eb = let e : Some a ≡ Some b = sym ea ∙ eb in cc

not_both : {X : Type 0} (found : Option X) (a : X) (P : Type 0) → found ≡ None → found ≡ Some a → P
not_both found a P none some = absurd (false≢true (ap is_some (sym none ∙ some)))

-- the files that a group may come to have while its descriptions stay
record Fits (group : Group) (files : Table File) : Type 0 where
  kept : (q : ℕ) → IsSome (file_at group q) → IsSome (row_at files q)
  is_used : (q : ℕ) (file : File) → row_at files q ≡ Some file → file.linked ≡ false → is_open group.descriptions q ≡ true
  file_size : (q : ℕ) (file : File) → row_at files q ≡ Some file → length file.bytes ≤ file_max
  group_size : total files ≤ group_max
  ids : AreIdsOf (number_of group) files
  next : files.next ≡ group.files.next

module _ (group : Group) (sound : IsSound group) where
  fits_same : Fits group group.files
  fits_same = record { kept = λ q there. there; is_used = sound.is_used; file_size = sound.file_size; group_size = sound.group_size; ids = sound.file_ids; next = refl }

  fits_changed : (id : ℕ) (old new : File) → file_at group id ≡ Some old → (new.linked ≡ false → is_open group.descriptions id ≡ true) → length new.bytes ≤ file_max → total (with_row group.files id new) ≤ group_max → Fits group (with_row group.files id new)
  fits_changed id old new there used size sum = record {
    kept = λ q some. elim (cases_eq q id) [
      | inl same ↦ ap is_some (ap (λ (n : ℕ). row_at (with_row group.files id new) n) same ∙ changed_here group.files id new old there)
      | inr apart ↦ ap is_some (changed_other group.files id q new apart) ∙ some
    ];
    is_used = λ q file is unlinked. elim (cases_eq q id) [
      | inl same ↦
          let one = same_value (row_at (with_row group.files id new) id) new file (changed_here group.files id new old there) (ap (λ (n : ℕ). row_at (with_row group.files id new) n) (sym same) ∙ is) in
          ap (λ (n : ℕ). is_open group.descriptions n) same ∙ used (ap (λ (f : File). f.linked) one ∙ unlinked)
      | inr apart ↦ sound.is_used q file (sym (changed_other group.files id q new apart) ∙ is) unlinked
    ];
    file_size = λ q file is. elim (cases_eq q id) [
      | inl same ↦
          let one = same_value (row_at (with_row group.files id new) id) new file (changed_here group.files id new old there) (ap (λ (n : ℕ). row_at (with_row group.files id new) n) (sym same) ∙ is) in
          subst (λ (f : File). length f.bytes ≤ file_max) one size
      | inr apart ↦ sound.file_size q file (sym (changed_other group.files id q new apart) ∙ is)
    ];
    group_size = sum;
    ids = changed_ids group.files id (number_of group) new old there sound.file_ids;
    next = refl;
  }

  number_stays : (files : Table File) → files.next ≡ group.files.next → number_of group ≡ files.next % 4
  number_stays files next = ap (λ (n : ℕ). n % 4) (sym next)

  with_files_sound : (files : Table File) → Fits group files → IsSound (with_files group files)
  with_files_sound files fits = record {
    has_file = λ id description is. fits.kept description.file (sound.has_file id description is);
    is_used = fits.is_used;
    file_size = fits.file_size;
    group_size = fits.group_size;
    file_ids = subst (λ (n : ℕ). AreIdsOf n files) (number_stays files fits.next) fits.ids;
    description_ids = subst (λ (n : ℕ). AreIdsOf n group.descriptions) (number_stays files fits.next) sound.description_ids;
  }

  described_sound : (files : Table File) (file : ℕ) (mode : Mode) → Fits group files → IsSome (row_at files file) → IsSound (with_description (with_files group files) file mode)
  described_sound files file mode fits there =
      let new : Description = record { file = file; mode = mode; offset = 0 } in
      record {
        has_file = λ id description is. elim (cases_eq id group.descriptions.next) [
          | inl same ↦
              let one = same_value (row_at (with_next_row group.descriptions new) group.descriptions.next) new description (added_here group.descriptions new) (ap (λ (n : ℕ). row_at (with_next_row group.descriptions new) n) (sym same) ∙ is) in
              subst (λ (d : Description). IsSome (row_at files d.file)) one there
          | inr apart ↦ fits.kept description.file (sound.has_file id description (sym (added_other group.descriptions id new apart) ∙ is))
        ];
        is_used = λ id file is unlinked. some_added (of_file id) group.descriptions new (number_of group) sound.description_ids (fits.is_used id file is unlinked);
        file_size = fits.file_size;
        group_size = fits.group_size;
        file_ids = subst (λ (n : ℕ). AreIdsOf n files) (number_stays files fits.next) fits.ids;
        description_ids = subst (λ (n : ℕ). AreIdsOf n (with_next_row group.descriptions new)) (number_stays files fits.next) (added_ids group.descriptions (number_of group) new sound.description_ids);
      }

  moved_sound : (files : Table File) (id : ℕ) (description : Description) (offset : ℕ) → Fits group files → description_at group id ≡ Some description → IsSound (with_offset (with_files group files) id description offset)
  moved_sound files id description offset fits there =
      let new : Description = record description { offset = offset } in
      record {
        has_file = λ q other is. elim (cases_eq q id) [
          | inl same ↦
              let one = same_value (row_at (with_row group.descriptions id new) id) new other (changed_here group.descriptions id new description there) (ap (λ (n : ℕ). row_at (with_row group.descriptions id new) n) (sym same) ∙ is) in
              subst (λ (d : Description). IsSome (row_at files d.file)) one (fits.kept description.file (sound.has_file id description there))
          | inr apart ↦ fits.kept other.file (sound.has_file q other (sym (changed_other group.descriptions id q new apart) ∙ is))
        ];
        is_used = λ q file is unlinked. some_changed (of_file q) group.descriptions id new description there refl ∙ fits.is_used q file is unlinked;
        file_size = fits.file_size;
        group_size = fits.group_size;
        file_ids = subst (λ (n : ℕ). AreIdsOf n files) (number_stays files fits.next) fits.ids;
        description_ids = subst (λ (n : ℕ). AreIdsOf n (with_row group.descriptions id new)) (number_stays files fits.next) (changed_ids group.descriptions id (number_of group) new description there sound.description_ids);
      }

  made_sound : (mode : Mode) → IsSound (make_outcome group mode).group
  made_sound mode =
      let files = with_next_row group.files empty_file in
      let file = group.files.next in
      let new : Description = record { file = file; mode = mode; offset = 0 } in
      let number : number_of group ≡ (group.files.next + 4) % 4 = omega arith in
      record {
        has_file = λ id description is. elim (cases_eq id group.descriptions.next) [
          | inl same ↦
              let one = same_value (row_at (with_next_row group.descriptions new) group.descriptions.next) new description (added_here group.descriptions new) (ap (λ (n : ℕ). row_at (with_next_row group.descriptions new) n) (sym same) ∙ is) in
              subst (λ (d : Description). IsSome (row_at files d.file)) one (ap is_some (added_here group.files empty_file))
          | inr apart ↦
              let there = sound.has_file id description (sym (added_other group.descriptions id new apart) ∙ is) in
              let below = fresh_of group.files (number_of group) sound.file_ids description.file there in
              ap is_some (added_other group.files description.file empty_file (λ e. omega (arith, below, e))) ∙ there
        ];
        is_used = λ id found is unlinked. elim (cases_eq id file) [
          | inl same ↦
              let one = same_value (row_at files file) empty_file found (added_here group.files empty_file) (ap (λ (n : ℕ). row_at files n) (sym same) ∙ is) in
              absurd (false≢true (sym unlinked ∙ ap (λ (f : File). f.linked) (sym one)))
          | inr apart ↦ some_added (of_file id) group.descriptions new (number_of group) sound.description_ids (sound.is_used id found (sym (added_other group.files id empty_file apart) ∙ is) unlinked)
        ];
        file_size = λ id found is. elim (cases_eq id file) [
          | inl same ↦
              let one = same_value (row_at files file) empty_file found (added_here group.files empty_file) (ap (λ (n : ℕ). row_at files n) (sym same) ∙ is) in
              subst (λ (f : File). length f.bytes ≤ file_max) one (omega arith)
          | inr apart ↦ sound.file_size id found (sym (added_other group.files id empty_file apart) ∙ is)
        ];
        group_size = omega (arith, total_added group.files sound.file_ids.once (fresh_of group.files (number_of group) sound.file_ids), sound.group_size);
        file_ids = subst (λ (n : ℕ). AreIdsOf n files) number (added_ids group.files (number_of group) empty_file sound.file_ids);
        description_ids = subst (λ (n : ℕ). AreIdsOf n (with_next_row group.descriptions new)) number (added_ids group.descriptions (number_of group) new sound.description_ids);
      }

  freed_sound : (id : ℕ) (file : File) → file_at group id ≡ Some file → is_open group.descriptions id ≡ false → IsSound (with_files group (without_row group.files id))
  freed_sound id file there unused = record {
    has_file = λ q description is. elim (cases_eq description.file id) [
      | inl same ↦ absurd (false≢true (sym unused ∙ some_found (of_file id) group.descriptions q description is (eq-eqb description.file id same)))
      | inr apart ↦ ap is_some (removed_other group.files id description.file apart) ∙ sound.has_file q description is
    ];
    is_used = λ q other is unlinked. elim (cases_eq q id) [
      | inl same ↦ not_both (row_at (without_row group.files id) id) other (is_open group.descriptions q ≡ true) (removed_here group.files id (number_of group) sound.file_ids) (ap (λ (n : ℕ). row_at (without_row group.files id) n) (sym same) ∙ is)
      | inr apart ↦ sound.is_used q other (sym (removed_other group.files id q apart) ∙ is) unlinked
    ];
    file_size = λ q other is. elim (cases_eq q id) [
      | inl same ↦ not_both (row_at (without_row group.files id) id) other (length other.bytes ≤ file_max) (removed_here group.files id (number_of group) sound.file_ids) (ap (λ (n : ℕ). row_at (without_row group.files id) n) (sym same) ∙ is)
      | inr apart ↦ sound.file_size q other (sym (removed_other group.files id q apart) ∙ is)
    ];
    group_size = omega (arith, total_without group.files id file there, sound.group_size);
    file_ids = removed_ids group.files id (number_of group) sound.file_ids;
    description_ids = sound.description_ids;
  }

  not_of : (a id : ℕ) → id ≢ a → (a == id) ≡ false
  not_of a id apart = grind (arith, nat_tests)

  module _ (id : ℕ) (description : Description) (there : description_at group id ≡ Some description) where
    abbrev left : Table Description
    left = without_row group.descriptions id

    -- a description that is left was there
    was_there : (P : Type 0) (q : ℕ) (other : Description) → row_at (without_row group.descriptions id) q ≡ Some other → (description_at group q ≡ Some other → P) → P
    was_there P q other is go = elim (cases_eq q id) [
      | inl same ↦ not_both (row_at (without_row group.descriptions id) id) other P (removed_here group.descriptions id (number_of group) sound.description_ids) (ap (λ (n : ℕ). row_at (without_row group.descriptions id) n) (sym same) ∙ is)
      | inr apart ↦ go (sym (removed_other group.descriptions id q apart) ∙ is)
    ]

    released_sound : ((file : File) → file_at group description.file ≡ Some file → file.linked ≡ false → is_open (without_row group.descriptions id) description.file ≡ true) → IsSound (record { files = group.files; descriptions = without_row group.descriptions id })
    released_sound used = record {
      has_file = λ q other is. was_there (IsSome (file_at group other.file)) q other is (sound.has_file q other);
      is_used = λ q file is unlinked. elim (cases_eq q description.file) [
        | inl same ↦ ap (λ (n : ℕ). is_open (without_row group.descriptions id) n) same ∙ used file (ap (λ (n : ℕ). file_at group n) (sym same) ∙ is) unlinked
        | inr apart ↦ some_removed (of_file q) group.descriptions id description there (not_of description.file q apart) ∙ sound.is_used q file is unlinked
      ];
      file_size = sound.file_size;
      group_size = sound.group_size;
      file_ids = sound.file_ids;
      description_ids = removed_ids group.descriptions id (number_of group) sound.description_ids;
    }

    ended_sound : (file : File) → file_at group description.file ≡ Some file → is_open (without_row group.descriptions id) description.file ≡ false → IsSound (record { files = without_row group.files description.file; descriptions = without_row group.descriptions id })
    ended_sound file is unused =
        let gone = description.file in
        record {
          has_file = λ q other found. elim (cases_eq other.file gone) [
            | inl same ↦ absurd (false≢true (sym unused ∙ some_found (of_file gone) (without_row group.descriptions id) q other found (eq-eqb other.file gone same)))
            | inr apart ↦ ap is_some (removed_other group.files gone other.file apart) ∙ was_there (IsSome (file_at group other.file)) q other found (sound.has_file q other)
          ];
          is_used = λ q other found unlinked. elim (cases_eq q gone) [
            | inl same ↦ not_both (row_at (without_row group.files gone) gone) other (is_open (without_row group.descriptions id) q ≡ true) (removed_here group.files gone (number_of group) sound.file_ids) (ap (λ (n : ℕ). row_at (without_row group.files gone) n) (sym same) ∙ found)
            | inr apart ↦ some_removed (of_file q) group.descriptions id description there (not_of gone q apart) ∙ sound.is_used q other (sym (removed_other group.files gone q apart) ∙ found) unlinked
          ];
          file_size = λ q other found. elim (cases_eq q gone) [
            | inl same ↦ not_both (row_at (without_row group.files gone) gone) other (length other.bytes ≤ file_max) (removed_here group.files gone (number_of group) sound.file_ids) (ap (λ (n : ℕ). row_at (without_row group.files gone) n) (sym same) ∙ found)
            | inr apart ↦ sound.file_size q other (sym (removed_other group.files gone q apart) ∙ found)
          ];
          group_size = omega (arith, total_without group.files gone file is, sound.group_size);
          file_ids = removed_ids group.files gone (number_of group) sound.file_ids;
          description_ids = removed_ids group.descriptions id (number_of group) sound.description_ids;
        }

  fits_emptied : (id : ℕ) (file : File) (truncate : Bool) → file_at group id ≡ Some file → Fits group (files_after_truncation group.files id file truncate)
  fits_emptied id file false is = fits_same
  fits_emptied id file true is =
      let new : File = record file { bytes = [] } in
      fits_changed id file new is (sound.is_used id file is) (omega arith) (omega (arith, total_other group.files id file new is, sound.group_size))

  there_emptied : (id : ℕ) (file : File) (truncate : Bool) → file_at group id ≡ Some file → IsSome (row_at (files_after_truncation group.files id file truncate) id)
  there_emptied id file truncate is = (fits_emptied id file truncate is).kept id (ap is_some is)

  fits_written : (id : ℕ) (file : File) (at : ℕ) (bytes : List ℕ) → file_at group id ≡ Some file → (at + length bytes ≤ file_max) × (total (with_bytes group.files id file at bytes) ≤ group_max) → Fits group (with_bytes group.files id file at bytes)
  fits_written id file at bytes is allowed =
      fits_changed id file (record file { bytes = with_bytes_at file.bytes at bytes }) is (sound.is_used id file is) (omega (arith, length-overwritten file.bytes at bytes, allowed.0, sound.file_size id file is)) allowed.1

  fits_cut : (id : ℕ) (file : File) (size : ℕ) → file_at group id ≡ Some file → (size ≤ file_max) × (total (with_size group.files id file size) ≤ group_max) → Fits group (with_size group.files id file size)
  fits_cut id file size is allowed =
      fits_changed id file (record file { bytes = with_length size file.bytes }) is (sound.is_used id file is) (omega (arith, length-resized size file.bytes, allowed.0)) allowed.1

  ways_sound : Ways group (λ o r. IsSound r.group)
  ways_sound = record {
    same = λ o a form. sound;
    size = λ o id file form is. sound;
    made = made_sound;
    attached = λ id mode truncate file is. described_sound (files_after_truncation group.files id file truncate) id mode (fits_emptied id file truncate is) (there_emptied id file truncate is);
    unlinked = λ id file is used. with_files_sound (with_row group.files id (record file { linked = false })) (fits_changed id file (record file { linked = false }) is (λ e. used) (sound.file_size id file is) (omega (arith, total_other group.files id file (record file { linked = false }) is, sound.group_size)));
    freed = freed_sound;
    released = λ id description is used. released_sound id description is used;
    ended = λ id description file o unlinked unused. ended_sound id description o.there file o.of_file unused;
    read = λ id count description file o. moved_sound group.files id description (description.offset + length (part file.bytes description.offset (min count read_max))) fits_same o.there;
    wrote = λ id bytes description file o some allowed.
        let at = write_offset description file in
        moved_sound (with_bytes group.files description.file file at bytes) id description (at + length bytes) (fits_written description.file file at bytes o.of_file (not_refused (at + length bytes) (with_bytes group.files description.file file at bytes) allowed)) o.there;
    wrote_at = λ id bytes offset at description file o e some allowed. with_files_sound (with_bytes group.files description.file file at bytes) (fits_written description.file file at bytes o.of_file (not_refused (at + length bytes) (with_bytes group.files description.file file at bytes) allowed));
    sought = λ id offset whence at description file o low. moved_sound group.files id description at fits_same o.there;
    cut = λ id size n description file o e allowed. with_files_sound (with_size group.files description.file file n) (fits_cut description.file file n o.of_file (not_refused n (with_size group.files description.file file n) allowed));
  }

pub step_sound : (group : Group) (o : FileOp) → IsSound group → IsSound (fstep group o).group
step_sound group o sound = step_way group (λ o r. IsSound r.group) (ways_sound group sound) o

sorted_none : IsStrictlySortedBy nat_cmp []
unfolding IsStrictlySortedBy
sorted_none = tt

no_ids : {X : Type 0} (first : ℕ) → AreIdsOf (first % 4) (empty_from {X = X} first)
no_ids first = record { given = λ id some. absurd (false≢true some); next = refl; once = sorted_none }

pub opening_sound : (number : ℕ) → IsSound (opening number)
opening_sound number = record {
  has_file = λ id description is. absurd (false≢true (ap is_some is));
  is_used = λ id file is unlinked. absurd (false≢true (ap is_some is));
  file_size = λ id file is. absurd (false≢true (ap is_some is));
  group_size = omega arith;
  file_ids = no_ids number;
  description_ids = no_ids number;
}

pub step_keeps_sound : {E : Type 0} (old new : Group) (o : FileOp) (r : Result FileAnswer E) → IsSound old → IfOk r (λ answer. fstep old o ≡ record { group = new; answer = answer }) → OnErr r (new ≡ old) → IsSound new
step_keeps_sound old new o (Ok a) sound e same = subst (λ (r : FilesOutcome). IsSound r.group) e (step_sound old o sound)
step_keeps_sound old new o (Err e) sound step same = subst IsSound (sym same) sound
