-- Lemmas for the laws of the steps on a group.
use Rattle.std.proofs.Common.{◌≡◌, ◌≢◌, ℕ, ◌+◌, ◌%◌, ◌≤◌, Bool, true, false, length, Option, None, Some, IsSome, Result, Ok, Err, IfOk, refl, sym, ap, subst, ◌∙◌, arith}
use Rattle.std.proofs.lemmas.Bool.{false≢true}
use Rattle.std.proofs.lemmas.Bool.Decides.{Decides-eqb}
use Rattle.file_store.specs.declared.file.File.{File}
use Rattle.file_store.specs.declared.file.Description.{Description}
use Rattle.file_store.specs.declared.file_operation.Mode.{Mode}
use Rattle.file_store.specs.declared.file_operation.FileOp.{FileOp}
use Rattle.file_store.specs.declared.file_operation.FileOp.TheVariants as op
use Rattle.file_store.specs.declared.file_operation.FileAnswer.{FileAnswer}
use Rattle.file_store.specs.declared.file_operation.FileAnswer.TheVariants as answer
use Rattle.file_store.specs.Tables.{Table, with_next_row}
use Rattle.file_store.specs.FileGroups.{Group, FilesOutcome, outcome_of, fstep, file_at, description_at, open_file_of, open_file_with, attach_outcome, with_description, with_files, files_after_truncation}
use Rattle.file_store.specs.Sound.{IsSound, AreIdsOf, number_of}
use Rattle.file_store.specs.Laws.{DescriptionsHaveFiles, IdsAreNew, IsNew, IsOn, LeavesGroup, OffsetsAreApart, RefusalsChangeNothing}
use Rattle.file_store.proofs.TableChanges.{changed_other, removed_other, added_other, next_is_none, fresh_of}
use Rattle.file_store.proofs.StepCases.{Ways, chosen, step_way}

-- an error, a size and a write of nothing leave the group
ways_refused : (group : Group) → Ways group (λ o r. LeavesGroup r.answer → r.group ≡ group)
ways_refused group = record {
  same = λ o a form leaves. refl;
  size = λ o id file form is leaves. refl;
  made = λ mode leaves. absurd leaves;
  attached = λ id mode truncate file is leaves. absurd leaves;
  unlinked = λ id file is used leaves. absurd leaves;
  freed = λ id file is unused leaves. absurd leaves;
  released = λ id description is used leaves. absurd leaves;
  ended = λ id description file o unlinked unused leaves. absurd leaves;
  read = λ id count description file o leaves. absurd leaves;
  wrote = λ id bytes description file o some allowed leaves. absurd (false≢true (sym some ∙ (Decides-eqb (length bytes) 0).1 leaves));
  wrote_at = λ id bytes offset at description file o e some allowed leaves. absurd (false≢true (sym some ∙ (Decides-eqb (length bytes) 0).1 leaves));
  sought = λ id offset whence at description file o low leaves. absurd leaves;
  cut = λ id size n description file o e allowed leaves. absurd leaves;
}

pub refusals_change_nothing : RefusalsChangeNothing
refusals_change_nothing group o = step_way group (λ o r. LeavesGroup r.answer → r.group ≡ group) (ways_refused group) o

pub unchanged_of_ok : {E : Type 0} (old new : Group) (o : FileOp) (r : Result FileAnswer E) → IfOk r (λ answer. fstep old o ≡ record { group = new; answer = answer }) → IfOk r (λ answer. LeavesGroup answer → new ≡ old)
unchanged_of_ok old new o (Ok a) e = λ leaves.
    sym (ap (λ (p : FilesOutcome). p.group) e) ∙ refusals_change_nothing old o (subst (λ (p : FilesOutcome). LeavesGroup p.answer) (sym e) leaves)
unchanged_of_ok old new o (Err e) step = tt

-- a description on which the step is not, and that is not the new one, stays
abbrev Apart : Group → ℕ → FileOp → FilesOutcome → Type 0
Apart group other o r = (IsOn other o → ⊥) → other ≢ group.descriptions.next → description_at r.group other ≡ description_at group other

ways_apart : (group : Group) (other : ℕ) → Ways group (Apart group other)
ways_apart group other = record {
  same = λ o a form off apart. refl;
  size = λ o id file form is off apart. refl;
  made = λ mode off apart. added_other group.descriptions other _ apart;
  attached = λ id mode truncate file is off apart. added_other group.descriptions other _ apart;
  unlinked = λ id file is used off apart. refl;
  freed = λ id file is unused off apart. refl;
  released = λ id description is used off apart. removed_other group.descriptions id other (λ e. off (sym e));
  ended = λ id description file o unlinked unused off apart. removed_other group.descriptions id other (λ e. off (sym e));
  read = λ id count description file o off apart. changed_other group.descriptions id other _ (λ e. off (sym e));
  wrote = λ id bytes description file o some allowed off apart. changed_other group.descriptions id other _ (λ e. off (sym e));
  wrote_at = λ id bytes offset at description file o e some allowed off apart. refl;
  sought = λ id offset whence at description file o low off apart. changed_other group.descriptions id other _ (λ e. off (sym e));
  cut = λ id size n description file o e allowed off apart. refl;
}

-- a step on one description is on no other, and adds none
abbrev OnApart : Group → ℕ → ℕ → FileOp → FilesOutcome → Type 0
OnApart group id other o r = IsOn id o → other ≢ id → description_at r.group other ≡ description_at group other

ways_on : (group : Group) (id other : ℕ) → Ways group (OnApart group id other)
ways_on group id other = record {
  same = λ o a form on apart. refl;
  size = λ o n file form is on apart. refl;
  made = λ mode on apart. absurd on;
  attached = λ n mode truncate file is on apart. absurd on;
  unlinked = λ n file is used on apart. refl;
  freed = λ n file is unused on apart. refl;
  released = λ n description is used on apart. removed_other group.descriptions n other (λ e. apart (e ∙ on));
  ended = λ n description file o unlinked unused on apart. removed_other group.descriptions n other (λ e. apart (e ∙ on));
  read = λ n count description file o on apart. changed_other group.descriptions n other _ (λ e. apart (e ∙ on));
  wrote = λ n bytes description file o some allowed on apart. changed_other group.descriptions n other _ (λ e. apart (e ∙ on));
  wrote_at = λ n bytes offset at description file o e some allowed on apart. refl;
  sought = λ n offset whence at description file o low on apart. changed_other group.descriptions n other _ (λ e. apart (e ∙ on));
  cut = λ n size m description file o e allowed on apart. refl;
}

pub offsets_are_apart : OffsetsAreApart
offsets_are_apart = record {
  on = λ group id other o. step_way group (OnApart group id other) (ways_on group id other) o;
  on_none = λ group id o sound there off.
      let below = fresh_of group.descriptions (number_of group) sound.description_ids id there in
      step_way group (Apart group id) (ways_apart group id) o off (λ e. omega (arith, below, e));
}

-- the next ids
abbrev Rise : Group → FilesOutcome → Type 0
Rise group r = (group.files.next ≤ r.group.files.next) × (group.descriptions.next ≤ r.group.descriptions.next) × (number_of r.group ≡ number_of group)

ways_rise : (group : Group) → Ways group (λ o r. Rise group r)
ways_rise group =
    let same : Rise group (outcome_of group answer.Done) = (omega arith, omega arith, refl) in
    record {
      same = λ o a form. same;
      size = λ o id file form is. same;
      made = λ mode. (omega arith, omega arith, omega arith);
      attached = λ id mode truncate file is. attached truncate id file;
      unlinked = λ id file is used. same;
      freed = λ id file is unused. same;
      released = λ id description is used. same;
      ended = λ id description file o unlinked unused. same;
      read = λ id count description file o. same;
      wrote = λ id bytes description file o some allowed. same;
      wrote_at = λ id bytes offset at description file o e some allowed. same;
      sought = λ id offset whence at description file o low. same;
      cut = λ id size n description file o e allowed. same;
    }
  where
    attached : (truncate : Bool) (id : ℕ) (file : File) → (group.files.next ≤ (files_after_truncation group.files id file truncate).next) × (group.descriptions.next ≤ group.descriptions.next + 4) × ((files_after_truncation group.files id file truncate).next % 4 ≡ group.files.next % 4)
    attached true id file = (omega arith, omega arith, refl)
    attached false id file = (omega arith, omega arith, refl)

rises : (group : Group) (o : FileOp) → Rise group (fstep group o)
rises group o = step_way group (λ o r. Rise group r) (ways_rise group) o

next_new : {X : Type 0} (table : Table X) (x : X) (number : ℕ) → AreIdsOf number table → IsNew number table (with_next_row table x) table.next
next_new table x number ids = record {
  absent = next_is_none table number ids;
  above = fresh_of table number ids;
  of_group = ids.next;
  not_before = omega arith;
  not_after = omega arith;
}

abbrev file_of : FileAnswer → ℕ
file_of (answer.File file id) = file
file_of _ = 0

abbrev id_of : FileAnswer → ℕ
id_of (answer.File file id) = id
id_of (answer.Desc id) = id
id_of _ = 0

abbrev is_desc : FileAnswer → Bool
is_desc (answer.Desc id) = true
is_desc _ = false

make_new : (group : Group) (mode : Mode) (file description : ℕ) → IsSound group → (fstep group (op.Make mode)).answer ≡ answer.File file description → IsNew (number_of group) group.files (fstep group (op.Make mode)).group.files file × IsNew (number_of group) group.descriptions (fstep group (op.Make mode)).group.descriptions description
make_new group mode file description sound e =
    let after = (fstep group (op.Make mode)).group in (
      subst (λ (n : ℕ). IsNew (number_of group) group.files after.files n) (ap file_of e) (next_new group.files _ (number_of group) sound.file_ids),
      subst (λ (n : ℕ). IsNew (number_of group) group.descriptions after.descriptions n) (ap id_of e) (next_new group.descriptions _ (number_of group) sound.description_ids),
    )

attach_new : (group : Group) (id : ℕ) (mode : Mode) (truncate : Bool) (description : ℕ) (found : Option File) → IsSound group → (attach_outcome group id mode truncate found).answer ≡ answer.Desc description → IsNew (number_of group) group.descriptions (attach_outcome group id mode truncate found).group.descriptions description
attach_new group id mode truncate description None sound = λ e. absurd (false≢true (ap is_desc e))
attach_new group id mode truncate description (Some file) sound =
    chosen (λ (r : FilesOutcome). r.answer ≡ answer.Desc description → IsNew (number_of group) group.descriptions r.group.descriptions description) file.linked (record { group = with_description (with_files group (files_after_truncation group.files id file truncate)) id mode; answer = answer.Desc group.descriptions.next }) (outcome_of group answer.Gone)
    (λ t e. subst (λ (n : ℕ). IsNew (number_of group) group.descriptions (with_next_row group.descriptions (record { file = id; mode = mode; offset = 0 })) n) (ap id_of e) (next_new group.descriptions (record { file = id; mode = mode; offset = 0 }) (number_of group) sound.description_ids))
    (λ t e. absurd (false≢true (ap is_desc e)))

pub ids_are_new : IdsAreNew
ids_are_new = record {
  make = make_new;
  attach = λ group file mode truncate description sound. attach_new group file mode truncate description (file_at group file) sound;
  rise = λ group o. let r = rises group o in (r.0, r.1);
  number = λ group o. (rises group o).2;
}

-- in a sound group each description is found with its file
found_with : (description : Description) (found : Option File) → IsSome found → IsSome (open_file_with found description)
found_with description None there = absurd (false≢true there)
found_with description (Some file) there = refl

found_of : (group : Group) (found : Option Description) → ((description : Description) → found ≡ Some description → IsSome (file_at group description.file)) → IsSome found → IsSome (open_file_of group found)
found_of group None files there = absurd (false≢true there)
found_of group (Some description) files there = found_with description (file_at group description.file) (files description refl)

back_of : (group : Group) (found : Option Description) → IsSome (open_file_of group found) → IsSome found
back_of group None there = there
back_of group (Some description) there = refl

pub descriptions_have_files : DescriptionsHaveFiles
descriptions_have_files group id sound = (back_of group (description_at group id), found_of group (description_at group id) (sound.has_file id))
