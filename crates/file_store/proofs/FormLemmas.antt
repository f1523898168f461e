-- The forms of the answers of operations on a group.
use Rattle.std.proofs.Common.{◌≡◌, length, Result, Ok, Err, IfOk, refl, subst}
use Rattle.file_store.specs.declared.file_operation.FileOp.{FileOp}
use Rattle.file_store.specs.declared.file_operation.FileAnswer.{FileAnswer}
use Rattle.file_store.specs.FileGroups.{Group, FilesOutcome, fstep}
use Rattle.file_store.specs.FileForms.{IsForm}
use Rattle.file_store.specs.Sound.{IsSound}
use Rattle.file_store.proofs.StepCases.{Ways, of_read, step_way}

ways_form : (group : Group) → IsSound group → Ways group (λ o r. IsForm o r.answer)
ways_form group sound = record {
  same = λ o a form. form;
  size = λ o id file form is. form (length file.bytes) (sound.file_size id file is);
  made = λ mode. tt;
  attached = λ id mode truncate file is. tt;
  unlinked = λ id file is used. tt;
  freed = λ id file is unused. tt;
  released = λ id description is used. tt;
  ended = λ id description file o unlinked unused. tt;
  read = λ id count description file o. of_read file.bytes description.offset count;
  wrote = λ id bytes description file o some allowed. refl;
  wrote_at = λ id bytes offset at description file o e some allowed. refl;
  sought = λ id offset whence at description file o low. low;
  cut = λ id size n description file o e allowed. tt;
}

-- the answer of an operation has one of its forms
pub form_of_ok : {E : Type 0} (old new : Group) (o : FileOp) (r : Result FileAnswer E) → IsSound old → IfOk r (λ answer. fstep old o ≡ record { group = new; answer = answer }) → IfOk r (IsForm o)
form_of_ok old new o (Ok a) sound e = subst (λ (p : FilesOutcome). IsForm o p.answer) e (step_way old (λ o r. IsForm o r.answer) (ways_form old sound) o)
form_of_ok old new o (Err e) sound step = tt
