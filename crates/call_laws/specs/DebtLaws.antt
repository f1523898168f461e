-- What a call owes between its steps: numbers that nobody can use but itself, descriptions that no number names, and files
-- that have lost their entry, or have none yet, of which their group does not know. POSIX.1-2017, XSH open(), close(),
-- dup2(), unlink() and rename(); that each is done in several steps is this project's own.
use Rattle.std.specs.Prelude.{◌≡◌, ℕ, ◌≤◌, ◌==◌, ◌&&◌, not, Bool, true, false, List, [], ◌∷◌, filter, length, Option, None, Some, Result, Ok, Err, if◌then◌else◌}
use Rattle.std.specs.declared.alloc.AllocError.{AllocError}
use Rattle.wf_core.specs.declared.errno.Errno.{Errno}
use Rattle.name_store.specs.declared.operation.NameOp.{NameOp}
use Rattle.name_store.specs.declared.operation.NameOp.TheVariants.{Addfile, Remfile, Move}
use Rattle.name_store.specs.declared.operation.NameAnswer.TheVariants.{Done as EntryDone}
use Rattle.name_store.specs.Forms.{IsForm}
use Rattle.file_store.specs.declared.file_operation.FileOp.{FileOp}
use Rattle.file_store.specs.declared.file_operation.FileOp.TheVariants.{Attach, Make, Release, Unlinked}
use Rattle.file_store.specs.FileForms.{IsForm as IsFileForm}
use Rattle.file_store.specs.declared.descriptor_operation.FdOp.{FdOp}
use Rattle.file_store.specs.declared.descriptor_operation.FdOp.TheVariants as fd
use Rattle.file_store.specs.declared.descriptor_operation.FdAnswer.TheVariants as fd_answer
use Rattle.file_store.specs.DescriptorMap.{IsForm as IsFdForm}
use Rattle.path_walk.specs.declared.step.CellId.{CellId}
use Rattle.path_walk.specs.declared.step.CellId.TheVariants.{Names as NamesCell, Files as FilesCell, Descriptors as DescriptorsCell}
use Rattle.path_walk.specs.declared.step.StoreOp.{StoreOp}
use Rattle.path_walk.specs.declared.step.StoreOp.TheVariants.{Names as NamesOp, Files as FilesOp, Descriptors as DescriptorsOp}
use Rattle.path_walk.specs.declared.step.StoreAnswer.TheVariants.{Names as NamesAnswer, Files as FilesAnswer, Descriptors as DescriptorsAnswer}
use Rattle.path_walk.specs.declared.step.StepAnswer.{StepAnswer}
use Rattle.path_walk.specs.declared.step.StepAnswer.TheVariants.{Answered, Cancelled, Closed}
use Rattle.path_walk.specs.declared.call.Call.{Call}
use Rattle.path_walk.specs.declared.call.Reply.{Reply}
use Rattle.path_walk.specs.Programs.{Begins, Step, Takes}
use Rattle.path_walk.specs.Plans.{fault_in}
use Rattle.path_walk.specs.OpenPlan.{description_in, file_in}
use Rattle.path_walk.specs.Calls.{unlinked_by}
use Rattle.path_walk.specs.Posix.{program}

-- the numbers that a call has reserved, the descriptions that it has to give a number or to release, and the files that it
-- has to give an entry or to tell as unlinked, each of a backend
pub record Debt : Type 0 where
  pub numbers : List ℕ
  pub descriptions : List (ℕ × ℕ)
  pub files : List (ℕ × ℕ)

abbrev pub no_debt : Debt
no_debt = record { numbers = []; descriptions = []; files = [] }

abbrev pub but : ℕ → List ℕ → List ℕ
but number numbers = filter (λ n. not (n == number)) numbers

abbrev pub but_of : ℕ → ℕ → List (ℕ × ℕ) → List (ℕ × ℕ)
but_of backend id ids = filter (λ (owed : ℕ × ℕ). not (owed.0 == backend && owed.1 == id)) ids

abbrev pub with_description : Debt → Option (ℕ × ℕ) → Debt
with_description debt None = debt
with_description debt (Some owed) = record debt { descriptions = owed ∷ debt.descriptions }

abbrev pub without_description : Debt → ℕ → ℕ → Debt
without_description debt backend id = record debt { descriptions = but_of backend id debt.descriptions }

abbrev pub with_file : Debt → ℕ → Option ℕ → Debt
with_file debt backend None = debt
with_file debt backend (Some file) = record debt { files = (backend, file) ∷ debt.files }

abbrev pub without_file : Debt → ℕ → ℕ → Debt
without_file debt backend id = record debt { files = but_of backend id debt.files }

abbrev pub is_answered : StepAnswer → Bool
is_answered (Answered given) = true
is_answered Cancelled = false
is_answered Closed = false

-- the debt after a step on names: a file got an entry, or has lost it

abbrev pub is_entered : StepAnswer → Bool
is_entered (Answered (NamesAnswer EntryDone)) = true
is_entered given = false

abbrev pub debt_after_names : Debt → ℕ → NameOp → StepAnswer → Debt
debt_after_names debt backend (Addfile id name file) given = if is_entered given then without_file debt backend file else debt
debt_after_names debt backend (Remfile id name slash) given = with_file debt backend (unlinked_by given)
debt_after_names debt backend (Move from name to new_name slash) given = with_file debt backend (unlinked_by given)
debt_after_names debt backend op given = debt

-- after a step on files: a file or a description was made, the group was told that a file is unlinked, or has no longer a
-- description that was to be released

abbrev pub of_backend : ℕ → Option ℕ → Option (ℕ × ℕ)
of_backend backend None = None
of_backend backend (Some id) = Some (backend, id)

abbrev pub with_made : Debt → ℕ → Option (ℕ × ℕ) → Debt
with_made debt backend None = debt
with_made debt backend (Some made) = with_file (with_description debt (Some (backend, made.1))) backend (Some made.0)

abbrev pub debt_after_files : Debt → ℕ → FileOp → StepAnswer → Debt
debt_after_files debt backend (Make mode) given = with_made debt backend (file_in given)
debt_after_files debt backend (Attach file mode truncate) given = with_description debt (of_backend backend (description_in given))
debt_after_files debt backend (Unlinked file) given = if is_answered given then without_file debt backend file else debt
debt_after_files debt backend (Release description) given = if is_answered given then without_description debt backend description else debt
debt_after_files debt backend op given = debt

-- after a step on descriptors: a number was reserved, filled or dropped, or a description has lost its last number

abbrev pub number_in : StepAnswer → Option ℕ
number_in (Answered (DescriptorsAnswer (fd_answer.Fd number))) = Some number
number_in given = None

abbrev pub last_in : StepAnswer → Option (ℕ × ℕ)
last_in (Answered (DescriptorsAnswer (fd_answer.Last backend description))) = Some (backend, description)
last_in (Answered (DescriptorsAnswer (fd_answer.FdLast number backend description))) = Some (backend, description)
last_in given = None

abbrev pub with_number : Debt → Option ℕ → Debt
with_number debt None = debt
with_number debt (Some number) = record debt { numbers = number ∷ debt.numbers }

abbrev pub without_number : Debt → ℕ → Debt
without_number debt number = record debt { numbers = but number debt.numbers }

abbrev pub unless_told_fault : Option Errno → Debt → Debt → Debt
unless_told_fault (Some error) debt paid = debt
unless_told_fault None debt paid = paid

abbrev pub debt_after_numbers : Debt → FdOp → StepAnswer → Debt
debt_after_numbers debt fd.Reserve given = with_number debt (number_in given)
debt_after_numbers debt (fd.FillFile number backend description) given = unless_told_fault (fault_in given) debt (without_description (without_number debt number) backend description)
debt_after_numbers debt (fd.FillDir number backend id) given = unless_told_fault (fault_in given) debt (without_number debt number)
debt_after_numbers debt (fd.Drop number) given = if is_answered given then without_number debt number else debt
debt_after_numbers debt (fd.Copyto number target) given = with_description debt (last_in given)
debt_after_numbers debt (fd.Take number) given = with_description debt (last_in given)
debt_after_numbers debt op given = debt

-- after any step that a call takes
abbrev pub debt_after : Debt → CellId → StoreOp → StepAnswer → Debt
debt_after debt (NamesCell backend) (NamesOp op) given = debt_after_names debt backend op given
debt_after debt (FilesCell backend group) (FilesOp op) given = debt_after_files debt backend op given
debt_after debt DescriptorsCell (DescriptorsOp op) given = debt_after_numbers debt op given
debt_after debt cell op given = debt

-- a step that found no memory has changed nothing
abbrev pub debt_by : Debt → CellId → StoreOp → Result StepAnswer AllocError → Debt
debt_by debt cell op (Ok given) = debt_after debt cell op given
debt_by debt cell op (Err error) = debt

-- and after all of these steps
abbrev pub debt_along : Debt → List Step → Debt
debt_along debt [] = debt
debt_along debt (step ∷ steps) = debt_along (debt_by debt step.cell step.op step.outcome) steps

-- a step was taken, and its answer has a form that the operation has: the cell was neither cancelled nor closed
abbrev pub IsOrdinary : StoreOp → StepAnswer → Type 0
IsOrdinary (NamesOp op) (Answered (NamesAnswer given)) = IsForm op given
IsOrdinary (FilesOp op) (Answered (FilesAnswer given)) = IsFileForm op given
IsOrdinary (DescriptorsOp op) (Answered (DescriptorsAnswer given)) = IsFdForm op given
IsOrdinary op given = ⊥

abbrev pub IsOrdinaryOutcome : StoreOp → Result StepAnswer AllocError → Type 0
IsOrdinaryOutcome op (Ok given) = IsOrdinary op given
IsOrdinaryOutcome op (Err error) = ⊥

abbrev pub AreOrdinary : List Step → Type 0
AreOrdinary [] = Unit {0}
AreOrdinary (step ∷ steps) = IsOrdinaryOutcome step.op step.outcome × AreOrdinary steps

-- whatever other calls do between its steps, a call that has ended owes nothing
abbrev pub DebtsArePaid : Type 0
DebtsArePaid = (version : ℕ) (call : Call) (steps : List Step) (reply : Reply) → Takes (program version call) steps reply → AreOrdinary steps → debt_along no_debt steps ≡ no_debt

-- at most one number, one description and one file
pub record IsSmall (debt : Debt) : Type 0 where
  pub numbers : length debt.numbers ≤ 1
  pub descriptions : length debt.descriptions ≤ 1
  pub files : length debt.files ≤ 1

-- whatever its steps are told, also where the last one finds no memory, a call owes no more at any time
abbrev pub DebtsAreSmall : Type 0
DebtsAreSmall = (version : ℕ) (call : Call) (steps : List Step) → Begins (program version call) steps → IsSmall (debt_along no_debt steps)
