-- File descriptors: what each number below `open_max` names, and the current directory beside them; and what each
-- operation answers and leaves. After POSIX.1-2017, XSH open() and dup() (the lowest number that is free), dup2() and
-- close(), where a description ends with its last number, and chdir(). `EBUSY` for a number that an unfinished open() has reserved, and
-- the steps into which those calls are cut, are this project's own.
use Rattle.std.specs.Prelude.{◌≡◌, ◌⊎◌, ℕ, ◌<◌, ◌==◌, Bool, true, false, ◌&&◌, List, length, replicate, Option, None, Some, unwrap_or, slice_get, slice_set, position, nat_lt, if◌then◌else◌}
use Rattle.std.specs.List.{list_any}
use Rattle.wf_core.specs.Limits.{open_max}
use Rattle.wf_core.specs.declared.errno.Errno.TheVariants.{Ebadf, Emfile, Ebusy}
use Rattle.file_store.specs.declared.descriptor_operation.Slot.{Slot}
use Rattle.file_store.specs.declared.descriptor_operation.Slot.TheVariants as slot
use Rattle.file_store.specs.declared.descriptor_operation.CurrentDir.{CurrentDir}
use Rattle.file_store.specs.declared.descriptor_operation.FdOp.{FdOp}
use Rattle.file_store.specs.declared.descriptor_operation.FdOp.TheVariants as op
use Rattle.file_store.specs.declared.descriptor_operation.FdAnswer.{FdAnswer}
use Rattle.file_store.specs.declared.descriptor_operation.FdAnswer.TheVariants as answer

-- a map: what each number is, as the list from number 0 on, and the current directory
pub record Map : Type 0 where
  pub slots : List Slot
  pub current : CurrentDir

-- a directory of a backend, as the current one
abbrev pub current_dir : ℕ → ℕ → CurrentDir
current_dir backend dir = record { backend = backend; dir = dir }

-- the first map: each number is free, and the current directory is the root
abbrev pub opening : Map
opening = record { slots = replicate open_max slot.Free; current = current_dir 0 0 }

-- the map in which a number is that
abbrev pub with_slot : Map → ℕ → Slot → Map
with_slot map number new = record map { slots = slice_set map.slots number new }

-- what a number is. One that the map does not have names nothing, as a free one
abbrev pub slot_at : Map → ℕ → Slot
slot_at map number = unwrap_or (slice_get map.slots number) slot.Free

abbrev pub is_free : Slot → Bool
is_free slot.Free = true
is_free slot.Reserved = false
is_free (slot.File backend description) = false
is_free (slot.Dir backend id) = false

abbrev pub is_reserved : Slot → Bool
is_reserved slot.Free = false
is_reserved slot.Reserved = true
is_reserved (slot.File backend description) = false
is_reserved (slot.Dir backend id) = false

-- it names a description or a directory
abbrev pub is_named : Slot → Bool
is_named slot.Free = false
is_named slot.Reserved = false
is_named (slot.File backend description) = true
is_named (slot.Dir backend id) = true

-- it names that description
abbrev pub is_number_of : ℕ → ℕ → Slot → Bool
is_number_of backend description slot.Free = false
is_number_of backend description slot.Reserved = false
is_number_of backend description (slot.File other_backend other) = other_backend == backend && other == description
is_number_of backend description (slot.Dir other_backend id) = false

-- the lowest free number, where there is one
abbrev pub lowest_free : Map → Option ℕ
lowest_free map = position is_free map.slots

-- some number names that description
abbrev pub is_description_open : ℕ → ℕ → Map → Bool
is_description_open backend description map = list_any (is_number_of backend description) map.slots

-- what an operation answers, and the map that it leaves
pub record DescriptorsOutcome : Type 0 where
  pub map : Map
  pub answer : FdAnswer

abbrev pub outcome_of : Map → FdAnswer → DescriptorsOutcome
outcome_of map answer = record { map = map; answer = answer }

abbrev pub outcome_with : Map → ℕ → Slot → FdAnswer → DescriptorsOutcome
outcome_with map number new answer = record { map = with_slot map number new; answer = answer }

-- the lowest free number, if there is one, becomes what is asked
abbrev pub place_outcome : Map → Slot → Option ℕ → DescriptorsOutcome
place_outcome map new None = outcome_of map (answer.Fault Emfile)
place_outcome map new (Some number) = outcome_with map number new (answer.Fd number)

-- only a reserved number changes
abbrev pub fill_outcome : Map → ℕ → Slot → Slot → DescriptorsOutcome
fill_outcome map number new old = if is_reserved old then outcome_with map number new answer.Done else outcome_of map answer.Done

abbrev pub look_answer : Slot → FdAnswer
look_answer slot.Free = answer.Fault Ebadf
look_answer slot.Reserved = answer.Fault Ebadf
look_answer (slot.File backend description) = answer.File backend description
look_answer (slot.Dir backend id) = answer.Dir backend id

abbrev pub copy_outcome : Map → Slot → DescriptorsOutcome
copy_outcome map named = if is_named named then place_outcome map named (lowest_free map) else outcome_of map (answer.Fault Ebadf)

-- a number that named a description names something else, and the answer tells whether it was the last one
abbrev pub copyto_outcome_last : Map → ℕ → ℕ → ℕ → DescriptorsOutcome
copyto_outcome_last new number backend description = record { map = new; answer = if is_description_open backend description new then answer.Fd number else answer.FdLast number backend description }

abbrev pub copyto_outcome_over : Map → ℕ → Slot → Slot → DescriptorsOutcome
copyto_outcome_over map number new slot.Free = outcome_with map number new (answer.Fd number)
copyto_outcome_over map number new slot.Reserved = outcome_of map (answer.Fault Ebusy)
copyto_outcome_over map number new (slot.File backend description) = copyto_outcome_last (with_slot map number new) number backend description
copyto_outcome_over map number new (slot.Dir backend id) = outcome_with map number new (answer.Fd number)

abbrev pub copyto_outcome : Map → Slot → ℕ → DescriptorsOutcome
copyto_outcome map named number = if is_named named && nat_lt number (length map.slots) then copyto_outcome_over map number named (slot_at map number) else outcome_of map (answer.Fault Ebadf)

-- a number that named a description is free, and the answer tells whether it was the last one
abbrev pub take_outcome_last : Map → ℕ → ℕ → DescriptorsOutcome
take_outcome_last new backend description = record { map = new; answer = if is_description_open backend description new then answer.Done else answer.Last backend description }

abbrev pub take_outcome : Map → ℕ → Slot → DescriptorsOutcome
take_outcome map number slot.Free = outcome_of map (answer.Fault Ebadf)
take_outcome map number slot.Reserved = outcome_of map (answer.Fault Ebadf)
take_outcome map number (slot.File backend description) = take_outcome_last (with_slot map number slot.Free) backend description
take_outcome map number (slot.Dir backend id) = outcome_with map number slot.Free answer.Done

-- each operation on a map
abbrev pub dstep : Map → FdOp → DescriptorsOutcome
dstep map op.Reserve = place_outcome map slot.Reserved (lowest_free map)
dstep map (op.FillFile number backend description) = fill_outcome map number (slot.File backend description) (slot_at map number)
dstep map (op.FillDir number backend id) = fill_outcome map number (slot.Dir backend id) (slot_at map number)
dstep map (op.Drop number) = fill_outcome map number slot.Free (slot_at map number)
dstep map (op.Look number) = outcome_of map (look_answer (slot_at map number))
dstep map (op.Copy number) = copy_outcome map (slot_at map number)
dstep map (op.Copyto number target) = copyto_outcome map (slot_at map number) target
dstep map (op.Take number) = take_outcome map number (slot_at map number)
dstep map op.Cwd = outcome_of map (answer.Dir map.current.backend map.current.dir)
dstep map (op.Setcwd backend id) = outcome_of (record map { current = current_dir backend id }) answer.Done

-- the forms of answer that each operation has. The numbers are those below `open_max`
abbrev pub IsForm : FdOp → FdAnswer → Type 0
IsForm op.Reserve (answer.Fd number) = number < open_max
IsForm op.Reserve (answer.Fault error) = error ≡ Emfile
IsForm op.Reserve _ = ⊥
IsForm (op.FillFile number backend description) answer.Done = Unit {0}
IsForm (op.FillFile number backend description) _ = ⊥
IsForm (op.FillDir number backend id) answer.Done = Unit {0}
IsForm (op.FillDir number backend id) _ = ⊥
IsForm (op.Drop number) answer.Done = Unit {0}
IsForm (op.Drop number) _ = ⊥
IsForm (op.Look number) (answer.File backend description) = Unit {0}
IsForm (op.Look number) (answer.Dir backend id) = Unit {0}
IsForm (op.Look number) (answer.Fault error) = error ≡ Ebadf
IsForm (op.Look number) _ = ⊥
IsForm (op.Copy number) (answer.Fd copy) = copy < open_max
IsForm (op.Copy number) (answer.Fault error) = (error ≡ Ebadf) ⊎ (error ≡ Emfile)
IsForm (op.Copy number) _ = ⊥
IsForm (op.Copyto number target) (answer.Fd copy) = (copy ≡ target) × (target < open_max)
IsForm (op.Copyto number target) (answer.FdLast copy backend description) = (copy ≡ target) × (target < open_max)
IsForm (op.Copyto number target) (answer.Fault error) = (error ≡ Ebadf) ⊎ (error ≡ Ebusy)
IsForm (op.Copyto number target) _ = ⊥
IsForm (op.Take number) answer.Done = Unit {0}
IsForm (op.Take number) (answer.Last backend description) = Unit {0}
IsForm (op.Take number) (answer.Fault error) = error ≡ Ebadf
IsForm (op.Take number) _ = ⊥
IsForm op.Cwd (answer.Dir backend id) = Unit {0}
IsForm op.Cwd _ = ⊥
IsForm (op.Setcwd backend id) answer.Done = Unit {0}
IsForm (op.Setcwd backend id) _ = ⊥
