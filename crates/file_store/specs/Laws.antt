-- What a user may conclude from the definitions of the steps on a group.
use Rattle.std.specs.Prelude.{◌≡◌, ◌≢◌, ◌↔◌, ℕ, ◌%◌, ◌<◌, ◌≤◌, Bool, None, IsSome}
use Rattle.wf_core.specs.Limits.{group_count}
use Rattle.file_store.specs.declared.file_operation.Mode.{Mode}
use Rattle.file_store.specs.declared.file_operation.FileOp.{FileOp}
use Rattle.file_store.specs.declared.file_operation.FileOp.TheVariants as op
use Rattle.file_store.specs.declared.file_operation.FileAnswer.{FileAnswer}
use Rattle.file_store.specs.declared.file_operation.FileAnswer.TheVariants as answer
use Rattle.file_store.specs.Tables.{Table, row_at}
use Rattle.file_store.specs.FileGroups.{Group, opening, fstep, description_at, open_file_at}
use Rattle.file_store.specs.Sound.{IsSound, number_of}

-- a group before the first operation is sound, and each operation leaves a sound group sound
abbrev pub OpeningsAreSound : Type 0
OpeningsAreSound = (number : ℕ) → IsSound (opening number)

abbrev pub StepsStaySound : Type 0
StepsStaySound = (group : Group) (operation : FileOp) → IsSound group → IsSound (fstep group operation).group

-- a description that is there is found with its file: so `EBADF` only comes where the description is not there, or
-- its access does not allow the operation
abbrev pub DescriptionsHaveFiles : Type 0
DescriptionsHaveFiles = (group : Group) (id : ℕ) → IsSound group → IsSome (open_file_at group id) ↔ IsSome (description_at group id)

-- the answers after which a group is as it was: each error, what was only asked, and a write of nothing
abbrev pub LeavesGroup : FileAnswer → Type 0
LeavesGroup answer.Gone = Unit {0}
LeavesGroup (answer.Size size) = Unit {0}
LeavesGroup (answer.Count count) = count ≡ 0
LeavesGroup (answer.Fault error) = Unit {0}
LeavesGroup (answer.File file description) = ⊥
LeavesGroup (answer.Desc description) = ⊥
LeavesGroup answer.Done = ⊥
LeavesGroup (answer.Bytes bytes) = ⊥
LeavesGroup (answer.At at) = ⊥

abbrev pub RefusalsChangeNothing : Type 0
RefusalsChangeNothing = (group : Group) (operation : FileOp) → LeavesGroup (fstep group operation).answer → (fstep group operation).group ≡ group

-- the operation is on that description
abbrev pub IsOn : ℕ → FileOp → Type 0
IsOn id (op.Make mode) = ⊥
IsOn id (op.Attach file mode truncate) = ⊥
IsOn id (op.Sizeof file) = ⊥
IsOn id (op.Unlinked file) = ⊥
IsOn id (op.Release other) = other ≡ id
IsOn id (op.Read other count) = other ≡ id
IsOn id (op.Readat other count offset) = other ≡ id
IsOn id (op.Write other bytes) = other ≡ id
IsOn id (op.Writeat other bytes offset) = other ≡ id
IsOn id (op.Seek other offset whence) = other ≡ id
IsOn id (op.Cut other size) = other ≡ id
IsOn id (op.Size other) = other ≡ id

pub record OffsetsAreApart : Type 0 where
  -- what is done by one description leaves each other one as it was, with its offset, also where both are of one file
  pub on : (group : Group) (id other : ℕ) (operation : FileOp) → IsOn id operation → other ≢ id → description_at (fstep group operation).group other ≡ description_at group other
  -- and so does what is done by none
  pub on_none : (group : Group) (id : ℕ) (operation : FileOp) → IsSound group → IsSome (description_at group id) → (IsOn id operation → ⊥) → description_at (fstep group operation).group id ≡ description_at group id

-- an id that an operation answers: it named nothing and is above all that do, and from then on the next one is above it
pub record IsNew {X : Type 0} (number : ℕ) (before after : Table X) (id : ℕ) : Type 0 where
  pub absent : row_at before id ≡ None
  pub above : (other : ℕ) → IsSome (row_at before other) → other < id
  pub of_group : id % group_count ≡ number
  pub not_before : before.next ≤ id
  pub not_after : id < after.next

-- no id is used again
pub record IdsAreNew : Type 0 where
  pub make : (group : Group) (mode : Mode) (file description : ℕ) → IsSound group → (fstep group (op.Make mode)).answer ≡ answer.File file description → IsNew (number_of group) group.files (fstep group (op.Make mode)).group.files file × IsNew (number_of group) group.descriptions (fstep group (op.Make mode)).group.descriptions description
  pub attach : (group : Group) (file : ℕ) (mode : Mode) (truncate : Bool) (description : ℕ) → IsSound group → (fstep group (op.Attach file mode truncate)).answer ≡ answer.Desc description → IsNew (number_of group) group.descriptions (fstep group (op.Attach file mode truncate)).group.descriptions description
  -- the next ids never fall, and stay of the group
  pub rise : (group : Group) (operation : FileOp) → (group.files.next ≤ (fstep group operation).group.files.next) × (group.descriptions.next ≤ (fstep group operation).group.descriptions.next)
  pub number : (group : Group) (operation : FileOp) → number_of (fstep group operation).group ≡ number_of group
