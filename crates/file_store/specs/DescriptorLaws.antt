-- What a user may conclude from the definitions of the descriptors.
use Rattle.std.specs.Prelude.{◌≡◌, ◌⊎◌, ℕ, Bool, true, false}
use Rattle.file_store.specs.declared.descriptor_operation.Slot.{Slot}
use Rattle.file_store.specs.declared.descriptor_operation.Slot.TheVariants as slot
use Rattle.file_store.specs.declared.descriptor_operation.FdOp.{FdOp}
use Rattle.file_store.specs.declared.descriptor_operation.FdOp.TheVariants as fd
use Rattle.file_store.specs.declared.descriptor_operation.FdAnswer.{FdAnswer}
use Rattle.file_store.specs.declared.descriptor_operation.FdAnswer.TheVariants as fd_answer
use Rattle.file_store.specs.DescriptorMap.{Map, dstep, is_named, slot_at}

-- both numbers name, after an operation, what the first named before it
abbrev pub NameOne : Map → FdOp → ℕ → ℕ → Type 0
NameOne map operation number copy = ((dstep (dstep map operation).map (fd.Look copy)).answer ≡ (dstep map (fd.Look number)).answer)
    × ((dstep (dstep map operation).map (fd.Look number)).answer ≡ (dstep map (fd.Look number)).answer)

-- a number was copied to that one
abbrev pub is_copied : FdAnswer → Bool
is_copied (fd_answer.Fd copy) = true
is_copied (fd_answer.FdLast copy backend description) = true
is_copied _ = false

-- A copy of a number names what that number names, then as before. So both are of one description, and
-- what is done by one of them moves the offset of the other.
pub record CopiesShare : Type 0 where
  pub copy : (map : Map) (number copy : ℕ) → (dstep map (fd.Copy number)).answer ≡ fd_answer.Fd copy → NameOne map (fd.Copy number) number copy
  pub copy_to : (map : Map) (number target : ℕ) → is_copied (dstep map (fd.Copyto number target)).answer ≡ true → NameOne map (fd.Copyto number target) number target

-- the operation is to have a number name that
abbrev pub IsAsked : FdOp → Slot → Type 0
IsAsked (fd.FillFile number backend description) named = named ≡ slot.File backend description
IsAsked (fd.FillDir number backend id) named = named ≡ slot.Dir backend id
IsAsked _ named = ⊥

-- what a number names after an operation was asked for by it, or was named by some number before it
abbrev pub NamesAreGiven : Type 0
NamesAreGiven = (map : Map) (operation : FdOp) (number : ℕ) → is_named (slot_at (dstep map operation).map number) ≡ true → IsAsked operation (slot_at (dstep map operation).map number) ⊎ ((before : ℕ) × (slot_at map before ≡ slot_at (dstep map operation).map number))

-- the operation sets the current directory
abbrev pub is_setcwd : FdOp → Bool
is_setcwd (fd.Setcwd backend id) = true
is_setcwd _ = false

-- The current directory is the one that was set last. What becomes of the numbers leaves it as it is, and to set it
-- leaves them.
pub record CurrentIsSetLast : Type 0 where
  pub set : (map : Map) (backend id : ℕ) → (dstep (dstep map (fd.Setcwd backend id)).map fd.Cwd).answer ≡ fd_answer.Dir backend id
  pub kept : (map : Map) (operation : FdOp) → is_setcwd operation ≡ false → (dstep (dstep map operation).map fd.Cwd).answer ≡ (dstep map fd.Cwd).answer
  pub numbers : (map : Map) (backend id number : ℕ) → slot_at (dstep map (fd.Setcwd backend id)).map number ≡ slot_at map number
