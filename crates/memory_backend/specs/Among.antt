-- What a cell names is of one of so many backends.
use Rattle.std.specs.Prelude.{◌≡◌, ℕ, ◌<◌, List, Some}
use Rattle.name_store.specs.declared.operation.Node.TheVariants.{Mount}
use Rattle.name_store.specs.NameTrees.{Tree}
use Rattle.name_store.specs.Sound.{node_at}
use Rattle.file_store.specs.declared.descriptor_operation.Slot.{Slot}
use Rattle.file_store.specs.declared.descriptor_operation.Slot.TheVariants as slot
use Rattle.file_store.specs.DescriptorMap.{Map, slot_at}

-- each mount in the names is of one of so many backends
abbrev pub MountsAmong : ℕ → Tree → Type 0
MountsAmong backends tree = (id : ℕ) (name : List ℕ) (backend : ℕ) → node_at tree id name ≡ Some (Mount backend) → backend < backends

-- what a number names is of one of so many backends
abbrev pub IsSlotAmong : ℕ → Slot → Type 0
IsSlotAmong backends (slot.File backend description) = backend < backends
IsSlotAmong backends (slot.Dir backend directory) = backend < backends
IsSlotAmong backends other = Unit {0}

-- what each number names, and the current directory
pub record IsMapAmong (backends : ℕ) (map : Map) : Type 0 where
  pub slots : (number : ℕ) → IsSlotAmong backends (slot_at map number)
  pub current : map.current.backend < backends
