-- What a user may conclude of a call that fails: POSIX.1-2017, XSH 2.3, and the errors of each call.
use Rattle.std.specs.Prelude.{◌≡◌, ℕ, ◌%◌, IsSome}
use Rattle.wf_core.specs.Limits.{group_count}
use Rattle.wf_core.specs.declared.errno.Errno.{Errno}
use Rattle.file_store.specs.declared.descriptor_operation.Slot.TheVariants as slot
use Rattle.file_store.specs.DescriptorMap.{slot_at}
use Rattle.file_store.specs.FileGroups.{description_at}
use Rattle.path_walk.specs.declared.call.Call.{Call}
use Rattle.path_walk.specs.declared.call.Reply.TheVariants.{Fault}
use Rattle.path_walk.specs.Store.{Store, group_at}
use Rattle.path_walk.specs.Posix.{posix}

-- each description that a number names is there, in the group of its id
pub record DescriptionsAreThere (store : Store) : Type 0 where
  pub named : (number backend description : ℕ) → slot_at store.descriptors number ≡ slot.File backend description → IsSome (description_at (group_at store backend (description % group_count)) description)

-- a call that replies an error leaves the store as it was, with its offsets and its numbers
abbrev pub ErrorsChangeNothing : Type 0
ErrorsChangeNothing = (version : ℕ) (store : Store) (call : Call) (error : Errno) → DescriptionsAreThere store → (posix version store call).reply ≡ Fault error → (posix version store call).store ≡ store
