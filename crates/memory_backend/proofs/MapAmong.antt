-- What each number names, and the current directory, stay among the backends.
use Rattle.std.proofs.Common.{ℕ, ◌<◌, zero, suc, Bool, true, false, ◌&&◌, if◌then◌else◌, nat_lt, List, [], ◌∷◌, length, replicate, Option, None, Some, slice_get, slice_set, unwrap_or}
use Rattle.wf_core.specs.Limits.{open_max}
use Rattle.wf_core.specs.declared.errno.Errno.TheVariants.{Ebadf}
use Rattle.file_store.specs.declared.descriptor_operation.Slot.{Slot}
use Rattle.file_store.specs.declared.descriptor_operation.Slot.TheVariants as slot
use Rattle.file_store.specs.declared.descriptor_operation.FdOp.{FdOp}
use Rattle.file_store.specs.declared.descriptor_operation.FdOp.TheVariants as op
use Rattle.file_store.specs.declared.descriptor_operation.FdAnswer.TheVariants as answer
use Rattle.file_store.specs.DescriptorMap.{Map, DescriptorsOutcome, dstep, opening, slot_at, with_slot, is_named, is_reserved, is_description_open, lowest_free, outcome_of, place_outcome, fill_outcome, look_answer, copyto_outcome_over, take_outcome}
use Rattle.path_walk.specs.Backing.{IsFdOpAmong, DescriptorsAmong}
use Rattle.memory_backend.specs.Among.{IsSlotAmong, IsMapAmong}

module _ (backends : ℕ) where
  free_slots : (count number : ℕ) → IsSlotAmong backends (unwrap_or (slice_get (replicate count slot.Free) number) slot.Free)
  free_slots zero number = tt
  free_slots (suc count) zero = tt
  free_slots (suc count) (suc number) = free_slots count number

  set_slot : (slots : List Slot) (place number : ℕ) (new : Slot) → IsSlotAmong backends new → IsSlotAmong backends (unwrap_or (slice_get slots number) slot.Free) → IsSlotAmong backends (unwrap_or (slice_get (slice_set slots place new) number) slot.Free)
  set_slot [] place number new fits was = tt
  set_slot (first ∷ slots) zero zero new fits was = fits
  set_slot (first ∷ slots) zero (suc number) new fits was = was
  set_slot (first ∷ slots) (suc place) zero new fits was = was
  set_slot (first ∷ slots) (suc place) (suc number) new fits was = set_slot slots place number new fits was

  set : (map : Map) (place : ℕ) (new : Slot) → IsSlotAmong backends new → IsMapAmong backends map → IsMapAmong backends (with_slot map place new)
  set map place new fits among = record {
    slots = λ number. set_slot map.slots place number new fits (among.slots number);
    current = among.current;
  }

  -- an outcome that keeps to the backends
  pub record Keeps (outcome : DescriptorsOutcome) : Type 0 where
    pub map : IsMapAmong backends outcome.map
    pub answer : DescriptorsAmong backends outcome.answer

  module _ (map : Map) (among : IsMapAmong backends map) where
    placed : (new : Slot) (place : Option ℕ) → IsSlotAmong backends new → Keeps (place_outcome map new place)
    placed new None fits = record { map = among; answer = tt }
    placed new (Some number) fits = record { map = set map number new fits among; answer = tt }

    filled_by : (number : ℕ) (new : Slot) (reserved : Bool) → IsSlotAmong backends new → Keeps (if reserved then record { map = with_slot map number new; answer = answer.Done } else outcome_of map answer.Done)
    filled_by number new true fits = record { map = set map number new fits among; answer = tt }
    filled_by number new false fits = record { map = among; answer = tt }

    filled : (number : ℕ) (new old : Slot) → IsSlotAmong backends new → Keeps (fill_outcome map number new old)
    filled number new old fits = filled_by number new (is_reserved old) fits

    looked : (old : Slot) → IsSlotAmong backends old → DescriptorsAmong backends (look_answer old)
    looked slot.Free fits = tt
    looked slot.Reserved fits = tt
    looked (slot.File backend description) fits = fits
    looked (slot.Dir backend directory) fits = fits

    copied_by : (named : Slot) (is : Bool) → IsSlotAmong backends named → Keeps (if is then place_outcome map named (lowest_free map) else outcome_of map (answer.Fault Ebadf))
    copied_by named true fits = placed named (lowest_free map) fits
    copied_by named false fits = record { map = among; answer = tt }

    last_number : (new : Map) (number backend description : ℕ) (still : Bool) → IsMapAmong backends new → backend < backends → Keeps (record { map = new; answer = if still then answer.Fd number else answer.FdLast number backend description })
    last_number new number backend description true slots within = record { map = slots; answer = tt }
    last_number new number backend description false slots within = record { map = slots; answer = within }

    over : (number : ℕ) (new old : Slot) → IsSlotAmong backends new → IsSlotAmong backends old → Keeps (copyto_outcome_over map number new old)
    over number new slot.Free fits was = record { map = set map number new fits among; answer = tt }
    over number new slot.Reserved fits was = record { map = among; answer = tt }
    over number new (slot.File backend description) fits was = last_number (with_slot map number new) number backend description (is_description_open backend description (with_slot map number new)) (set map number new fits among) was
    over number new (slot.Dir backend directory) fits was = record { map = set map number new fits among; answer = tt }

    copied_to : (number : ℕ) (named : Slot) (is : Bool) → IsSlotAmong backends named → Keeps (if is then copyto_outcome_over map number named (slot_at map number) else outcome_of map (answer.Fault Ebadf))
    copied_to number named true fits = over number named (slot_at map number) fits (among.slots number)
    copied_to number named false fits = record { map = among; answer = tt }

    last_taken : (new : Map) (backend description : ℕ) (still : Bool) → IsMapAmong backends new → backend < backends → Keeps (record { map = new; answer = if still then answer.Done else answer.Last backend description })
    last_taken new backend description true slots within = record { map = slots; answer = tt }
    last_taken new backend description false slots within = record { map = slots; answer = within }

    taken : (number : ℕ) (old : Slot) → IsSlotAmong backends old → Keeps (take_outcome map number old)
    taken number slot.Free was = record { map = among; answer = tt }
    taken number slot.Reserved was = record { map = among; answer = tt }
    taken number (slot.File backend description) was = last_taken (with_slot map number slot.Free) backend description (is_description_open backend description (with_slot map number slot.Free)) (set map number slot.Free tt among) was
    taken number (slot.Dir backend directory) was = record { map = set map number slot.Free tt among; answer = tt }

    pub step_keeps : (op : FdOp) → IsFdOpAmong backends op → Keeps (dstep map op)
    step_keeps op.Reserve fits = placed slot.Reserved (lowest_free map) tt
    step_keeps (op.FillFile number backend description) fits = filled number (slot.File backend description) (slot_at map number) fits
    step_keeps (op.FillDir number backend directory) fits = filled number (slot.Dir backend directory) (slot_at map number) fits
    step_keeps (op.Drop number) fits = filled number slot.Free (slot_at map number) tt
    step_keeps (op.Look number) fits = record { map = among; answer = looked (slot_at map number) (among.slots number) }
    step_keeps (op.Copy number) fits = copied_by (slot_at map number) (is_named (slot_at map number)) (among.slots number)
    step_keeps (op.Copyto number target) fits = copied_to target (slot_at map number) (is_named (slot_at map number) && nat_lt target (length map.slots)) (among.slots number)
    step_keeps (op.Take number) fits = taken number (slot_at map number) (among.slots number)
    step_keeps op.Cwd fits = record { map = among; answer = among.current }
    step_keeps (op.Setcwd backend directory) fits = record { map = record { slots = among.slots; current = fits }; answer = tt }

  pub opening_among : 0 < backends → IsMapAmong backends opening
  opening_among root = record { slots = free_slots open_max; current = root }
