-- Lemmas on the map of descriptors.
use Rattle.std.proofs.Common.{◌≡◌, ℕ, ◌<◌, arith, Option, zero, suc, replicate, ◌+◌, Bool, true, false, not, ◌&&◌, if◌then◌else◌, nat_lt, subst, inl, inr, List, [], ◌∷◌, length, map, cond, ltb, position, Some, None, refl, ap, ap₂}
use Rattle.std.specs.List.{prefix_len}
use Rattle.std.proofs.lemmas.List.{length-map}
use borrow.Author.Tests.{ltb-true}
use Rattle.std.proofs.lemmas.List.Quantifiers.{position-Some}
use Rattle.wf_core.specs.Limits.{open_max}
use Rattle.wf_core.specs.declared.errno.Errno.TheVariants.{Ebadf, Emfile}
use Rattle.file_store.specs.declared.descriptor_operation.Slot.{Slot}
use Rattle.file_store.specs.declared.descriptor_operation.Slot.TheVariants as slot
use Rattle.file_store.specs.declared.descriptor_operation.FdOp.{FdOp}
use Rattle.file_store.specs.declared.descriptor_operation.FdOp.TheVariants as op
use Rattle.file_store.specs.declared.descriptor_operation.FdAnswer.{FdAnswer}
use Rattle.file_store.specs.declared.descriptor_operation.FdAnswer.TheVariants as answer
use Rattle.file_store.specs.DescriptorMap.{Map, DescriptorsOutcome, IsForm, dstep, is_free, is_reserved, is_named, is_description_open, slot_at, lowest_free, outcome_of, outcome_with, place_outcome, with_slot, look_answer, copyto_outcome_over, take_outcome}

module _ {X : Type 0} where
  prefix_len-map : (f : X → Bool) (xs : List X) → prefix_len (λ (b : Bool). not b) (map f xs) ≡ prefix_len (λ (x : X). not (f x)) xs
  prefix_len-map f [] = refl
  prefix_len-map f (x ∷ xs) = ap (λ (n : ℕ). cond (not (f x)) (1 + n) 0) (prefix_len-map f xs)

  -- the first place that passes, by the list of the test's answers
  pub position-map : (f : X → Bool) (xs : List X) → position (λ (b : Bool). b) (map f xs) ≡ position f xs
  position-map f xs = ap₂ (λ (n m : ℕ). cond (ltb n m) (Some n) None) (prefix_len-map f xs) (length-map xs f)

-- of so many free numbers each is free
pub all_free : (n : ℕ) → map is_free (replicate n slot.Free) ≡ replicate n true
all_free zero = refl
all_free (suc n) = ap (λ (bs : List Bool). true ∷ bs) (all_free n)

-- a free number is one of the numbers
placed_form : (o : FdOp) (map : Map) (new : Slot) (place : Option ℕ) → ((n : ℕ) → n < open_max → IsForm o (answer.Fd n)) → IsForm o (answer.Fault Emfile) → length map.slots ≡ open_max → lowest_free map ≡ place → IsForm o (place_outcome map new place).answer
placed_form o map new None fd full size is = full
placed_form o map new (Some n) fd full size is =
    let found = position-Some is_free map.slots n slot.Free is in
    fd n (omega (arith, found.0, size))

over_form : (map : Map) (n m : ℕ) (new old : Slot) → m < open_max → IsForm (op.Copyto n m) (copyto_outcome_over map m new old).answer
over_form map n m new slot.Free low = (refl, low)
over_form map n m new slot.Reserved low = inr refl
over_form map n m new (slot.File k d) low =
    elim (is_description_open k d (with_slot map m new)) as (λ b. IsForm (op.Copyto n m) (if b then answer.Fd m else answer.FdLast m k d)) [ true ↦ (refl, low) | false ↦ (refl, low) ]
over_form map n m new (slot.Dir k i) low = (refl, low)

copied_form : (map : Map) (n m : ℕ) (named within : Bool) → nat_lt m (length map.slots) ≡ within → length map.slots ≡ open_max → IsForm (op.Copyto n m) (if named && within then copyto_outcome_over map m (slot_at map n) (slot_at map m) else outcome_of map (answer.Fault Ebadf)).answer
copied_form map n m false within e size = inl refl
copied_form map n m true false e size = inl refl
copied_form map n m true true e size = over_form map n m (slot_at map n) (slot_at map m) (omega (arith, ltb-true m (length map.slots) e, size))

taken_form : (map : Map) (n : ℕ) (old : Slot) → IsForm (op.Take n) (take_outcome map n old).answer
taken_form map n slot.Free = refl
taken_form map n slot.Reserved = refl
taken_form map n (slot.File k d) =
    elim (is_description_open k d (with_slot map n slot.Free)) as (λ b. IsForm (op.Take n) (if b then answer.Done else answer.Last k d)) [ true ↦ tt | false ↦ tt ]
taken_form map n (slot.Dir k i) = tt

filled_form : (o : FdOp) (map : Map) (n : ℕ) (new : Slot) (reserved : Bool) → IsForm o answer.Done → IsForm o (if reserved then outcome_with map n new answer.Done else outcome_of map answer.Done).answer
filled_form o map n new true done = done
filled_form o map n new false done = done

copy_form : (map : Map) (n : ℕ) (named : Bool) → length map.slots ≡ open_max → IsForm (op.Copy n) (if named then place_outcome map (slot_at map n) (lowest_free map) else outcome_of map (answer.Fault Ebadf)).answer
copy_form map n true size = placed_form (op.Copy n) map (slot_at map n) (lowest_free map) (λ m low. low) (inr refl) size refl
copy_form map n false size = inl refl

-- the answers of an operation have its forms
form : (map : Map) (o : FdOp) → length map.slots ≡ open_max → IsForm o (dstep map o).answer
form map op.Reserve size = placed_form op.Reserve map slot.Reserved (lowest_free map) (λ n low. low) refl size refl
form map (op.FillFile n k d) size = filled_form (op.FillFile n k d) map n (slot.File k d) (is_reserved (slot_at map n)) tt
form map (op.FillDir n k i) size = filled_form (op.FillDir n k i) map n (slot.Dir k i) (is_reserved (slot_at map n)) tt
form map (op.Drop n) size = filled_form (op.Drop n) map n slot.Free (is_reserved (slot_at map n)) tt
form map (op.Look n) size = elim (slot_at map n) as (λ s. IsForm (op.Look n) (look_answer s)) [ slot.Free ↦ refl | slot.Reserved ↦ refl | slot.File k d ↦ tt | slot.Dir k i ↦ tt ]
form map (op.Copy n) size = copy_form map n (is_named (slot_at map n)) size
form map (op.Copyto n m) size = copied_form map n m (is_named (slot_at map n)) (nat_lt m (length map.slots)) refl size
form map (op.Take n) size = taken_form map n (slot_at map n)
form map op.Cwd size = tt
form map (op.Setcwd k i) size = tt

pub is_form : (map : Map) (o : FdOp) (new : Map) (r : FdAnswer) → length map.slots ≡ open_max → dstep map o ≡ record { map = new; answer = r } → IsForm o r
is_form map o new r size e = subst (λ (p : DescriptorsOutcome). IsForm o p.answer) e (form map o size)
