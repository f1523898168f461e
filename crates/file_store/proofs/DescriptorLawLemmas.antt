-- Lemmas for the laws of the descriptors.
use Rattle.std.proofs.Common.{◌≡◌, ◌≢◌, ◌⊎◌, inl, inr, ℕ, zero, suc, Bool, true, false, cond, List, [], ◌∷◌, length, set, get_or, Option, None, Some, refl, sym, ap, subst, ◌∙◌}
use Rattle.std.specs.Prelude.{nat_lt, ◌&&◌, slice_get, unwrap_or}
use Rattle.std.proofs.lemmas.Bool.{false≢true, cases_eq}
use borrow.Author.Tests.{ltb-true}
use Rattle.std.proofs.lemmas.List.{get_or-set_same, get_or-set_other}
use Rattle.std.proofs.lemmas.List.Quantifiers.{position-Some}
use Rattle.wf_core.specs.declared.errno.Errno.TheVariants.{Ebadf, Ebusy, Emfile}
use Rattle.file_store.specs.declared.descriptor_operation.Slot.{Slot}
use Rattle.file_store.specs.declared.descriptor_operation.Slot.TheVariants as slot
use Rattle.file_store.specs.declared.descriptor_operation.CurrentDir.{CurrentDir}
use Rattle.file_store.specs.declared.descriptor_operation.FdOp.{FdOp}
use Rattle.file_store.specs.declared.descriptor_operation.FdOp.TheVariants as op
use Rattle.file_store.specs.declared.descriptor_operation.FdAnswer.{FdAnswer}
use Rattle.file_store.specs.declared.descriptor_operation.FdAnswer.TheVariants as fd_answer
use Rattle.file_store.specs.DescriptorMap.{Map, DescriptorsOutcome, outcome_of, outcome_with, slot_at, is_free, is_named, is_reserved, lowest_free, place_outcome, fill_outcome, copy_outcome, copyto_outcome_over, copyto_outcome, look_answer, take_outcome, dstep, with_slot}
use Rattle.file_store.specs.DescriptorLaws.{IsAsked, CurrentIsSetLast, NamesAreGiven, is_copied, is_setcwd}

item_is : (slots : List Slot) (n : ℕ) → unwrap_or (slice_get slots n) slot.Free ≡ get_or slots n slot.Free
item_is [] n = refl
item_is (s ∷ slots) zero = refl
item_is (s ∷ slots) (suc n) = item_is slots n

-- what a number is, as an element of the list
slot_is : (map : Map) (n : ℕ) → slot_at map n ≡ get_or map.slots n slot.Free
slot_is map n = item_is map.slots n

abbrev fd_of : FdAnswer → ℕ
fd_of (fd_answer.Fd n) = n
fd_of _ = 0

abbrev is_fd : FdAnswer → Bool
is_fd (fd_answer.Fd n) = true
is_fd _ = false

-- a copy, by whether a number is named and by the lowest free one
pub copy_shares : (map : Map) (number copy : ℕ) (named : Bool) (free : Option ℕ) → is_named (slot_at map number) ≡ named → lowest_free map ≡ free → (copy_outcome map (slot_at map number)).answer ≡ fd_answer.Fd copy → (slot_at (copy_outcome map (slot_at map number)).map copy ≡ slot_at map number) × (slot_at (copy_outcome map (slot_at map number)).map number ≡ slot_at map number)
copy_shares map number copy false free e f a =
    absurd (false≢true (ap is_fd (sym (ap (λ (b : Bool). (cond b (place_outcome map (slot_at map number) (lowest_free map)) (outcome_of map (fd_answer.Fault Ebadf))).answer) e) ∙ a)))
copy_shares map number copy true None e f a =
    absurd (false≢true (ap is_fd (sym (ap (λ (b : Bool). (cond b (place_outcome map (slot_at map number) (lowest_free map)) (outcome_of map (fd_answer.Fault Ebadf))).answer) e ∙ ap (λ (o : Option ℕ). (place_outcome map (slot_at map number) o).answer) f) ∙ a)))
copy_shares map number copy true (Some place) e f a =
    let named = slot_at map number in
    let done : copy_outcome map named ≡ place_outcome map named (Some place) = ap (λ (b : Bool). cond b (place_outcome map named (lowest_free map)) (outcome_of map (fd_answer.Fault Ebadf))) e ∙ ap (λ (o : Option ℕ). place_outcome map named o) f in
    let same : place ≡ copy = ap fd_of (sym (ap (λ (o : DescriptorsOutcome). o.answer) done) ∙ a) in
    let found = position-Some is_free map.slots place slot.Free f in
    let new : (copy_outcome map named).map ≡ with_slot map place named = ap (λ (o : DescriptorsOutcome). o.map) done in
    let apart : number ≢ place = λ same_number. false≢true (sym (ap is_named (slot_is map number ∙ ap (λ (n : ℕ). get_or map.slots n slot.Free) same_number) ∙ not_named (get_or map.slots place slot.Free) found.1) ∙ e) in (
      slot_is (copy_outcome map named).map copy ∙ ap (λ (m : Map). get_or m.slots copy slot.Free) new ∙ ap (λ (n : ℕ). get_or (set map.slots place named) n slot.Free) (sym same) ∙ get_or-set_same map.slots place named slot.Free found.0,
      slot_is (copy_outcome map named).map number ∙ ap (λ (m : Map). get_or m.slots number slot.Free) new ∙ get_or-set_other map.slots place number named slot.Free apart ∙ sym (slot_is map number),
    )
  where
    not_named : (s : Slot) → is_free s ≡ true → is_named s ≡ false
    not_named slot.Free h = refl
    not_named slot.Reserved h = absurd (false≢true h)
    not_named (slot.File k d) h = absurd (false≢true h)
    not_named (slot.Dir k i) h = absurd (false≢true h)

-- a number that took the place of another, by what that was
copied_map : (map : Map) (target : ℕ) (named old : Slot) → is_copied (copyto_outcome_over map target named old).answer ≡ true → (copyto_outcome_over map target named old).map ≡ with_slot map target named
copied_map map target named slot.Free done = refl
copied_map map target named slot.Reserved done = absurd (false≢true done)
copied_map map target named (slot.File k d) done = refl
copied_map map target named (slot.Dir k i) done = refl

-- a copy to a number, by whether the first is named and the second is one of the numbers
pub copy_to_shares : (map : Map) (number target : ℕ) (a b : Bool) → is_named (slot_at map number) ≡ a → nat_lt target (length map.slots) ≡ b → is_copied (copyto_outcome map (slot_at map number) target).answer ≡ true → (slot_at (copyto_outcome map (slot_at map number) target).map target ≡ slot_at map number) × (slot_at (copyto_outcome map (slot_at map number) target).map number ≡ slot_at map number)
copy_to_shares map number target false b e f done = absurd (false≢true (ap (λ (x : Bool). is_copied (cond (x && nat_lt target (length map.slots)) (copyto_outcome_over map target (slot_at map number) (slot_at map target)) (outcome_of map (fd_answer.Fault Ebadf))).answer) (sym e) ∙ done))
copy_to_shares map number target true false e f done = absurd (false≢true (ap (λ (x : Bool). is_copied (cond x (copyto_outcome_over map target (slot_at map number) (slot_at map target)) (outcome_of map (fd_answer.Fault Ebadf))).answer) (sym neither) ∙ done)) where
  neither : (is_named (slot_at map number) && nat_lt target (length map.slots)) ≡ false
  neither = ap (λ (x : Bool). x && nat_lt target (length map.slots)) e ∙ f
copy_to_shares map number target true true e f done = (at target (λ ne. absurd (ne refl)), at number (λ ne. get_or-set_other map.slots target number named slot.Free ne ∙ sym (slot_is map number))) where
  named : Slot
  named = slot_at map number

  both : (is_named (slot_at map number) && nat_lt target (length map.slots)) ≡ true
  both = ap (λ (x : Bool). x && nat_lt target (length map.slots)) e ∙ f

  over : copyto_outcome map (slot_at map number) target ≡ copyto_outcome_over map target (slot_at map number) (slot_at map target)
  over = ap (λ (x : Bool). cond x (copyto_outcome_over map target (slot_at map number) (slot_at map target)) (outcome_of map (fd_answer.Fault Ebadf))) both

  new : (copyto_outcome map (slot_at map number) target).map ≡ with_slot map target (slot_at map number)
  new = ap (λ (o : DescriptorsOutcome). o.map) over ∙ copied_map map target (slot_at map number) (slot_at map target) (ap (λ (o : DescriptorsOutcome). is_copied o.answer) (sym over) ∙ done)

  at : (n : ℕ) → (n ≢ target → get_or (set map.slots target (slot_at map number)) n slot.Free ≡ slot_at map number) → slot_at (copyto_outcome map (slot_at map number) target).map n ≡ slot_at map number
  at n other = slot_is (copyto_outcome map (slot_at map number) target).map n ∙ ap (λ (m : Map). get_or m.slots n slot.Free) new ∙ elim (cases_eq n target) [
    | inl same ↦ ap (λ (k : ℕ). get_or (set map.slots target (slot_at map number)) k slot.Free) same ∙ get_or-set_same map.slots target (slot_at map number) slot.Free (ltb-true target (length map.slots) f)
    | inr ne ↦ other ne
  ]

-- a number names, after one number was set, what that was set to, or what it named before
set_either : (map : List Slot) (place number : ℕ) (new : Slot) → (get_or (set map place new) number slot.Free ≡ new) ⊎ (get_or (set map place new) number slot.Free ≡ get_or map number slot.Free)
set_either [] place number new = inr refl
set_either (s ∷ map) zero zero new = inl refl
set_either (s ∷ map) zero (suc number) new = inr refl
set_either (s ∷ map) (suc place) zero new = inr refl
set_either (s ∷ map) (suc place) (suc number) new = set_either map place number new

abbrev Given : Map → FdOp → Slot → Type 0
Given map o named = is_named named ≡ true → IsAsked o named ⊎ ((before : ℕ) × (slot_at map before ≡ named))

abbrev AreGiven : Map → FdOp → DescriptorsOutcome → Type 0
AreGiven map o outcome = (number : ℕ) → Given map o (slot_at outcome.map number)

stays_given : (map : Map) (o : FdOp) (a : FdAnswer) → AreGiven map o (outcome_of map a)
stays_given map o a number named = inr (number, refl)

set_given : (map : Map) (o : FdOp) (place : ℕ) (new : Slot) (a : FdAnswer) → Given map o new → AreGiven map o (outcome_with map place new a)
set_given map o place new a given number named = elim (set_either map.slots place number new) [
  | inl same ↦
      let is : slot_at (with_slot map place new) number ≡ new = slot_is (with_slot map place new) number ∙ same in
      elim (given (ap is_named (sym is) ∙ named)) [
        | inl asked ↦ inl (subst (IsAsked o) (sym is) asked)
        | inr before ↦ inr (before.0, before.1 ∙ sym is)
      ]
  | inr old ↦ inr (number, slot_is map number ∙ sym old ∙ sym (slot_is (with_slot map place new) number))
]

unnamed_given : (map : Map) (o : FdOp) (new : Slot) → is_named new ≡ false → Given map o new
unnamed_given map o new e named = absurd (false≢true (sym e ∙ named))

named_given : (map : Map) (o : FdOp) (number : ℕ) → Given map o (slot_at map number)
named_given map o number named = inr (number, refl)

chosen : {X : Type 0} (P : X → Type 0) (b : Bool) (x y : X) → P x → P y → P (cond b x y)
chosen P true x y px py = px
chosen P false x y px py = py

placed_given : (map : Map) (o : FdOp) (new : Slot) (place : Option ℕ) → Given map o new → AreGiven map o (place_outcome map new place)
placed_given map o new None given = stays_given map o (fd_answer.Fault Emfile)
placed_given map o new (Some place) given = set_given map o place new (fd_answer.Fd place) given

filled_given : (map : Map) (o : FdOp) (number : ℕ) (new old : Slot) → Given map o new → AreGiven map o (fill_outcome map number new old)
filled_given map o number new old given = chosen (AreGiven map o) (is_reserved old) (outcome_with map number new fd_answer.Done) (outcome_of map fd_answer.Done) (set_given map o number new fd_answer.Done given) (stays_given map o fd_answer.Done)

over_given : (map : Map) (o : FdOp) (target : ℕ) (new old : Slot) → Given map o new → AreGiven map o (copyto_outcome_over map target new old)
over_given map o target new slot.Free given = set_given map o target new (fd_answer.Fd target) given
over_given map o target new slot.Reserved given = stays_given map o (fd_answer.Fault Ebusy)
over_given map o target new (slot.File k d) given = λ number. set_given map o target new (fd_answer.Fd target) given number
over_given map o target new (slot.Dir k i) given = set_given map o target new (fd_answer.Fd target) given

taken_given : (map : Map) (o : FdOp) (number : ℕ) (old : Slot) → AreGiven map o (take_outcome map number old)
taken_given map o number slot.Free = stays_given map o (fd_answer.Fault Ebadf)
taken_given map o number slot.Reserved = stays_given map o (fd_answer.Fault Ebadf)
taken_given map o number (slot.File k d) = λ n. set_given map o number slot.Free fd_answer.Done (unnamed_given map o slot.Free refl) n
taken_given map o number (slot.Dir k i) = set_given map o number slot.Free fd_answer.Done (unnamed_given map o slot.Free refl)

given : (map : Map) (o : FdOp) → AreGiven map o (dstep map o)
given map op.Reserve = placed_given map op.Reserve slot.Reserved (lowest_free map) (unnamed_given map op.Reserve slot.Reserved refl)
given map (op.FillFile n k d) = filled_given map (op.FillFile n k d) n (slot.File k d) (slot_at map n) (λ named. inl refl)
given map (op.FillDir n k i) = filled_given map (op.FillDir n k i) n (slot.Dir k i) (slot_at map n) (λ named. inl refl)
given map (op.Drop n) = filled_given map (op.Drop n) n slot.Free (slot_at map n) (unnamed_given map (op.Drop n) slot.Free refl)
given map (op.Look n) = stays_given map (op.Look n) (look_answer (slot_at map n))
given map (op.Copy n) = chosen (AreGiven map (op.Copy n)) (is_named (slot_at map n)) (place_outcome map (slot_at map n) (lowest_free map)) (outcome_of map (fd_answer.Fault Ebadf)) (placed_given map (op.Copy n) (slot_at map n) (lowest_free map) (named_given map (op.Copy n) n)) (stays_given map (op.Copy n) (fd_answer.Fault Ebadf))
given map (op.Copyto n m) =
    chosen (AreGiven map (op.Copyto n m)) (is_named (slot_at map n) && nat_lt m (length map.slots)) (copyto_outcome_over map m (slot_at map n) (slot_at map m)) (outcome_of map (fd_answer.Fault Ebadf)) (over_given map (op.Copyto n m) m (slot_at map n) (slot_at map m) (named_given map (op.Copyto n m) n)) (stays_given map (op.Copyto n m) (fd_answer.Fault Ebadf))
given map (op.Take n) = taken_given map (op.Take n) n (slot_at map n)
given map op.Cwd = stays_given map op.Cwd (fd_answer.Dir map.current.backend map.current.dir)
given map (op.Setcwd k i) = λ number named. inr (number, refl)

pub names_are_given : NamesAreGiven
names_are_given map o number = given map o number

-- only the slots of the map have changed
placed_current : (map : Map) (new : Slot) (place : Option ℕ) → (place_outcome map new place).map.current ≡ map.current
placed_current map new None = refl
placed_current map new (Some place) = refl

filled_current : (map : Map) (number : ℕ) (new : Slot) (reserved : Bool) → (cond reserved (outcome_with map number new fd_answer.Done) (outcome_of map fd_answer.Done)).map.current ≡ map.current
filled_current map number new true = refl
filled_current map number new false = refl

copied_current : (map : Map) (named : Slot) (is : Bool) → (cond is (place_outcome map named (lowest_free map)) (outcome_of map (fd_answer.Fault Ebadf))).map.current ≡ map.current
copied_current map named true = placed_current map named (lowest_free map)
copied_current map named false = refl

over_current : (map : Map) (number : ℕ) (new old : Slot) → (copyto_outcome_over map number new old).map.current ≡ map.current
over_current map number new slot.Free = refl
over_current map number new slot.Reserved = refl
over_current map number new (slot.File k d) = refl
over_current map number new (slot.Dir k i) = refl

copied_to_current : (map : Map) (named : Slot) (number : ℕ) (is : Bool) → (cond is (copyto_outcome_over map number named (slot_at map number)) (outcome_of map (fd_answer.Fault Ebadf))).map.current ≡ map.current
copied_to_current map named number true = over_current map number named (slot_at map number)
copied_to_current map named number false = refl

taken_current : (map : Map) (number : ℕ) (old : Slot) → (take_outcome map number old).map.current ≡ map.current
taken_current map number slot.Free = refl
taken_current map number slot.Reserved = refl
taken_current map number (slot.File k d) = refl
taken_current map number (slot.Dir k i) = refl

pub current_kept : (map : Map) (o : FdOp) → is_setcwd o ≡ false → (dstep map o).map.current ≡ map.current
current_kept map op.Reserve other = placed_current map slot.Reserved (lowest_free map)
current_kept map (op.FillFile n k d) other = filled_current map n (slot.File k d) (is_reserved (slot_at map n))
current_kept map (op.FillDir n k i) other = filled_current map n (slot.Dir k i) (is_reserved (slot_at map n))
current_kept map (op.Drop n) other = filled_current map n slot.Free (is_reserved (slot_at map n))
current_kept map (op.Look n) other = refl
current_kept map (op.Copy n) other = copied_current map (slot_at map n) (is_named (slot_at map n))
current_kept map (op.Copyto n m) other = copied_to_current map (slot_at map n) m (is_named (slot_at map n) && nat_lt m (length map.slots))
current_kept map (op.Take n) other = taken_current map n (slot_at map n)
current_kept map op.Cwd other = refl
current_kept map (op.Setcwd k i) other = cc

pub current_is_set_last : CurrentIsSetLast
current_is_set_last = record {
  set = λ map backend id. refl;
  kept = λ map o other. ap (λ (c : CurrentDir). fd_answer.Dir c.backend c.dir) (current_kept map o other);
  numbers = λ map backend id number. refl;
}
