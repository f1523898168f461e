-- A plan none of whose steps is on the current directory neither sees nor changes it.
use Rattle.std.proofs.Common.{◌≡◌, ℕ, ◌&&◌, zero, suc, Bool, true, false, if◌then◌else◌, List, [], ◌∷◌, length, Option, None, Some, Result, Ok, Err, refl, sym, ap, ◌∙◌}
use Rattle.std.specs.Prelude.{nat_lt}
use Rattle.wf_core.specs.declared.errno.Errno.{Errno}
use Rattle.wf_core.specs.declared.errno.Errno.TheVariants.{Ebadf}
use Rattle.file_store.specs.declared.descriptor_operation.CurrentDir.{CurrentDir}
use Rattle.file_store.specs.declared.descriptor_operation.Slot.{Slot}
use Rattle.file_store.specs.declared.descriptor_operation.Slot.TheVariants as slot
use Rattle.file_store.specs.declared.descriptor_operation.FdOp.{FdOp}
use Rattle.file_store.specs.declared.descriptor_operation.FdOp.TheVariants as fd
use Rattle.file_store.specs.declared.descriptor_operation.FdAnswer.TheVariants as fd_answer
use Rattle.file_store.specs.DescriptorMap.{Map, DescriptorsOutcome, copyto_outcome_over, dstep, fill_outcome, is_named, lowest_free, outcome_of, place_outcome, slot_at, take_outcome}
use Rattle.path_walk.specs.declared.part.Part.{Part}
use Rattle.path_walk.specs.declared.part.Part.TheVariants.{Here, Up, Down, TooLong}
use Rattle.path_walk.specs.declared.route.Manner.{Manner}
use Rattle.path_walk.specs.declared.route.Spot.{Spot}
use Rattle.path_walk.specs.declared.route.End.{End}
use Rattle.path_walk.specs.declared.step.CellId.{CellId}
use Rattle.path_walk.specs.declared.step.CellId.TheVariants.{Names as NamesCell, Files as FilesCell, Descriptors as DescriptorsCell}
use Rattle.path_walk.specs.declared.step.StoreOp.{StoreOp}
use Rattle.path_walk.specs.declared.step.StoreOp.TheVariants.{Names as NamesOp, Files as FilesOp, Descriptors as DescriptorsOp}
use Rattle.path_walk.specs.declared.step.StoreAnswer.TheVariants.{Descriptors as DescriptorsAnswer}
use Rattle.path_walk.specs.declared.step.StepAnswer.{StepAnswer}
use Rattle.path_walk.specs.declared.step.StepAnswer.TheVariants.{Answered}
use Rattle.path_walk.specs.Store.{Store, Stepped, cstep}
use Rattle.path_walk.specs.Programs.{CallOutcome}
use Rattle.path_walk.specs.PathMeaning.{Course, Way, ends, goes, course, end_of_course, entry_in, on_found, parent_from, resolve}
use Rattle.name_store.specs.NameTrees.{dir_at}
use Rattle.path_walk.specs.Store.{names_at}
use Rattle.path_walk.specs.Plans.{Plan, replies, steps, walks, at_once}
use Rattle.call_laws.specs.Entries.{current_spot}
use Rattle.call_laws.specs.StartLaws.{in_directory}

-- Steps.

-- the operation neither tells nor sets the current directory
abbrev pub IsApart : StoreOp → Type 0
IsApart (DescriptorsOp fd.Cwd) = ⊥
IsApart (DescriptorsOp (fd.Setcwd backend id)) = ⊥
IsApart op = Unit {0}

module _ (map : Map) (current : CurrentDir) where
  abbrev moved : Map
  moved = record map { current = current }

  -- the same of the other map, but for the current directory
  abbrev Alike : DescriptorsOutcome → DescriptorsOutcome → Type 0
  Alike there here = there ≡ record here { map = record here.map { current = current } }

  place_alike : (new : Slot) (free : Option ℕ) → Alike (place_outcome moved new free) (place_outcome map new free)
  place_alike new None = refl
  place_alike new (Some number) = refl

  fill_alike : (number : ℕ) (new old : Slot) → Alike (fill_outcome moved number new old) (fill_outcome map number new old)
  fill_alike number new slot.Free = refl
  fill_alike number new slot.Reserved = refl
  fill_alike number new (slot.File backend description) = refl
  fill_alike number new (slot.Dir backend id) = refl

  copy_alike : (named : Slot) (is : Bool) (free : Option ℕ) → Alike (if is then place_outcome moved named free else outcome_of moved (fd_answer.Fault Ebadf)) (if is then place_outcome map named free else outcome_of map (fd_answer.Fault Ebadf))
  copy_alike named true free = place_alike named free
  copy_alike named false free = refl

  over_alike : (number : ℕ) (new old : Slot) → Alike (copyto_outcome_over moved number new old) (copyto_outcome_over map number new old)
  over_alike number new slot.Free = refl
  over_alike number new slot.Reserved = refl
  over_alike number new (slot.File backend description) = refl
  over_alike number new (slot.Dir backend id) = refl

  copyto_alike : (number : ℕ) (new old : Slot) (is : Bool) → Alike (if is then copyto_outcome_over moved number new old else outcome_of moved (fd_answer.Fault Ebadf)) (if is then copyto_outcome_over map number new old else outcome_of map (fd_answer.Fault Ebadf))
  copyto_alike number new old true = over_alike number new old
  copyto_alike number new old false = refl

  take_alike : (number : ℕ) (old : Slot) → Alike (take_outcome moved number old) (take_outcome map number old)
  take_alike number slot.Free = refl
  take_alike number slot.Reserved = refl
  take_alike number (slot.File backend description) = refl
  take_alike number (slot.Dir backend id) = refl

  numbers_alike : (op : FdOp) → IsApart (DescriptorsOp op) → Alike (dstep moved op) (dstep map op)
  numbers_alike fd.Reserve h = place_alike slot.Reserved (lowest_free map)
  numbers_alike (fd.FillFile number backend description) h = fill_alike number (slot.File backend description) (slot_at map number)
  numbers_alike (fd.FillDir number backend id) h = fill_alike number (slot.Dir backend id) (slot_at map number)
  numbers_alike (fd.Drop number) h = fill_alike number slot.Free (slot_at map number)
  numbers_alike (fd.Look number) h = refl
  numbers_alike (fd.Copy number) h = copy_alike (slot_at map number) (is_named (slot_at map number)) (lowest_free map)
  numbers_alike (fd.Copyto number target) h = copyto_alike target (slot_at map number) (slot_at map target) (is_named (slot_at map number) && nat_lt target (length map.slots))
  numbers_alike (fd.Take number) h = take_alike number (slot_at map number)
  numbers_alike fd.Cwd h = absurd h
  numbers_alike (fd.Setcwd backend id) h = absurd h

steps_alike : (spot : Spot) (store : Store) (cell : CellId) (op : StoreOp) → IsApart op → cstep (in_directory spot store) cell op ≡ record { store = in_directory spot (cstep store cell op).store; answer = (cstep store cell op).answer }
steps_alike spot store (NamesCell backend) (NamesOp op) h = refl
steps_alike spot store (NamesCell backend) (FilesOp op) h = refl
steps_alike spot store (NamesCell backend) (DescriptorsOp op) h = refl
steps_alike spot store (FilesCell backend group) (NamesOp op) h = refl
steps_alike spot store (FilesCell backend group) (FilesOp op) h = refl
steps_alike spot store (FilesCell backend group) (DescriptorsOp op) h = refl
steps_alike spot store DescriptorsCell (NamesOp op) h = refl
steps_alike spot store DescriptorsCell (FilesOp op) h = refl
steps_alike spot store DescriptorsCell (DescriptorsOp op) h =
    ap (λ (o : DescriptorsOutcome). let s : Stepped = record { store = record store { descriptors = o.map }; answer = DescriptorsAnswer o.answer } in s)
    (numbers_alike store.descriptors (in_directory spot store).descriptors.current op h)

-- Walks.

found_alike : {A : Type 0} (found : Result A Errno) (first second : A → Result End Errno) → ((x : A) → first x ≡ second x) → on_found found first ≡ on_found found second
found_alike (Ok x) first second each = each x
found_alike (Err error) first second each = refl

course_alike : (c : Course) (first second : Way → Result End Errno) → ((w : Way) → first w ≡ second w) → end_of_course c first ≡ end_of_course c second
course_alike (ends end) first second each = refl
course_alike (goes w) first second each = each w

-- a walk that has started does not see the descriptors
pub walks_alike : (map : Map) (store : Store) (names : ℕ) (parts : List Part) (manner : Manner) (slash : Bool) (links : ℕ) (here : Spot) → resolve (record store { descriptors = map }) names parts manner slash links here ≡ resolve store names parts manner slash links here
walks_alike map store names [] manner slash links here = refl
walks_alike map store names (Here ∷ rest) manner slash links here = walks_alike map store names rest manner slash links here
walks_alike map store names (TooLong ∷ rest) manner slash links here = refl
walks_alike map store zero (Up ∷ rest) manner slash links here = refl
walks_alike map store (suc names) (Up ∷ rest) manner slash links here =
    found_alike (parent_from store here) _ _ (λ there. walks_alike map store names rest manner slash links there)
walks_alike map store zero (Down name ∷ rest) manner slash links here = refl
walks_alike map store (suc names) (Down name ∷ rest) manner slash links here =
    found_alike (entry_in (dir_at (names_at store here.backend) here.directory) name) _ _ (λ node.
    course_alike (course manner node rest slash links here) _ _ (λ w. walks_alike map store names w.rest manner w.slash w.links w.spot))

-- Plans.

-- no step is on the current directory
abbrev pub Apart : Plan → Type 0
Apart (replies given) = Unit {0}
Apart (steps cell op next) = IsApart op × ((given : StepAnswer) → Apart (next given))
Apart (walks from route next) = (end : Result End Errno) → Apart (next end)

-- what came to be, with that current directory
abbrev pub outcome_in : Spot → CallOutcome → CallOutcome
outcome_in spot outcome = record outcome { store = in_directory spot outcome.store }

-- in another directory such a plan comes to the same
pub plans_alike : (spot : Spot) (store : Store) (p : Plan) → Apart p → at_once (in_directory spot store) p ≡ outcome_in spot (at_once store p)
plans_alike spot store (replies given) h = refl
plans_alike spot store (steps cell op next) h =
    ap (λ (s : Stepped). at_once s.store (next (Answered s.answer))) (steps_alike spot store cell op h.0)
    ∙ plans_alike spot (cstep store cell op).store (next (Answered (cstep store cell op).answer)) (h.1 (Answered (cstep store cell op).answer))
plans_alike spot store (walks from route next) h =
    let end : Result End Errno = resolve store from.names route.parts route.manner route.slash from.links from.spot in
    ap (λ (e : Result End Errno). at_once (in_directory spot store) (next e)) (walks_alike (in_directory spot store).descriptors store from.names route.parts route.manner route.slash from.links from.spot)
    ∙ plans_alike spot store (next end) (h end)

-- so it comes to what it comes to there, in the own directory again
pub plans_apart : (spot : Spot) (store : Store) (p : Plan) → Apart p → at_once store p ≡ outcome_in (current_spot store) (at_once (in_directory spot store) p)
plans_apart spot store p h =
    plans_alike (current_spot store) store p h
    ∙ sym (ap (outcome_in (current_spot store)) (plans_alike spot store p h))
