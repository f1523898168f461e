-- Stores stay tidy along whole calls.
use Rattle.file_store.specs.declared.descriptor_operation.FdOp.TheVariants as fd
use Rattle.wf_core.specs.declared.errno.Errno.{Errno}
use Rattle.path_walk.specs.declared.route.End.{End}
use Rattle.path_walk.specs.declared.route.Spot.{Spot}
use Rattle.path_walk.specs.declared.route.Route.{Route}
use Rattle.path_walk.specs.declared.call.Base.{Base}
use Rattle.path_walk.specs.declared.call.Base.TheVariants.{Cwd, Fd}
use Rattle.std.proofs.Common.{◌≡◌, ◌≢◌, ℕ, ◌%◌, ◌&&◌, zero, suc, Bool, true, false, if◌then◌else◌, List, [], ◌∷◌, map, replicate, Option, None, Some, is_some, slice_get, unwrap_or, refl, sym, ap, subst, ◌∙◌, Result, Ok, Err}
use Rattle.std.proofs.lemmas.Bool.{false≢true}
use Rattle.wf_core.specs.Limits.{group_count, open_max, path_names_max, symloop_max}
use Rattle.wf_core.specs.declared.errno.Errno.TheVariants.{Ebadf}
use Rattle.name_store.specs.NameTrees.{nstep}
use Rattle.file_store.specs.declared.descriptor_operation.Slot.{Slot}
use Rattle.file_store.specs.declared.descriptor_operation.Slot.TheVariants as slot
use Rattle.file_store.specs.declared.descriptor_operation.FdAnswer.TheVariants as fd_answer
use Rattle.file_store.specs.DescriptorMap.{with_slot, Map, copyto_outcome_over, is_description_open, is_named, look_answer, lowest_free, opening, outcome_of, place_outcome, slot_at, take_outcome, dstep}
use Rattle.file_store.specs.declared.file_operation.FileOp.TheVariants.{Sizeof, Unlinked}
use Rattle.file_store.specs.FileGroups.{description_at, opening as group_opening}
use Rattle.path_walk.specs.declared.descriptor_call.DataCall.{DataCall}
use Rattle.path_walk.specs.declared.descriptor_call.DataCall.TheVariants as on_file
use Rattle.path_walk.specs.declared.step.StepAnswer.{StepAnswer}
use Rattle.path_walk.specs.declared.step.StoreAnswer.TheVariants.{Names as NamesAnswer, Descriptors as DescriptorsAnswer}
use Rattle.path_walk.specs.declared.step.StepAnswer.TheVariants.{Answered}
use Rattle.path_walk.specs.declared.call.Call.{Call}
use Rattle.path_walk.specs.Store.{Store, group_at, names_at, with_names, opening_backend}
use Rattle.path_walk.specs.PathMeaning.{resolve, root_of}
use Rattle.path_walk.specs.Plans.{Plan, at_once, from_base, spot_in, walks_in}
use Rattle.path_walk.specs.DescriptorCalls.{op_of_data, data_step_plan, enters}
use Rattle.path_walk.specs.Calls.{plan_after, unlinked_by}
use Rattle.path_walk.specs.Posix.{posix}
use Rattle.path_walk.proofs.Plans.{Holds, any_end, each_call}
use Rattle.call_laws.specs.RunLaws.{IsSoundStore, IsTidy, RunsAreTidy, opening_store, store_after}
use Rattle.call_laws.proofs.SharingLemmas.{after_numbers}
use Rattle.call_laws.proofs.OpenErrors.{lowest_is_free}
use Rattle.call_laws.proofs.SoundStores.{call_stays_sound, opening_is_sound}
use Rattle.call_laws.proofs.TidyLemmas.{IsUse, number_of_open, tidy_group, tidy_names, tidy_slot, use_keeps}
use Rattle.call_laws.proofs.TidyChanges.{tidy_released}
use Rattle.call_laws.proofs.TidyOpens.{opens_leave_tidy}

record KeepsTidy (p : Plan) : Type 0 where
  keeps : (store : Store) → IsSoundStore store → IsTidy store → IsTidy (at_once store p).store

-- The file of a descriptor.

is_use : (purpose : DataCall) (d : ℕ) → IsUse (op_of_data purpose d)
is_use (on_file.Read count) d = tt
is_use (on_file.Pread count offset) d = tt
is_use (on_file.Write bytes) d = tt
is_use (on_file.Pwrite bytes offset) d = tt
is_use (on_file.Seek offset whence) d = tt
is_use (on_file.Ftruncate size) d = tt
is_use on_file.Fstat d = tt

use_tidy : (store : Store) (purpose : DataCall) (named : Slot) → IsTidy store → IsTidy (at_once store (data_step_plan purpose (Answered (DescriptorsAnswer (look_answer named))))).store
use_tidy store purpose slot.Free tidy = tidy
use_tidy store purpose slot.Reserved tidy = tidy
use_tidy store purpose (slot.Dir b id) tidy = tidy
use_tidy store purpose (slot.File b d) tidy = tidy_group store b (d % group_count) _ (use_keeps (group_at store b (d % group_count)) (op_of_data purpose d) (is_use purpose d)) tidy

-- Names.

after_tidy : (store : Store) (backend : ℕ) (told : StepAnswer) (lost : Option ℕ) → IsTidy store → IsTidy (at_once store (plan_after backend told lost)).store
after_tidy store backend told None tidy = tidy
after_tidy store backend told (Some file) tidy = tidy_group store backend (file % group_count) _ (use_keeps (group_at store backend (file % group_count)) (Unlinked file) tt) tidy

-- Numbers.

module _ (store : Store) (sound : IsSoundStore store) (tidy : IsTidy store) where
  take_last : (number b d : ℕ) (still : Bool) → slot_at store.descriptors number ≡ slot.File b d → is_description_open b d (with_slot store.descriptors number slot.Free) ≡ still → IsTidy (after_numbers store (record { map = with_slot store.descriptors number slot.Free; answer = if still then fd_answer.Done else fd_answer.Last b d })).store
  take_last number b d true named is = tidy_slot store number slot.Free (λ e. cc) (λ x y e. cc) (λ x y e. let same : slot.File b d ≡ slot.File x y = sym named ∙ e in subst (λ (s : Slot). (n : ℕ) × (slot_at (with_slot store.descriptors number slot.Free) n ≡ s)) same (number_of_open b d (with_slot store.descriptors number slot.Free) is)) tidy
  take_last number b d false named is = tidy_released store number slot.Free b d sound tidy named is (λ e. cc) (λ x y e. cc)

  take_tidy : (number : ℕ) (named : Slot) → slot_at store.descriptors number ≡ named → IsTidy (after_numbers store (take_outcome store.descriptors number named)).store
  take_tidy number slot.Free is = tidy
  take_tidy number slot.Reserved is = tidy
  take_tidy number (slot.Dir b id) is = tidy_slot store number slot.Free (λ e. cc) (λ x y e. cc) (λ x y e. let clash : slot.Dir b id ≡ slot.File x y = sym is ∙ e in cc) tidy
  take_tidy number (slot.File b d) is = take_last number b d (is_description_open b d (with_slot store.descriptors number slot.Free)) is refl

  named_unreserved : (named : Slot) → is_named named ≡ true → named ≢ slot.Reserved
  named_unreserved named is e = false≢true (sym (ap is_named e) ∙ is)

  copy_tidy : (number : ℕ) (named : Bool) (free : Option ℕ) → is_named (slot_at store.descriptors number) ≡ named → lowest_free store.descriptors ≡ free → IsTidy (after_numbers store (if named then place_outcome store.descriptors (slot_at store.descriptors number) free else outcome_of store.descriptors (fd_answer.Fault Ebadf))).store
  copy_tidy number true None is lowest = tidy
  copy_tidy number true (Some place) is lowest = tidy_slot store place (slot_at store.descriptors number) (named_unreserved _ is) (λ b d e. tidy.there.named number b d e) (λ b d e. let clash : slot.Free ≡ slot.File b d = sym (ap (λ (found : Option Slot). unwrap_or found slot.Free) (lowest_is_free store.descriptors place lowest)) ∙ e in cc) tidy
  copy_tidy number false free is lowest = tidy

  module _ (number target : ℕ) (is : is_named (slot_at store.descriptors number) ≡ true) where
    abbrev new : Slot
    new = slot_at store.descriptors number

    abbrev map_after : Map
    map_after = with_slot store.descriptors target new

    onto_last : (b d : ℕ) (still : Bool) → slot_at store.descriptors target ≡ slot.File b d → is_description_open b d map_after ≡ still → IsTidy (after_numbers store (record { map = map_after; answer = if still then fd_answer.Fd target else fd_answer.FdLast target b d })).store
    onto_last b d true named open_still = tidy_slot store target new (named_unreserved new is) (λ x y e. tidy.there.named number x y e) (λ x y e. let same : slot.File b d ≡ slot.File x y = sym named ∙ e in subst (λ (s : Slot). (n : ℕ) × (slot_at map_after n ≡ s)) same (number_of_open b d map_after open_still)) tidy
    onto_last b d false named closed = tidy_released store target new b d sound tidy named closed (named_unreserved new is) (λ x y e. tidy.there.named number x y e)

    onto_tidy : (over : Slot) → slot_at store.descriptors target ≡ over → IsTidy (after_numbers store (copyto_outcome_over store.descriptors target new over)).store
    onto_tidy slot.Free at = tidy_slot store target new (named_unreserved new is) (λ x y e. tidy.there.named number x y e) (λ x y e. let clash : slot.Free ≡ slot.File x y = sym at ∙ e in cc) tidy
    onto_tidy slot.Reserved at = tidy
    onto_tidy (slot.Dir b id) at = tidy_slot store target new (named_unreserved new is) (λ x y e. tidy.there.named number x y e) (λ x y e. let clash : slot.Dir b id ≡ slot.File x y = sym at ∙ e in cc) tidy
    onto_tidy (slot.File b d) at = onto_last b d (is_description_open b d map_after) at refl

  copyto_tidy : (number target : ℕ) (named within : Bool) → is_named (slot_at store.descriptors number) ≡ named → IsTidy (after_numbers store (if named && within then copyto_outcome_over store.descriptors target (slot_at store.descriptors number) (slot_at store.descriptors target) else outcome_of store.descriptors (fd_answer.Fault Ebadf))).store
  copyto_tidy number target true true is = onto_tidy number target is (slot_at store.descriptors target) refl
  copyto_tidy number target true false is = tidy
  copyto_tidy number target false within is = tidy

-- Calls.

abbrev IsKept : ℕ → Plan → Type 0
IsKept count p = KeepsTidy p

from_tidy : (origin : Option Base) (next : Result Spot Errno → Plan) → ((start : Result Spot Errno) → KeepsTidy (next start)) → KeepsTidy (from_base origin next)
from_tidy None next each = each (Ok (root_of 0))
from_tidy (Some Cwd) next each = record { keeps = λ store sound tidy. (each (spot_in (Answered (DescriptorsAnswer (dstep store.descriptors fd.Cwd).answer)))).keeps store sound tidy }
from_tidy (Some (Fd number)) next each = record { keeps = λ store sound tidy. (each (spot_in (Answered (DescriptorsAnswer (dstep store.descriptors (fd.Look number)).answer)))).keeps store sound tidy }

walks_in_tidy : (route : Route) (next : Result End Errno → Plan) → ((end : Result End Errno) → KeepsTidy (next end)) → (start : Result Spot Errno) → KeepsTidy (walks_in route next start)
walks_in_tidy route next each (Ok spot) = record { keeps = λ store sound tidy. (each (resolve store path_names_max route.parts route.manner route.slash symloop_max spot)).keeps store sound tidy }
walks_in_tidy route next each (Err error) = each (Err error)

-- no number changes
enters_tidy : (start : Result Spot Errno) → KeepsTidy (enters start)
enters_tidy (Ok there) = record { keeps = λ store sound tidy. record { none_reserved = tidy.none_reserved; there = record { named = tidy.there.named }; numbered = tidy.numbered } }
enters_tidy (Err error) = record { keeps = λ store sound tidy. tidy }

kept_holds : Holds IsKept (λ backend. Unit {0})
kept_holds = record {
  over = λ count given. record { keeps = λ store sound tidy. tidy };
  size = λ count backend file so. record { keeps = λ store sound tidy. tidy_group store backend (file % group_count) _ (use_keeps (group_at store backend (file % group_count)) (Sizeof file) tt) tidy };
  last = λ count backend op so. record { keeps = λ store sound tidy. let outcome = nstep (names_at store backend) op in after_tidy (with_names store backend outcome.tree) backend (Answered (NamesAnswer outcome.answer)) (unlinked_by (Answered (NamesAnswer outcome.answer))) (tidy_names store backend outcome.tree tidy) };
  uses_files = λ number purpose. record { keeps = λ store sound tidy. use_tidy store purpose (slot_at store.descriptors number) tidy };
  takes_numbers = λ number. record { keeps = λ store sound tidy. take_tidy store sound tidy number (slot_at store.descriptors number) refl };
  copies_numbers = λ number. record { keeps = λ store sound tidy. copy_tidy store sound tidy number (is_named (slot_at store.descriptors number)) (lowest_free store.descriptors) refl refl };
  copies_onto = λ number target. record { keeps = λ store sound tidy. copyto_tidy store sound tidy number target (is_named (slot_at store.descriptors number)) _ refl };
  opens_paths = λ at flags. record { keeps = λ store sound tidy. opens_leave_tidy store sound tidy at flags };
  along = λ count origin route next each. from_tidy origin (walks_in route next) (walks_in_tidy route next (λ end. each end (any_end end)));
  sets = λ count there so. enters_tidy (Ok there);
  enters_numbers = λ number. from_tidy (Some (Fd number)) enters enters_tidy;
}

pub call_stays_tidy : (version : ℕ) (store : Store) (c : Call) → IsSoundStore store → IsTidy store → IsTidy (posix version store c).store
call_stays_tidy version store c sound tidy = (each_call IsKept (λ backend. Unit {0}) kept_holds version c).keeps store sound tidy

-- Runs.

tidy_from : (version : ℕ) (calls : List Call) (store : Store) → IsSoundStore store → IsTidy store → IsTidy (store_after version store calls)
tidy_from version [] store sound tidy = tidy
tidy_from version (c ∷ calls) store sound tidy = tidy_from version calls (posix version store c).store (call_stays_sound version store c sound) (call_stays_tidy version store c sound tidy)

-- at first each number is free, and no description is there
all_free : (count n : ℕ) → unwrap_or (slice_get (replicate count slot.Free) n) slot.Free ≡ slot.Free
all_free zero n = refl
all_free (suc count) zero = refl
all_free (suc count) (suc n) = all_free count n

nothing_in : (g d : ℕ) → is_some (description_at (unwrap_or (slice_get (group_opening 0 ∷ group_opening 1 ∷ group_opening 2 ∷ group_opening 3 ∷ []) g) (group_opening g)) d) ≡ false
nothing_in zero d = refl
nothing_in (suc zero) d = refl
nothing_in (suc (suc zero)) d = refl
nothing_in (suc (suc (suc zero))) d = refl
nothing_in (suc (suc (suc (suc g)))) d = refl

nothing_at : (mounts : List (List (List ℕ × ℕ))) (descriptors : Map) (b g d : ℕ) → is_some (description_at (group_at (record { backends = map opening_backend mounts; descriptors = descriptors }) b g) d) ≡ false
nothing_at [] descriptors b g d = refl
nothing_at (one ∷ mounts) descriptors zero g d = nothing_in g d
nothing_at (one ∷ mounts) descriptors (suc b) g d = nothing_at mounts descriptors b g d

opening_is_tidy : (mounts : List (List (List ℕ × ℕ))) → IsTidy (opening_store mounts)
opening_is_tidy mounts = record {
  none_reserved = λ n e. let clash : slot.Free ≡ slot.Reserved = sym (all_free open_max n) ∙ e in cc;
  there = record { named = λ n b d e. let clash : slot.Free ≡ slot.File b d = sym (all_free open_max n) ∙ e in cc };
  numbered = λ b d h. absurd (false≢true (sym (nothing_at mounts opening b (d % group_count) d) ∙ h));
}

pub runs_are_tidy : RunsAreTidy
runs_are_tidy version mounts calls = tidy_from version calls (opening_store mounts) (opening_is_sound mounts) (opening_is_tidy mounts)
