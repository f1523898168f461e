-- From some number on all are free.
use Rattle.std.proofs.Common.{◌≡◌, ℕ, ◌+◌, ◌≤◌, ◌<◌, max, zero, suc, Bool, true, false, ◌&&◌, ◌||◌, List, [], ◌∷◌, take, drop, replicate, slice_set, refl, sym, ap, ◌∙◌, arith}
use Rattle.std.specs.List.{list_all, list_any}
use Rattle.file_store.specs.declared.descriptor_operation.Slot.{Slot}
use Rattle.file_store.specs.declared.descriptor_operation.Slot.TheVariants as slot
use Rattle.file_store.specs.DescriptorMap.{is_free, is_number_of}

both : (a b : Bool) → a && b ≡ true → (a ≡ true) × (b ≡ true)
both true b h = (refl, h)
both false b h = cc

and : (a b : Bool) → a ≡ true → b ≡ true → a && b ≡ true
and a b h k = cc

all_free_on : (map : List Slot) → list_all is_free map ≡ true → (from : ℕ) → list_all is_free (drop from map) ≡ true
all_free_on [] h zero = refl
all_free_on [] h (suc from) = refl
all_free_on (first ∷ map) h zero = h
all_free_on (first ∷ map) h (suc from) = all_free_on map (both (is_free first) (list_all is_free map) h).1 from

-- further on they are, too
free_further : (map : List Slot) (from further : ℕ) → from ≤ further → list_all is_free (drop from map) ≡ true → list_all is_free (drop further map) ≡ true
free_further map zero further le h = all_free_on map h further
free_further map (suc from) zero le h = absurd (omega (arith, le))
free_further [] (suc from) (suc further) le h = refl
free_further (first ∷ map) (suc from) (suc further) le h = free_further map from further (omega (arith, le)) h

-- where a number becomes free
pub free_after_free : (map : List Slot) (from number : ℕ) (new : Slot) → is_free new ≡ true → list_all is_free (drop from map) ≡ true → list_all is_free (drop from (slice_set map number new)) ≡ true
free_after_free [] zero number new is h = refl
free_after_free [] (suc from) number new is h = refl
free_after_free (first ∷ map) zero zero new is h = and (is_free new) (list_all is_free map) is (both (is_free first) (list_all is_free map) h).1
free_after_free (first ∷ map) zero (suc number) new is h =
    let parts = both (is_free first) (list_all is_free map) h in
    and (is_free first) (list_all is_free (slice_set map number new)) parts.0 (free_after_free map zero number new is parts.1)
free_after_free (first ∷ map) (suc from) zero new is h = h
free_after_free (first ∷ map) (suc from) (suc number) new is h = free_after_free map from number new is h

-- where one before them becomes another
free_behind : (map : List Slot) (from further number : ℕ) (new : Slot) → from ≤ further → number < further → list_all is_free (drop from map) ≡ true → list_all is_free (drop further (slice_set map number new)) ≡ true
free_behind map from zero number new le lt h = absurd (omega (arith, lt))
free_behind [] from (suc further) number new le lt h = refl
free_behind (first ∷ map) from (suc further) zero new le lt h = free_further (first ∷ map) from (suc further) le h
free_behind (first ∷ map) zero (suc further) (suc number) new le lt h = free_behind map zero further number new (omega arith) (omega (arith, lt)) (both (is_free first) (list_all is_free map) h).1
free_behind (first ∷ map) (suc from) (suc further) (suc number) new le lt h = free_behind map from further number new (omega (arith, le)) (omega (arith, lt)) h

pub free_after_use : (map : List Slot) (from number end : ℕ) (new : Slot) → end ≡ max from (number + 1) → list_all is_free (drop from map) ≡ true → list_all is_free (drop end (slice_set map number new)) ≡ true
free_after_use map from number end new is h = free_behind map from end number new (omega (arith, is)) (omega (arith, is)) h

pub all_free_at_first : (count : ℕ) → list_all is_free (replicate count slot.Free) ≡ true
all_free_at_first zero = refl
all_free_at_first (suc count) = all_free_at_first count

-- a description has its numbers before them
not_named : (backend description : ℕ) (one : Slot) → is_free one ≡ true → is_number_of backend description one ≡ false
not_named backend description slot.Free h = refl
not_named backend description slot.Reserved h = cc
not_named backend description (slot.File other id) h = cc
not_named backend description (slot.Dir other id) h = cc

none_named : (backend description : ℕ) (map : List Slot) → list_all is_free map ≡ true → list_any (is_number_of backend description) map ≡ false
none_named backend description [] h = refl
none_named backend description (first ∷ map) h =
    let parts = both (is_free first) (list_all is_free map) h in
    let here = not_named backend description first parts.0 in
    let there = none_named backend description map parts.1 in
    cc

pub open_in_front : (backend description : ℕ) (map : List Slot) (from : ℕ) → list_all is_free (drop from map) ≡ true → list_any (is_number_of backend description) (take from map) ≡ list_any (is_number_of backend description) map
open_in_front backend description map zero h = sym (none_named backend description map h)
open_in_front backend description [] (suc from) h = refl
open_in_front backend description (first ∷ map) (suc from) h = ap (λ (b : Bool). is_number_of backend description first || b) (open_in_front backend description map from h)
