-- Stores stay tidy where a description ends with its last number, and where a new one gets a number.
use Rattle.std.proofs.Common.{arith, ◌≡◌, ◌≢◌, ◌⊎◌, inl, inr, ℕ, ◌%◌, true, false, Option, None, Some, is_some, slice_get, unwrap_or, refl, sym, ap, ◌∙◌}
use Rattle.std.proofs.lemmas.Bool.{false≢true}
use Rattle.wf_core.specs.Limits.{group_count}
use Rattle.name_store.proofs.Changes.{same_id}
use Rattle.file_store.specs.declared.descriptor_operation.Slot.{Slot}
use Rattle.file_store.specs.declared.descriptor_operation.Slot.TheVariants as slot
use Rattle.file_store.specs.DescriptorMap.{with_slot, Map, is_description_open, slot_at}
use Rattle.file_store.specs.declared.file.Description.{Description}
use Rattle.file_store.specs.declared.file_operation.FileOp.TheVariants as op
use Rattle.file_store.specs.FileGroups.{Group, description_at, fstep, release_outcome}
use Rattle.file_store.specs.Sound.{AreIdsOf, IsSound as IsSoundGroup}
use Rattle.file_store.proofs.StepLaws.{offsets_are_apart}
use Rattle.file_store.proofs.TableChanges.{removed_here}
use Rattle.path_walk.specs.Store.{Store, backend_at, group_at, with_group}
use Rattle.call_laws.specs.OpenLaws.{with_opened}
use Rattle.call_laws.specs.RunLaws.{IsSoundStore, IsTidy}
use Rattle.call_laws.proofs.GroupLemmas.{backend_of, group_here, group_set}
use Rattle.call_laws.proofs.SoundStores.{group_found}
use Rattle.call_laws.proofs.OpenErrors.{set_here}
use Rattle.call_laws.proofs.TidyLemmas.{group_either, is_there, none_of_closed, slot_either, slot_other, store_with_slot}

some_of : {X : Type 0} (x : Option X) → is_some x ≡ true → (w : X) × (x ≡ Some w)
some_of None h = absurd (false≢true h)
some_of (Some w) h = (w, refl)

-- the same id of the same backend, or not
same_of : (b b' d d' : ℕ) → ((b' ≡ b) × (d' ≡ d)) ⊎ (b' ≡ b → d' ≡ d → ⊥)
same_of b b' d d' = elim (same_id b' b) as (λ _. ((b' ≡ b) × (d' ≡ d)) ⊎ (b' ≡ b → d' ≡ d → ⊥)) [
  | inl e ↦ elim (same_id d' d) as (λ _. ((b' ≡ b) × (d' ≡ d)) ⊎ (b' ≡ b → d' ≡ d → ⊥)) [ inl f ↦ inl (e, f) | inr ne ↦ inr (λ p q. ne q) ]
  | inr ne ↦ inr (λ p q. ne p)
]

abbrev backend_in : Slot → ℕ
backend_in (slot.File b d) = b
backend_in s = 0

abbrev description_in : Slot → ℕ
description_in (slot.File b d) = d
description_in s = 0

number_names : (map : Map) (number : ℕ) (old new : Slot) → slice_get map.slots number ≡ Some old → slot_at (with_slot map number new) number ≡ new
number_names map number old new h = ap (λ (found : Option Slot). unwrap_or found slot.Free) (set_here map.slots number old new h)

-- A description that is released.

released_here : (group : Group) (d number : ℕ) → AreIdsOf number group.descriptions → description_at (fstep group (op.Release d)).group d ≡ None
released_here group d number ids = by_found (description_at group d) refl where
  by_found : (found : Option Description) → description_at group d ≡ found → description_at (release_outcome group d found).group d ≡ None
  by_found None is = is
  by_found (Some description) is = removed_here group.descriptions d number ids

module _ (store : Store) (number : ℕ) (new : Slot) (b d : ℕ) (sound : IsSoundStore store) (tidy : IsTidy store) where
  abbrev place : ℕ
  place = d % group_count

  abbrev group : Group
  group = group_at store b place

  abbrev left : Group
  left = (fstep group (op.Release d)).group

  abbrev map : Map
  map = with_slot store.descriptors number new

  abbrev after : Store
  after = with_group (store_with_slot store number new) b place left

  module _ (named : slot_at store.descriptors number ≡ slot.File b d) (closed : is_description_open b d map ≡ false) where
    was : (w : Description) × (description_at group d ≡ Some w)
    was = some_of (description_at group d) (tidy.there.named number b d named)

    group_is_sound : IsSoundGroup group
    group_is_sound =
        let (old, there) = backend_of store b place d was.0 was.1 in
        (group_found store b place old sound there (omega arith)).1

    gone : is_there after b d ≡ false
    gone = ap (λ (g : Group). is_some (description_at g d)) (group_here (store_with_slot store number new) b place left d was.0 was.1) ∙ ap is_some (released_here group d _ group_is_sound.description_ids)

    stays : (b' d' : ℕ) → (b' ≡ b → d' ≡ d → ⊥) → is_there after b' d' ≡ is_there store b' d'
    stays b' d' apart =
        group_either (store_with_slot store number new) b place left b' (d' % group_count) (λ (g : Group). is_some (description_at g d') ≡ is_there store b' d')
        (λ e f. ap is_some (offsets_are_apart.on group d d' (op.Release d) refl (apart e)) ∙ sym (ap (λ (n : ℕ). is_some (description_at (group_at store n place) d')) e) ∙ sym (ap (λ (n : ℕ). is_some (description_at (group_at store b' n) d')) f)) refl

    not_named : (n b' d' : ℕ) → slot_at map n ≡ slot.File b' d' → b' ≡ b → d' ≡ d → ⊥
    not_named n b' d' is e f = none_of_closed b d map closed n (is ∙ ap (λ (x : ℕ). slot.File x d') e ∙ ap (λ (x : ℕ). slot.File b x) f)

    pub tidy_released : new ≢ slot.Reserved → ((b' d' : ℕ) → new ≡ slot.File b' d' → is_there store b' d' ≡ true) → IsTidy after
    tidy_released unreserved names = record {
      none_reserved = λ n. slot_either store.descriptors number n new (λ (s : Slot). s ≢ slot.Reserved) (λ e. unreserved) (tidy.none_reserved n);
      there = record { named = λ n b' d' is. stays b' d' (not_named n b' d' is) ∙ slot_either store.descriptors number n new (λ (s : Slot). s ≡ slot.File b' d' → is_there store b' d' ≡ true) (λ e. names b' d') (tidy.there.named n b' d') is };
      numbered = λ b' d' h. elim (same_of b b' d d') as (λ _. (n : ℕ) × (slot_at map n ≡ slot.File b' d')) [
        | inl (e, f) ↦ absurd (false≢true (sym gone ∙ sym (ap (λ (x : ℕ). is_there after x d) e) ∙ sym (ap (λ (x : ℕ). is_there after b' x) f) ∙ h))
        | inr apart ↦
            let (n, is) = tidy.numbered b' d' (sym (stays b' d' apart) ∙ h) in
            (n, slot_other store.descriptors number n new (λ e. let both : slot.File b' d' ≡ slot.File b d = sym is ∙ ap (slot_at store.descriptors) e ∙ named in apart (ap backend_in both) (ap description_in both)) ∙ is)
      ];
    }

-- A description that is new.

module _ (store : Store) (b place : ℕ) (new : Group) (number d : ℕ) (tidy : IsTidy store) (free : slice_get store.descriptors.slots number ≡ Some slot.Free) (there : slice_get (backend_at store b).groups place ≡ Some (group_at store b place)) (of_group : d % group_count ≡ place) where
  abbrev opened : Store
  opened = with_opened store b place new number d

  free_here : slot_at store.descriptors number ≡ slot.Free
  free_here = ap (λ (found : Option Slot). unwrap_or found slot.Free) free

  module _ (absent : description_at (group_at store b place) d ≡ None) (made : is_some (description_at new d) ≡ true) (others : (q : ℕ) → q ≢ d → description_at new q ≡ description_at (group_at store b place) q) where
    here : is_there opened b d ≡ true
    here = ap (λ (n : ℕ). is_some (description_at (group_at opened b n) d)) of_group ∙ ap (λ (g : Group). is_some (description_at g d)) (group_set store b place new (group_at store b place) there) ∙ made

    not_before : is_there store b d ≡ false
    not_before = ap (λ (n : ℕ). is_some (description_at (group_at store b n) d)) of_group ∙ ap is_some absent

    others_stay : (b' d' : ℕ) → (b' ≡ b → d' ≡ d → ⊥) → is_there opened b' d' ≡ is_there store b' d'
    others_stay b' d' apart =
        group_either store b place new b' (d' % group_count) (λ (g : Group). is_some (description_at g d') ≡ is_there store b' d')
        (λ e f. ap is_some (others d' (apart e)) ∙ sym (ap (λ (n : ℕ). is_some (description_at (group_at store n place) d')) e) ∙ sym (ap (λ (n : ℕ). is_some (description_at (group_at store b' n) d')) f)) refl

    was_not : (b' d' : ℕ) → is_there store b' d' ≡ true → b' ≡ b → d' ≡ d → ⊥
    was_not b' d' h e f = false≢true (sym not_before ∙ sym (ap (λ (x : ℕ). is_there store x d) e) ∙ sym (ap (λ (x : ℕ). is_there store b' x) f) ∙ h)

    now_there : (b' d' : ℕ) → slot.File b d ≡ slot.File b' d' → is_there opened b' d' ≡ true
    now_there b' d' is = ap (λ (x : ℕ). is_there opened x d') (sym (ap backend_in is)) ∙ ap (λ (x : ℕ). is_there opened b x) (sym (ap description_in is)) ∙ here

    still_there : (n b' d' : ℕ) → slot_at store.descriptors n ≡ slot.File b' d' → is_there opened b' d' ≡ true
    still_there n b' d' is = let h = tidy.there.named n b' d' is in others_stay b' d' (was_not b' d' h) ∙ h

    pub tidy_opened : IsTidy opened
    tidy_opened = record {
      none_reserved = λ n. slot_either store.descriptors number n (slot.File b d) (λ (s : Slot). s ≢ slot.Reserved) (λ e f. cc) (tidy.none_reserved n);
      there = record { named = λ n b' d'. slot_either store.descriptors number n (slot.File b d) (λ (s : Slot). s ≡ slot.File b' d' → is_there opened b' d' ≡ true) (λ e. now_there b' d') (still_there n b' d') };
      numbered = λ b' d' h. elim (same_of b b' d d') as (λ _. (n : ℕ) × (slot_at opened.descriptors n ≡ slot.File b' d')) [
        | inl (e, f) ↦ (number, number_names store.descriptors number slot.Free (slot.File b d) free ∙ sym (ap (λ (x : ℕ). slot.File x d) e) ∙ sym (ap (λ (x : ℕ). slot.File b' x) f))
        | inr apart ↦
            let (n, is) = tidy.numbered b' d' (sym (others_stay b' d' apart) ∙ h) in
            (n, slot_other store.descriptors number n (slot.File b d) (λ e. let clash : slot.Free ≡ slot.File b' d' = sym free_here ∙ sym (ap (slot_at store.descriptors) e) ∙ is in cc) ∙ is)
      ];
    }
