-- What the table asks of each step of a sender, from the fact that the step is its event.
use Rattle.std.proofs.Common.{◌≡◌, ℕ, zero, suc, ◌+◌, ◌-◌, ◌%◌, ◌^◌, ◌<◌, ◌≤◌, ◌==◌, true, false, if◌then◌else◌, Some, List, [], ◌∷◌, length, get_or, slice_index, refl, arith, ap, sym, subst, ◌∙◌, append-nil}
use Rattle.std.specs.Prelude.{IsTrue}
use Rattle.std.proofs.lemmas.List.{length-map}
use mathlib.Core.Logic.{dite}
use mathlib.Core.Option.{none, some, some-injective, some-ne-none}
use native.Mathlib.Decide.{ℕ_discrete}
use prog.Atomic.{either}
use lib.ListN.{get_elem?}
use Rattle.atomic_table.specs.Table.{Act, Allows, Valid, carried_after, gives, keeps, rest, step, stepped, takes}
use Rattle.atomic_table.proofs.Lists.{exchanged}
use Rattle.task_ring.specs.Ring.{RingView}
use Rattle.proxy_laws.specs.declared.actors.Phase.TheVariants as phase
use Rattle.proxy_laws.specs.declared.records.Mark.{Mark}
use Rattle.proxy_laws.specs.Phases.{has_turn_at, phase_after_swap}
use Rattle.proxy_laws.proofs.Numbers.{free_of_word}
use Rattle.post_core.specs.declared.slots.Item.{Item}
use Rattle.post_core.specs.declared.views.Entry.{Entry}
use Rattle.post_core.specs.declared.views.Fact.{Fact}
use Rattle.post_core.specs.declared.views.Fact.TheVariants as fact
use Rattle.post_core.specs.declared.views.Kept.{Kept}
use Rattle.post_core.specs.declared.views.View.{View}
use Rattle.post_core.specs.Kept.{kept, kept_from, listed}
use Rattle.post_core.specs.Rule.{IsSo, PassFits, Shown}
use Rattle.post_core.specs.SendSteps.{added_ref, counted_put, dropped_ref, last_held, loaded_refs, meant_item, none_seen, own_marks_max, place_given, place_taken, sender_gave_place, sender_took_place, swapped_note}
use Rattle.post_core.specs.Steps.{all_meant}
use Rattle.post_core.specs.Views.{IsPassView, at_phase, job_put, pass_of}
use Rattle.post_core.specs.Words.{note_at, put_at, refs_at, turn_at}
use Rattle.post_core.proofs.Allowed.{unmoved}
use Rattle.post_core.proofs.Members.{one_at}
use Rattle.post_core.proofs.PutStep.{puts}
use Rattle.post_core.proofs.SendRefs.{adds_ref, drops_ref, few_refs, has_ref, loads_refs, not_seen_closed}
use Rattle.post_core.proofs.SendTurns.{gives_turn, takes_turn}
use Rattle.post_core.proofs.Sending.{swaps_note}

module _ {M : Type 0} where
  -- the numbers that a pass keeps are below the count
  kept_more_below : (n bound : ℕ) (e : Entry M) (ks : List (Kept M)) → n < bound → ((k : ℕ) (x : Kept M) → get_elem? ks k ≡ some x → x.nth < bound) → (k : ℕ) (x : Kept M) → get_elem? (kept n e ∷ ks) k ≡ some x → x.nth < bound
  kept_more_below n bound e ks below each zero x at = let same = ap (λ (y : Kept M). y.nth) (some-injective (kept n e) x at) in omega arith
  kept_more_below n bound e ks below each (suc k) x at = each k x at

  kept_below : (n s : ℕ) (es : List (Entry M)) (k : ℕ) (x : Kept M) → get_elem? (kept_from n s es) k ≡ some x → x.nth < n + length es
  kept_below n s [] k x at = absurd (some-ne-none x (sym at))
  kept_below n s (e ∷ es) k x at = let each : (m : ℕ) (y : Kept M) → get_elem? (kept_from (suc n) s es) m ≡ some y → y.nth < n + suc (length es) = λ m y y_at. (let a = kept_below (suc n) s es m y y_at in omega arith) in
      (elim (e.mark.sender == s) as (λ b. get_elem? (if b then kept n e ∷ kept_from (suc n) s es else kept_from (suc n) s es) k ≡ some x → x.nth < n + suc (length es)) [
        | true ↦ λ here. kept_more_below n (n + suc (length es)) e (kept_from (suc n) s es) (omega arith) each k x here
        | false ↦ λ here. each k x here
      ]) at

module _ {J M : Type 0} (meaning : J → M) (suits : ℕ → Mark → M → Type 0) (senders places : ℕ) (slots id : ℕ) (v : View M) (held : List (ℕ × RingView (Item J))) where
  pub load_allowed : IsPassView v → (pass_of v).phase ≡ phase.Idle → Allows (Shown meaning suits senders places) slots id (v, held) refs_at (λ n. n) (loaded_refs (step slots refs_at 0 0 none) (v, held))
  load_allowed is idle s r wide at small =
      let few : slice_index s.words refs_at ≤ 65 = (let a = r.words.refs_is in let b = few_refs meaning suits senders places s r id v held at is in omega arith) in
      dite (ℕ_discrete (slice_index s.words refs_at) 0)
      (λ zero_found. (
        none_seen v,
        keeps,
        tt,
        (loads_refs meaning suits senders places s r id v held at is idle (slice_index s.words refs_at) refl (none_seen v) is.0 refl (fact.NoReferences ∷ []) refl
            (λ k f f_at. subst (λ (x : Fact M). IsSo r.world.places r.world.refs r.entries r.world.jobs x) (one_at fact.NoReferences k f f_at) (sym r.words.refs_is ∙ zero_found))).1.0,
        (few, (λ e. refl), (λ ne. absurd (ne zero_found))),
      ))
      (λ some_found. (
        v,
        keeps,
        tt,
        (loads_refs meaning suits senders places s r id v held at is idle (slice_index s.words refs_at) refl v is.0 refl [] (sym (append-nil v.seen)) (λ k f f_at. absurd (some-ne-none f (sym f_at)))).1.0,
        (few, (λ e. absurd (some_found e)), (λ ne. refl)),
      ))

  pub add_allowed : (seen : ℕ) → 1 ≤ seen → IsPassView v → (pass_of v).phase ≡ phase.Idle → Allows (Shown meaning suits senders places) slots id (v, held) refs_at (λ n. either (n == seen) (seen + 1) n) (added_ref (step slots refs_at seen (seen + 1) none) (v, held))
  add_allowed seen some_seen is idle s r wide at small =
      exchanged (slice_index s.words refs_at) seen (seen + 1)
      (λ y. (x : View M) × (a : Act (RingView (Item J))) × Valid s.homes held a × Shown meaning suits senders places (stepped s refs_at y id held x a) × added_ref (step slots refs_at seen (seen + 1) none) (v, held) (slice_index s.words refs_at) (x, carried_after held a))
      (λ hit. let some_left : 1 ≤ r.world.refs = (let a = r.words.refs_is in omega arith) in (
        at_phase phase.Referenced v,
        keeps,
        tt,
        (adds_ref meaning suits senders places s r id v held at is idle some_left (seen + 1) (ap (λ n. n + 1) (sym hit ∙ r.words.refs_is))).1.0,
        ((λ e. (not_seen_closed meaning suits senders places s r id v held at is some_left, refl)), (λ ne. absurd (ne hit))),
      ))
      (λ miss. let h = load_allowed is idle s r wide at small in (h.0, h.1, h.2, h.3, ((λ e. absurd (miss e)), (λ ne. h.4))))

  pub drop_allowed : IsPassView v → (pass_of v).phase ≡ phase.Referenced → Allows (Shown meaning suits senders places) slots id (v, held) refs_at (λ n. (n + (2 ^ 64 - 1)) % 2 ^ 64) (dropped_ref (step slots refs_at 1 0 none) (v, held))
  drop_allowed is referenced s r wide at small = (
    at_phase phase.Idle v,
    keeps,
    tt,
    (drops_ref meaning suits senders places s r id v held at is referenced _ (let a = r.words.refs_is in let b = has_ref meaning suits senders places s r id v held at is referenced in let c = few_refs meaning suits senders places s r id v held at is in omega arith)).1.0,
    refl,
  )

  module _ (p : ℕ) (near : p < places) (is : IsPassView v) where
    pub swap_allowed : (pass_of v).phase ≡ phase.Owing p → Allows (Shown meaning suits senders places) slots id (v, held) (note_at p) (λ _. 1) (swapped_note p (step slots (note_at p) 1 0 none) (v, held))
    swap_allowed owes s r wide at small = (
      at_phase (phase_after_swap p (r.world.note p)) v,
      keeps,
      tt,
      (swaps_note meaning suits senders places s r id p v held at is near owes).1.0,
      (r.world.note p, r.words.note_is p near, refl),
    )

    pub take_turn_allowed : (pass_of v).phase ≡ phase.Referenced → 0 < get_or (pass_of v).uses p 0 → Allows (Shown meaning suits senders places) slots id (v, held) (turn_at p) (λ n. either (n == 0) 1 n) (sender_took_place meaning p (step slots (turn_at p) 0 1 none) (v, held))
    take_turn_allowed referenced used s r wide at small =
        exchanged (slice_index s.words (turn_at p)) 0 1
        (λ y. (x : View M) × (a : Act (RingView (Item J))) × Valid s.homes held a × Shown meaning suits senders places (stepped s (turn_at p) y id held x a) × sender_took_place meaning p (step slots (turn_at p) 0 1 none) (v, held) (slice_index s.words (turn_at p)) (x, carried_after held a))
        (λ hit. let free = free_of_word (r.world.turn p) (sym (r.words.turn_is p near) ∙ hit) in let h = r.slots.ring_is p near free in (
          place_taken p (all_meant meaning h.0.items) v,
          takes p h.0,
          h.1,
          (takes_turn meaning suits senders places s r id p v held at is near referenced used free).1.0,
          ((λ e. (h.0, refl)), (λ ne. absurd (ne hit))),
        ))
        (λ miss. (v, keeps, tt, subst (Shown meaning suits senders places) (sym (unmoved s (turn_at p) id held v (slice_index s.words (turn_at p)) refl at)) r, ((λ e. absurd (miss e)), (λ ne. refl))))

    pub give_turn_allowed : IsTrue (has_turn_at p (pass_of v).phase) → (ring : RingView (Item J)) → held ≡ (p, ring) ∷ rest held → all_meant meaning ring.items ≡ (pass_of v).ring
        → Allows (Shown meaning suits senders places) slots id (v, held) (turn_at p) (λ _. 0) (λ _. sender_gave_place p (step slots (turn_at p) 0 0 none) (v, held) 0)
    give_turn_allowed has ring is_held holds s r wide at small = (
      place_given p v,
      gives,
      tt,
      subst (λ c. Shown meaning suits senders places (stepped s (turn_at p) 0 id c (place_given p v) gives)) (sym is_held) (gives_turn meaning suits senders places s r id p v (rest held) at is near ring has holds).1.0,
      refl,
    )

    pub count_allowed : (tag : ℕ) (item : Item J) → (pass_of v).phase ≡ phase.Holding p → length (listed (pass_of v).own p) < own_marks_max → last_held held ≡ Some item
        → item.mark ≡ record { sender = (pass_of v).number; seq = length (listed (pass_of v).own p); tag = tag } → suits p item.mark (meaning item.job)
        → Allows (Shown meaning suits senders places) slots id (v, held) (put_at p) (λ n. (n + 1) % 2 ^ 64) (counted_put meaning p (step slots (put_at p) 1 0 none) (v, held))
    count_allowed tag item holding room last mark_is suit s r wide at small =
        let inside : p < r.world.places = (let a = r.sized.places_are in omega arith) in
        let found : slice_index s.words (put_at p) ≡ length (r.entries p) = r.words.put_is p near ∙ (ap length (sym (r.marks p)) ∙ length-map (r.entries p) (λ (x : Entry M). x.mark)) in
        let entry : record { mark = record { sender = (pass_of v).number; seq = length (listed (pass_of v).own p); tag = tag }; meaning = meaning item.job } ≡ meant_item meaning item = (λ i. record { mark = (sym mark_is) i; meaning = meaning item.job }) in
        let fits : PassFits r.world r.entries r.seat id (pass_of v) = (r.views id v at).passes 0 (pass_of v) (subst (λ ps. get_elem? ps 0 ≡ some (pass_of v)) (sym is.0) refl) in (
          job_put p (slice_index s.words (put_at p)) (meant_item meaning item) v,
          keeps,
          tt,
          subst (λ n. Shown meaning suits senders places (stepped s (put_at p) ((slice_index s.words (put_at p) + 1) % 2 ^ 64) id held (job_put p n (meant_item meaning item) v) keeps)) (sym found)
              (subst (λ (e : Entry M). Shown meaning suits senders places (stepped s (put_at p) ((slice_index s.words (put_at p) + 1) % 2 ^ 64) id held (job_put p (length (r.entries p)) e v) keeps)) entry
              (puts meaning suits senders places s r id p tag (meaning item.job) v held at is near holding room (subst (λ m. suits p m (meaning item.job)) mark_is suit)).1.0),
          (
            record {
              own = λ k x x_at. (let a = kept_below 0 (pass_of v).number (r.entries p) k x (ap (λ ks. get_elem? ks k) (sym (fits.owns.own_is p inside)) ∙ x_at) in omega arith);
              seen = λ k count f_at. (let a = (r.views id v at).seen k (fact.Reached p count) f_at in let b = a.1 in omega arith);
            },
            (λ other is_other. ap (λ (y : Item J). (job_put p (slice_index s.words (put_at p)) (meant_item meaning y) v, held)) (same_item item other (sym last ∙ is_other))),
          ),
        ) where
          same_item : (x y : Item J) → Some x ≡ Some y → x ≡ y
          same_item x y e = cc
