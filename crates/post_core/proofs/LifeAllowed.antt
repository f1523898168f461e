-- What the table asks of each step on the life of a place, from the fact that the step is its event.
use Rattle.post_core.specs.declared.slots.Item.{Item}
use Rattle.task_ring.specs.Ring.{RingView}
use Rattle.std.proofs.Common.{◌≡◌, ◌≢◌, ℕ, ◌+◌, ◌-◌, ◌%◌, ◌^◌, ◌<◌, ◌==◌, List, get_or, slice_index, refl, arith, sym, subst}
use Rattle.std.specs.Prelude.{IsTrue}
use mathlib.Core.Option.{none}
use prog.Atomic.{either}
use Rattle.atomic_table.specs.Table.{Act, Allows, Valid, carried_after, keeps, step, stepped}
use Rattle.atomic_table.proofs.Lists.{exchanged}
use Rattle.proxy_laws.specs.declared.actors.Look.TheVariants as look
use Rattle.proxy_laws.specs.declared.actors.Phase.TheVariants as phase
use Rattle.proxy_laws.specs.declared.records.Mark.{Mark}
use Rattle.proxy_laws.specs.Phases.{has_seen_note, life_after_mark, looks_at}
use Rattle.post_core.specs.declared.views.View.{View}
use Rattle.post_core.specs.LifeSteps.{cloned_use, dropped_use, life_marked, looked_note, marked_life, note_looked, place_claimed, place_tried, tried_claim, tried_create, use_cloned, use_dropped}
use Rattle.post_core.specs.Rule.{Shown, clones_max}
use Rattle.post_core.specs.Views.{IsPassView, pass_of}
use Rattle.post_core.specs.Words.{life_at, note_at}
use Rattle.post_core.proofs.LifeEvents.{claims, clones_use, life_is_own, life_small, looks_note, marks_life, releases_use, tries}
use Rattle.post_core.proofs.Placing.{create_allowed}

module _ {J M : Type 0} (meaning : J → M) (suits : ℕ → Mark → M → Type 0) (senders places : ℕ) (slots id : ℕ) (v : View M) (held : List (ℕ × RingView (Item J))) (p : ℕ) (near : p < places) (is : IsPassView v) where
  pub clone_allowed : (pass_of v).phase ≡ phase.Idle → 0 < get_or (pass_of v).uses p 0 → (pass_of v).clones < clones_max
      → Allows (Shown meaning suits senders places) slots id (v, held) (life_at p) (λ n. (n + 1) % 2 ^ 64) (cloned_use p (step slots (life_at p) 1 0 none) (v, held))
  clone_allowed idle used few s r wide at small = (
    use_cloned p v,
    keeps,
    tt,
    (clones_use meaning suits senders places s r id p v held at is near idle used few _ (let a = life_small meaning suits senders places s r id p v held at is near idle used few in omega arith)).1.0,
    refl,
  )

  pub release_allowed : (pass_of v).phase ≡ phase.Idle → 0 < get_or (pass_of v).uses p 0 → (pass_of v).look ≡ look.Nowhere → p ≢ 0
      → Allows (Shown meaning suits senders places) slots id (v, held) (life_at p) (λ n. (n + (2 ^ 64 - 1)) % 2 ^ 64) (dropped_use p (step slots (life_at p) 1 0 none) (v, held))
  release_allowed idle used nowhere other s r wide at small = (
    use_dropped p v,
    keeps,
    tt,
    (releases_use meaning suits senders places s r id p v held at is near idle used nowhere other _ (let a = life_is_own meaning suits senders places s r id p v held at is near idle used nowhere other in omega arith)).1.0,
    (life_is_own meaning suits senders places s r id p v held at is near idle used nowhere other, refl),
  )

  pub claim_allowed : (pass_of v).look ≡ look.Nowhere → Allows (Shown meaning suits senders places) slots id (v, held) (life_at p) (λ n. either (n == 1) 2 n) (tried_claim p (step slots (life_at p) 1 2 none) (v, held))
  claim_allowed nowhere s r wide at small =
      exchanged (slice_index s.words (life_at p)) 1 2
      (λ y. (x : View M) × (a : Act (RingView (Item J))) × Valid s.homes held a × Shown meaning suits senders places (stepped s (life_at p) y id held x a) × tried_claim p (step slots (life_at p) 1 2 none) (v, held) (slice_index s.words (life_at p)) (x, carried_after held a))
      (λ hit. (place_claimed p v, keeps, tt, (claims meaning suits senders places s r id p v held at is near nowhere hit).1.0, ((λ e. refl), (λ ne. absurd (ne hit)))))
      (λ miss. (place_tried p v, keeps, tt, tries meaning suits senders places s r id p v held at is near nowhere (slice_index s.words (life_at p)) refl, ((λ e. absurd (miss e)), (λ ne. refl))))

  pub look_allowed : IsTrue (looks_at p (pass_of v).look) → Allows (Shown meaning suits senders places) slots id (v, held) (note_at p) (λ n. n) (looked_note p (step slots (note_at p) 0 0 none) (v, held))
  look_allowed looks s r wide at small = (
    note_looked p (r.world.note p) v,
    keeps,
    tt,
    (looks_note meaning suits senders places s r id p v held at is near looks (slice_index s.words (note_at p)) refl).1.0,
    (r.world.note p, r.words.note_is p near, refl),
  )

  pub mark_allowed : IsTrue (looks_at p (pass_of v).look) → IsTrue (has_seen_note (pass_of v).look) → (life : ℕ) → life ≡ life_after_mark (pass_of v).look
      → Allows (Shown meaning suits senders places) slots id (v, held) (life_at p) (λ _. life) (λ _. marked_life p (step slots (life_at p) life 0 none) (v, held) life)
  mark_allowed looks saw life life_is s r wide at small = (
    life_marked p v,
    keeps,
    tt,
    subst (λ x. Shown meaning suits senders places (stepped s (life_at p) x id held (life_marked p v) keeps)) (sym life_is) (marks_life meaning suits senders places s r id p v held at is near looks saw).1.0,
    refl,
  )

  pub try_create_allowed : p ≢ 0 → Allows (Shown meaning suits senders places) slots id (v, held) (life_at p) (λ n. either (n == 0) 3 n) (tried_create p (step slots (life_at p) 0 3 none) (v, held))
  try_create_allowed other = create_allowed meaning suits senders places slots id p v held near other is
