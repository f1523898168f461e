-- What the table asks of each step, from the fact that the step is its event.
use Rattle.proxy_laws.specs.Settling.{settler}
use Rattle.std.proofs.Common.{slice_index, ◌≡◌, ℕ, ◌+◌, ◌%◌, ◌^◌, ◌<◌, Some, List, [], ◌∷◌, length, get_or, refl, arith, sym, ◌∙◌, set, None, ◌==◌, ap, subst, zero, suc, drop, length-drop}
use Rattle.std.specs.Prelude.{IsTrue}
use mathlib.Core.Option.{none, some}
use prog.Atomic.{either}
use lib.ListN.{get_elem?}
use Rattle.atomic_table.specs.Table.{Act, Allows, State, Valid, carried_after, gives, keeps, rest, step, stepped, takes}
use Rattle.atomic_table.proofs.Lists.{exchanged, set_again}
use Rattle.task_ring.specs.Ring.{RingView}
use Rattle.post_core.specs.declared.slots.Item.{Item}
use Rattle.proxy_laws.proofs.Numbers.{free_of_word}
use Rattle.post_core.proofs.Turning.{gives_place, takes_place}
use Rattle.std.proofs.lemmas.List.{set-get_or}
use Rattle.proxy_laws.specs.declared.actors.Serving.TheVariants as serving
use Rattle.proxy_laws.specs.declared.records.FateMark.{FateMark}
use Rattle.proxy_laws.specs.declared.records.Mark.{Mark}
use Rattle.proxy_laws.specs.Phases.{is_working}
use Rattle.post_core.specs.declared.views.View.{View}
use Rattle.post_core.specs.Kept.{listed}
use Rattle.post_core.specs.Rule.{Shown}
use Rattle.post_core.specs.Steps.{IsActiveHere, settled_job, took_job, all_meant, took_place, gave_place}
use Rattle.post_core.specs.Views.{IsOwnerView, job_settled, job_taken, owner_of, turn_taken, turn_given}
use Rattle.post_core.specs.Words.{settled_at, taken_at, turn_at}
use Rattle.post_core.proofs.Numbers.{few_put}
use Rattle.post_core.proofs.Owning.{long, takes_job, waits}
use Rattle.post_core.proofs.Settled.{settles}

module _ {X : Type 0} where
  pub first_of : (xs : List X) → 0 < length xs → (x : X) × (rest : List X) × (xs ≡ x ∷ rest)
  first_of [] some_there = absurd (omega arith)
  first_of (x ∷ xs) some_there = (x, xs, refl)

-- a list's member where a drop of it begins
at_drop : {X : Type 0} (xs : List X) (n : ℕ) (x : X) (rest : List X) → drop n xs ≡ x ∷ rest → get_elem? xs n ≡ some x
at_drop {X} [] n x others is = absurd (let a = ap length is in omega (arith, length-drop {A = X} n []))
at_drop {X} (y ∷ xs) zero x others is = ap (λ (ys : List X). get_elem? ys 0) is
at_drop (y ∷ xs) (suc n) x others is = at_drop xs n x others is

module _ {J M : Type 0} (meaning : J → M) (suits : ℕ → Mark → M → Type 0) (senders places : ℕ) (slots id p : ℕ) (v : View M) (held : List (ℕ × RingView (Item J))) where
  pub take_allowed : p < places → IsOwnerView v → (owner_of v).turn ≡ Some p → IsTrue (is_working (owner_of v).state (get_or (owner_of v).serving p serving.Away)) → 0 < length (owner_of v).ring
      → Allows (Shown meaning suits senders places) slots id (v, held) (taken_at p) (λ n. (n + 1) % 2 ^ 64) (took_job suits p (step slots (taken_at p) 1 0 none) (v, held))
  take_allowed near is turn works some_wait s r wide at fits = let first = first_of (owner_of v).ring some_wait in (
    job_taken p v,
    keeps,
    tt,
    (takes_job meaning suits senders places s r id p v held at is.1 first.0 first.1 turn works first.2).1.0,
    (
      r.words.taken_is p near ∙ sym (long meaning suits senders places s r id p v held at is.1 first.0 first.1 turn works first.2),
      (let a = r.words.taken_is p near in let b = r.sound.jobs.taken p (let c = r.sized.places_are in omega arith) in let c = few_put r.world p r.formed (let d = r.sized.places_are in omega arith) (let d = r.sized.senders_are in let e = r.sized.few_senders in omega arith) (r.sized.few_marks p) in omega arith),
      (λ e others is_ring. r.suited p (length (r.world.jobs p)) e (at_drop (r.entries p) (length (r.world.jobs p)) e others (waits meaning suits senders places s r id p v held at is.1 e others turn works is_ring))),
      refl,
    ),
  )

  pub settle_allowed : (n : ℕ) (f : FateMark) → p < places → IsOwnerView v → (owner_of v).state ≡ settler f → IsActiveHere (listed (owner_of v).jobs p) n
      → Allows (Shown meaning suits senders places) slots id (v, held) (settled_at p) (λ k. (k + 1) % 2 ^ 64) (settled_job p n f (step slots (settled_at p) 1 0 none) (v, held))
  settle_allowed n f near is can active s r wide at fits = (
    job_settled p n f v,
    keeps,
    tt,
    (settles meaning suits senders places s r id p n f v held at is.1 active.1.0 near active.0 active.1.1 active.1.2 can _).1.0,
    refl,
  )

-- a step that changes nothing
pub unmoved : {S V : Type 0} (s : State S V) (i id : ℕ) (held : List (ℕ × S)) (v : V) (n : ℕ) → n ≡ slice_index s.words i → get_elem? s.views id ≡ some v → stepped s i n id held v keeps ≡ s
unmoved s i id held v n is at = λ k. record { words = (ap (λ m. set s.words i m) is ∙ set-get_or s.words i 0) k; homes = s.homes; views = set_again s.views id v at k }

module _ {J M : Type 0} (meaning : J → M) (suits : ℕ → Mark → M → Type 0) (senders places : ℕ) (slots id p : ℕ) (v : View M) (held : List (ℕ × RingView (Item J))) where
  pub place_allowed : p < places → IsOwnerView v → (owner_of v).turn ≡ None → IsTrue (is_working (owner_of v).state (get_or (owner_of v).serving p serving.Away))
      → Allows (Shown meaning suits senders places) slots id (v, held) (turn_at p) (λ n. either (n == 0) 1 n) (took_place meaning p (step slots (turn_at p) 0 1 none) (v, held))
  place_allowed near is idle works s r wide at fits_word =
      exchanged (slice_index s.words (turn_at p)) 0 1
      (λ y. (x : View M) × (a : Act (RingView (Item J))) × Valid s.homes held a × Shown meaning suits senders places (stepped s (turn_at p) y id held x a) × took_place meaning p (step slots (turn_at p) 0 1 none) (v, held) (slice_index s.words (turn_at p)) (x, carried_after held a))
      (λ hit. let free = free_of_word (r.world.turn p) (sym (r.words.turn_is p near) ∙ hit) in let h = r.slots.ring_is p near free in (
        turn_taken p (all_meant meaning h.0.items) v,
        takes p h.0,
        h.1,
        (takes_place meaning suits senders places s r id p v at is.1 near held idle works free).1.0,
        ((λ e. (h.0, refl)), (λ ne. absurd (ne hit))),
      ))
      (λ miss. (v, keeps, tt, subst (Shown meaning suits senders places) (sym (unmoved s (turn_at p) id held v (slice_index s.words (turn_at p)) refl at)) r, ((λ e. absurd (miss e)), (λ ne. refl))))

  pub give_allowed : p < places → IsOwnerView v → (owner_of v).turn ≡ Some p → (ring : RingView (Item J)) → held ≡ (p, ring) ∷ rest held → all_meant meaning ring.items ≡ (owner_of v).ring
      → Allows (Shown meaning suits senders places) slots id (v, held) (turn_at p) (λ _. 0) (λ _. gave_place (step slots (turn_at p) 0 0 none) (v, held) 0)
  give_allowed near is turn ring has holds s r wide at fits_word = (
    turn_given v,
    gives,
    tt,
    subst (λ c. Shown meaning suits senders places (stepped s (turn_at p) 0 id c (turn_given v) gives)) (sym has) (gives_place meaning suits senders places s r id p v at is.1 near ring (rest held) turn holds).1.0,
    refl,
  )
