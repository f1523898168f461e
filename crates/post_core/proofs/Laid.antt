-- The words and the shelves of a table as it is made.
use Rattle.std.specs.Int.{bit_at}
use Rattle.std.proofs.Common.{◌≡◌, ◌≢◌, ℕ, zero, suc, ◌+◌, ◌*◌, ◌<◌, ◌≤◌, ◌==◌, [], length, get_or, set, replicate, refl, arith, ap, sym, subst, ◌∙◌, if◌then◌else◌, length-set}
use Rattle.std.specs.Prelude.{All, ◌/◌, ◌%◌}
use Rattle.std.proofs.lemmas.Bool.{ne_eqb}
use Rattle.std.proofs.lemmas.List.{get_or-set_same, get_or-set_other, get_or-replicate, length-replicate}
use Rattle.std.proofs.lemmas.List.Elements.{All-replicate}
use Rattle.std.proofs.lemmas.Nat.Bits.{bit_at-zero}
use mathlib.Core.Logic.{dite}
use mathlib.Core.Option.{some}
use native.Mathlib.Decide.{ℕ_discrete}
use lib.ListN.{get_elem?}
use Rattle.task_ring.specs.Ring.{RingView}
use Rattle.proxy_laws.specs.Worlds.{opening_world}
use Rattle.post_core.specs.declared.slots.Item.{Item}
use Rattle.post_core.specs.Ending.{IsIdle}
use Rattle.post_core.specs.Making.{open_rings, opening_words}
use Rattle.post_core.specs.Words.{WordsShow, life_at, word_count}

quiet : (senders places k : ℕ) → k < word_count places → k ≢ 0 → k ≢ 264 → get_or (opening_words senders places) k 0 ≡ 0
quiet senders places k near first life = get_or-set_other (set (replicate (word_count places) 0) 0 1) 264 k (senders + 2) 0 life ∙ (get_or-set_other (replicate (word_count places) 0) 0 k 1 0 first ∙ get_or-replicate (word_count places) k 0 0 near)

wide : (senders places : ℕ) → length (opening_words senders places) ≡ word_count places
wide senders places = length-set (set (replicate (word_count places) 0) 0 1) 264 (senders + 2) ∙ (length-set (replicate (word_count places) 0) 0 1 ∙ length-replicate (word_count places) 0)

pub words_open : (senders places : ℕ) → 0 < places → places ≤ 256 → WordsShow places 1 (opening_world senders places).turn (opening_world senders places).sent (λ p. 0) (opening_world senders places).note (opening_world senders places).life (opening_world senders places).mail (opening_words senders places)
words_open senders places some_place few = record {
  wide = wide senders places;
  refs_is = get_or-set_other (set (replicate (word_count places) 0) 0 1) 264 0 (senders + 2) 0 (λ e. omega arith) ∙ get_or-set_same (replicate (word_count places) 0) 0 1 0 (omega (arith, length-replicate {A = ℕ} (word_count places) 0));
  turn_is = λ p near. quiet senders places (1 + p) (omega arith) (λ e. omega arith) (λ e. omega arith);
  mail_is = λ p near. ap (λ m. bit_at m (p % 64)) (quiet senders places (257 + p / 64) (omega arith) (λ e. omega arith) (λ e. omega arith)) ∙ bit_at-zero (p % 64);
  put_is = λ p near. quiet senders places (261 + 5 * p) (omega arith) (λ e. omega arith) (λ e. omega arith);
  taken_is = λ p near. quiet senders places (262 + 5 * p) (omega arith) (λ e. omega arith) (λ e. omega arith);
  note_is = λ p near. quiet senders places (263 + 5 * p) (omega arith) (λ e. omega arith) (λ e. omega arith);
  life_is = λ p near. dite (ℕ_discrete p 0)
      (λ same. subst (λ k. get_or (opening_words senders places) (life_at k) 0 ≡ (if k == 0 then senders + 2 else 0)) (sym same)
      (get_or-set_same (set (replicate (word_count places) 0) 0 1) 264 (senders + 2) 0 (omega (arith, length-set {A = ℕ} (replicate (word_count places) 0) 0 1, length-replicate {A = ℕ} (word_count places) 0))))
      (λ ne. quiet senders places (264 + 5 * p) (omega arith) (λ e. omega arith) (λ e. ne (omega arith)) ∙ sym (ap (λ b. if b then senders + 2 else 0) (ne_eqb p 0 ne)));
}

module _ {X : Type 0} where
  pub at_replicate : (n k : ℕ) (x : X) → k < n → get_elem? (replicate n x) k ≡ some x
  at_replicate zero k x near = absurd (omega arith)
  at_replicate (suc n) zero x near = refl
  at_replicate (suc n) (suc k) x near = at_replicate n k x (omega arith)

module _ (J : Type 0) (places : ℕ) where
  abbrev pub no_jobs : RingView (Item J)
  no_jobs = record { items = []; cells = 0; first = 128 }

  pub rings_wide : length (open_rings {J = J} places) ≡ places
  rings_wide = length-replicate {A = RingView (Item J)} places no_jobs

  pub rings_open : (p : ℕ) → p < places → (ring : RingView (Item J)) × (get_elem? (open_rings {J = J} places) p ≡ some ring) × (ring.items ≡ [])
  rings_open p near = (no_jobs, at_replicate places p no_jobs near, refl)

  pub all_idle : All (λ x. IsIdle x) (open_rings {J = J} places)
  all_idle = All-replicate (λ x. IsIdle x) places no_jobs refl
