-- The lists of a new target's world show its opening, and are in range.
use Rattle.std.proofs.Common.{◌≡◌, inl, inr, ℕ, ◌+◌, ◌<◌, ◌≤◌, ◌==◌, Bool, false, ◌&&◌, Option, None, List, [], length, count_by, get_or, set, refl, arith, ap, ◌∙◌}
use Rattle.std.specs.Prelude.{replicate, nat_lt, if◌then◌else◌}
use Rattle.std.proofs.lemmas.Bool.{cases_lt, cases_eq, lt-ltb, le-ltb, ne_eqb}
use Rattle.std.proofs.lemmas.List.{get_or-replicate, length-replicate, get_or_past, get_or-set_same, get_or-set_other}
use Rattle.std.proofs.Math.ListN.{length-set}
use Rattle.proxy_laws.specs.declared.actors.Actor.{Actor}
use Rattle.proxy_laws.specs.declared.actors.Look.{Look}
use Rattle.proxy_laws.specs.declared.actors.Look.TheVariants as look
use Rattle.proxy_laws.specs.declared.actors.Note.{Note}
use Rattle.proxy_laws.specs.declared.actors.Note.TheVariants as note
use Rattle.proxy_laws.specs.declared.actors.OwnerState.TheVariants as owner
use Rattle.proxy_laws.specs.declared.actors.Phase.{Phase}
use Rattle.proxy_laws.specs.declared.actors.Phase.TheVariants as phase
use Rattle.proxy_laws.specs.declared.actors.Serving.{Serving}
use Rattle.proxy_laws.specs.declared.actors.Serving.TheVariants as serving
use Rattle.proxy_laws.specs.declared.records.Job.{Job}
use Rattle.proxy_laws.specs.declared.records.Mark.{Mark}
use Rattle.proxy_laws.specs.Lists.{is_by}
use Rattle.proxy_laws.specs.Phases.{names, looks_at}
use Rattle.proxy_model.specs.Shapes.{PhasesInRange, LooksInRange, TurnsInRange, MarksInRange}
use Rattle.proxy_laws.specs.Worlds.{WorldState, opening_world}

-- all members of the list are x, and so is what lies past its end
pub all_same : {X : Type 0} (n : ℕ) (x : X) (xs : List X) → xs ≡ replicate n x → (k : ℕ) → get_or xs k x ≡ x
all_same {X} n x xs e k = ap (λ (l : List X). get_or l k x) e ∙ elim (cases_lt k n) [
  | inl near ↦ get_or-replicate n k x x near
  | inr far ↦ get_or_past (replicate n x) k x (omega (arith, length-replicate n x))
]

pub same_length : {X : Type 0} (n : ℕ) (x : X) (xs : List X) → xs ≡ replicate n x → length xs ≡ n
same_length {X} n x xs e = ap (λ (l : List X). length l) e ∙ length-replicate n x

-- the first member is another
pub first_other : (n y : ℕ) (xs : List ℕ) → 1 ≤ n → xs ≡ set (replicate n 0) 0 y → (k : ℕ) → get_or xs k 0 ≡ (if k == 0 then y else 0)
first_other n y xs some e k = ap (λ (l : List ℕ). get_or l k 0) e ∙ elim (cases_eq k 0) [
  | inl same ↦ rw (same) (get_or-set_same (replicate n 0) 0 y 0 (omega (arith, length-replicate {A = ℕ} n 0)))
  | inr other ↦ rw (ne_eqb k 0 other) (get_or-set_other (replicate n 0) 0 k y 0 other ∙ all_same n 0 (replicate n 0) refl k)
]

-- one use, of the first place
abbrev pub first_use : ℕ → List ℕ
first_use places = set (replicate places 0) 0 1

pub uses_are : (senders places : ℕ) (uses : List (List ℕ)) → 1 ≤ places → uses ≡ replicate senders (first_use places) → (s p : ℕ) → get_or (get_or uses s []) p 0 ≡ (if nat_lt s senders && (p == 0) then 1 else 0)
uses_are senders places uses some e s p = ap (λ (l : List (List ℕ)). get_or (get_or l s []) p 0) e ∙ elim (cases_lt s senders) [
  | inl near ↦ rw (lt-ltb s senders near) (ap (λ (l : List ℕ). get_or l p 0) (get_or-replicate senders s (first_use places) [] near) ∙ first_other places 1 (first_use places) some refl p)
  | inr far ↦ rw (le-ltb s senders far) (ap (λ (l : List ℕ). get_or l p 0) (get_or_past (replicate senders (first_use places)) s [] (omega (arith, length-replicate senders (first_use places)))))
]

pub lives_wide : (places y : ℕ) (lives : List ℕ) → lives ≡ set (replicate places 0) 0 y → length lives ≡ places
lives_wide places y lives e = ap (λ (l : List ℕ). length l) e ∙ (length-set {A = ℕ} (replicate places 0) 0 y ∙ length-replicate {A = ℕ} places 0)

pub uses_wide : (senders places : ℕ) (uses : List (List ℕ)) → uses ≡ replicate senders (first_use places) → (s : ℕ) → s < senders → length (get_or uses s []) ≡ places
uses_wide senders places uses e s near =
    ap (λ (l : List (List ℕ)). length (get_or l s [])) e ∙ (ap (λ (l : List ℕ). length l) (get_or-replicate senders s (first_use places) [] near) ∙ (length-set {A = ℕ} (replicate places 0) 0 1 ∙ length-replicate {A = ℕ} places 0))

pub phases_opened : (senders places : ℕ) (phases : List Phase) → phases ≡ replicate senders phase.Idle → PhasesInRange places phases
phases_opened senders places phases e s p is = let no_place = ap (names p) (all_same senders phase.Idle phases e s) in cc

pub looks_opened : (senders places : ℕ) (looks : List Look) → looks ≡ replicate senders look.Nowhere → LooksInRange places looks
looks_opened senders places looks e s p is = let no_place = ap (looks_at p) (all_same senders look.Nowhere looks e s) in cc

pub turns_opened : (senders places : ℕ) (turns : List (Option Actor)) → turns ≡ replicate places None → TurnsInRange senders turns
turns_opened senders places turns e p s is = let free = all_same places None turns e p in cc

pub marks_opened : (senders places : ℕ) (sent : List (List Mark)) → sent ≡ replicate places [] → MarksInRange senders sent
marks_opened senders places sent e p s some = let none = ap (count_by (is_by s)) (all_same places [] sent e p) in omega arith

pub opened : (senders places : ℕ) (sent : List (List Mark)) (jobs : List (List Job)) (notes : List Note) (lives : List ℕ) (turns : List (Option Actor)) (at_places : List Serving) (mail : List Bool) (phases : List Phase) (uses : List (List ℕ)) (looks : List Look) → 1 ≤ places → sent ≡ replicate places [] → jobs ≡ replicate places [] → notes ≡ replicate places note.None → lives ≡ set (replicate places 0) 0 (senders + 2) → turns ≡ replicate places None → at_places ≡ replicate places serving.Away → mail ≡ replicate places false → phases ≡ replicate senders phase.Idle → uses ≡ replicate senders (first_use places) → looks ≡ replicate senders look.Nowhere → let w : WorldState = record { senders = senders; places = places; refs = 1; owner = owner.Open; sent = λ p. get_or sent p []; jobs = λ p. get_or jobs p []; note = λ p. get_or notes p note.None; life = λ p. get_or lives p 0; turn = λ p. get_or turns p None; serving = λ p. get_or at_places p serving.Away; mail = λ p. get_or mail p false; mail_note = note.None; got = 0; phase = λ s. get_or phases s phase.Idle; uses = λ s p. get_or (get_or uses s []) p 0; look = λ s. get_or looks s look.Nowhere } in w ≡ opening_world senders places
opened senders places sent jobs notes lives turns at_places mail phases uses looks some e_sent e_jobs e_notes e_lives e_turns e_serving e_mail e_phases e_uses e_looks = λ i. record {
  senders = senders;
  places = places;
  refs = 1;
  owner = owner.Open;
  sent = λ p. all_same places [] sent e_sent p i;
  jobs = λ p. all_same places [] jobs e_jobs p i;
  note = λ p. all_same places note.None notes e_notes p i;
  life = λ p. first_other places (senders + 2) lives some e_lives p i;
  turn = λ p. all_same places None turns e_turns p i;
  serving = λ p. all_same places serving.Away at_places e_serving p i;
  mail = λ p. all_same places false mail e_mail p i;
  mail_note = note.None;
  got = 0;
  phase = λ s. all_same senders phase.Idle phases e_phases s i;
  uses = λ s p. uses_are senders places uses some e_uses s p i;
  look = λ s. all_same senders look.Nowhere looks e_looks s i;
}
