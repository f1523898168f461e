-- Passes get their seats one after another.
use Rattle.std.proofs.Common.{◌≡◌, ℕ, zero, suc, ◌+◌, ◌-◌, ◌<◌, Some, List, [], ◌∷◌, ◌++◌, length, map, get_or, replicate, refl, arith, ap, sym, subst, ◌∙◌, inl, inr, length-append}
use Rattle.std.proofs.Math.ListN.{get_or-append}
use Rattle.std.proofs.lemmas.Bool.{cases_lt}
use Rattle.std.proofs.lemmas.List.{get_or-append_right, length-map, map-append}
use mathlib.Core.Option.{some}
use lib.ListN.{get_elem?}
use Rattle.proxy_laws.specs.declared.actors.Phase.TheVariants as phase
use Rattle.proxy_laws.specs.declared.records.OwnMark.{OwnMark}
use Rattle.post_core.specs.declared.views.View.{View}
use Rattle.post_core.specs.Making.{AreDealt, dealing_view, fresh_view}
use Rattle.post_core.specs.Parts.{IsPass}
use Rattle.post_core.specs.Records.{own_mark}
use Rattle.post_core.specs.Views.{dealt, first_dealt, fresh_owner, fresh_pass, fresh_passes}

module _ {M : Type 0} (places s n : ℕ) (more : s < n) where
  passes_are : fresh_passes {M = M} places s (n - s) ≡ fresh_pass places s ∷ fresh_passes places (suc s) (n - (s + 1))
  passes_are = ap (fresh_passes places s) (let e : n - s ≡ suc (n - (s + 1)) = omega arith in e)

  pub first_there : (v : View M) → v ≡ dealing_view places s (n - s) → get_elem? v.passes 0 ≡ some (fresh_pass places s)
  first_there v is = ap (λ (u : View M). get_elem? u.passes 0) is ∙ ap (λ ps. get_elem? ps 0) passes_are

  pub dealt_is : (v : View M) → v ≡ dealing_view places s (n - s) → dealt v ≡ dealing_view places (s + 1) (n - (s + 1))
  dealt_is v is = ap dealt is ∙ ((λ i. dealt (record { passes = passes_are i; owner = Some (fresh_owner places); seen = [] }))
      ∙ ap (λ k. dealing_view places k (n - (s + 1))) (let e : suc s ≡ s + 1 = omega arith in e))

  pub first_is : (v : View M) → v ≡ dealing_view places s (n - s) → first_dealt v ≡ fresh_view places s
  first_is v is = ap first_dealt is ∙ (λ i. first_dealt (record { passes = passes_are i; owner = Some (fresh_owner places); seen = [] }))

map_none : (M : Type 0) (n : ℕ) → map (λ kept. map (own_mark {M = M}) kept) (replicate n []) ≡ replicate n []
map_none M zero = refl
map_none M (suc n) = ap (λ (ks : List (List OwnMark)). [] ∷ ks) (map_none M n)

pub fresh_is : {M : Type 0} (places s : ℕ) (own : List (List OwnMark)) (v : View M) → own ≡ replicate places [] → v ≡ fresh_view places s → IsPass s phase.Idle own v
fresh_is {M} places s own v own_is is = subst (λ ks. IsPass s phase.Idle ks v) (sym own_is) (subst (IsPass s phase.Idle (replicate places [])) (sym is) (record {
  view = (refl, refl);
  number = refl;
  phase_is = refl;
  own_is = map_none M places;
  no_ring = refl;
  no_look = refl;
}))

one_more : {X : Type 0} (xs : List X) (x d : X) (n k : ℕ) (P : ℕ → X → Type 0) → length xs ≡ n → ((i : ℕ) → i < n → P i (get_or xs i d)) → P n x → k < n + 1 → P k (get_or (xs ++ x ∷ []) k d)
one_more xs x d n k P wide each here near = elim (cases_lt k n) [
  | inl first ↦ subst (P k) (sym (get_or-append xs (x ∷ []) d k (omega arith))) (each k first)
  | inr past ↦ let same : n ≡ k = omega arith in
      subst (λ i. P i (get_or (xs ++ x ∷ []) i d)) same (subst (P n) (sym (get_or-append_right xs (x ∷ []) n n d wide (omega arith) ∙ ap (λ i. get_or (x ∷ []) i d) (let e : n - n ≡ 0 = omega arith in e))) here)
]

pub dealt_more : {M A : Type 0} (view : A → View M) (places n : ℕ) (xs all : List A) (x : A) → all ≡ xs ++ x ∷ [] → view x ≡ fresh_view places n → AreDealt places (map view xs) n → AreDealt places (map view all) (n + 1)
dealt_more view places n xs all x is fresh o = record {
  count = ap (λ ys. length (map view ys)) is ∙ let c = o.count in omega (arith, length-map (xs ++ x ∷ []) view, length-map xs view, length-append xs (x ∷ []));
  fresh = λ k d near. ap (λ ys. get_or ys k d) (ap (map view) is ∙ map-append view xs (x ∷ [])) ∙ one_more (map view xs) (view x) d n k (λ i v. v ≡ fresh_view places i) o.count (λ i below. o.fresh i d below) fresh near;
}
