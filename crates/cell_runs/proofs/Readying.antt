-- Scripts before they are run, and behind their ends.
use Rattle.std.proofs.Common.{◌≡◌, List, [], ◌∷◌, ◌++◌, length, map, refl, sym, ap, ◌∙◌, append_assoc, arith}
use Rattle.std.specs.Prelude.{Vec}
use Rattle.std.specs.Global.{Global}
use Rattle.std.proofs.lemmas.List.{append-nil}
use mathlib.Core.List.{map-append}
use Rattle.cell_runs.specs.declared.script.Script.{Script}
use Rattle.cell_runs.specs.declared.script.Script.TheVariants.{Ready}
use Rattle.cell_runs.specs.Scripts.{ready_with}

pub none_left : {X : Type 0} (xs : List X) → length xs ≡ 0 → xs ≡ []
none_left [] none = refl
none_left (x ∷ xs) none = absurd (omega arith)

module _ {C R P : Type 0} where
  ready_none : (scripts : List (Vec C Global)) → ready_with {R = R} {P = P} scripts [] ≡ []
  ready_none [] = refl
  ready_none (calls ∷ more) = refl

  pub ready_next : (ready grown : List (Script C R P)) (left more : List (Vec C Global)) (passes others : List P) (calls : Vec C Global) (pass : P) (all : List (Script C R P))
      → left ≡ calls ∷ more → passes ≡ pass ∷ others → grown ≡ ready ++ Ready calls pass ∷ [] → ready ++ ready_with left passes ≡ all → grown ++ ready_with more others ≡ all
  ready_next ready grown left more passes others calls pass all taken dealt grows is =
      ap (λ (l : List (Script C R P)). l ++ ready_with more others) grows ∙ append_assoc ready (Ready calls pass ∷ []) (ready_with more others)
      ∙ ap (λ (l : List (Script C R P)). ready ++ l) (λ i. ready_with (sym taken i) (sym dealt i)) ∙ is

  pub ready_end : (ready : List (Script C R P)) (left : List (Vec C Global)) (passes : List P) (all : List (Script C R P)) → passes ≡ [] → ready ++ ready_with left passes ≡ all → ready ≡ all
  ready_end ready left passes all none is = sym (append-nil ready) ∙ ap (λ (l : List (Script C R P)). ready ++ l) (sym (ap (ready_with left) none ∙ ready_none left)) ∙ is

  pub ready_short : (ready : List (Script C R P)) (left : List (Vec C Global)) (passes : List P) (all : List (Script C R P)) → left ≡ [] → ready ++ ready_with left passes ≡ all → ready ≡ all
  ready_short ready left passes all none is = sym (append-nil ready) ∙ ap (λ (l : List (Script C R P)). ready ++ l) (sym (ap (λ (l : List (Vec C Global)). ready_with l passes) none)) ∙ is

-- one element more, of two lists that are alike under these
pub both_more : {X Y Z : Type 0} (f : X → Z) (g : Y → Z) (xs : List X) (ys more : List Y) (x : X) (y : Y) → f x ≡ g y → more ≡ ys ++ y ∷ [] → map f xs ≡ map g ys → map f (xs ++ x ∷ []) ≡ map g more
both_more f g xs ys more x y same grows is =
    map-append f xs (x ∷ []) ∙ (λ i. is i ++ same i ∷ []) ∙ sym (map-append g ys (y ∷ [])) ∙ ap (map g) (sym grows)
