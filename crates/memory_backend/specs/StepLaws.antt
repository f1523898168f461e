-- The entries of steps, one after another.
use Rattle.std.proofs.Common.{◌≡◌, ℕ, List, [], ◌∷◌, ◌++◌, refl, sym, ap, subst, ◌∙◌, append_assoc}
use Rattle.std.proofs.lemmas.List.{append-nil}
use Rattle.turn_cell.specs.declared.entry.Caller.{Caller}
use Rattle.turn_cell.specs.Passes.{pass_number, pass_own, pass_seen}
use Rattle.path_walk.specs.Programs.{Step}
use Rattle.cell_runs.specs.Scripts.{RiseAfter}
use Rattle.cell_runs.proofs.Making.{rise_on}
use Rattle.memory_backend.specs.CellSteps.{EntersAll, PassRan, StoreEntry, StorePass}

pub ran_none : (backends : ℕ) (caller : Caller) (pass : StorePass) → PassRan backends caller [] pass pass
ran_none backends caller pass = ([], refl, sym (append-nil (pass_own pass)), sym (append-nil (pass_seen pass)), tt, refl, λ id openings is. is)

enter_on : (backends runner : ℕ) (caller : Caller) (steps more : List Step) (xs ys : List StoreEntry) → EntersAll backends runner caller steps xs → EntersAll backends runner caller more ys → EntersAll backends runner caller (steps ++ more) (xs ++ ys)
enter_on backends runner caller [] more xs ys a b = subst (EntersAll backends runner caller more) (sym (ap (λ (l : List StoreEntry). l ++ ys) a)) b
enter_on backends runner caller (step ∷ steps) more xs ys (own, rest, is, first, others) b =
    (own, rest ++ ys, ap (λ (l : List StoreEntry). l ++ ys) is ∙ append_assoc own rest ys, first, enter_on backends runner caller steps more rest ys others b)

joined : (backends runner other : ℕ) (caller : Caller) (steps more : List Step) (xs ys : List StoreEntry) → other ≡ runner → EntersAll backends runner caller steps xs → EntersAll backends other caller more ys → EntersAll backends runner caller (steps ++ more) (xs ++ ys)
joined backends runner other caller steps more xs ys same a b = enter_on backends runner caller steps more xs ys a (subst (λ (n : ℕ). EntersAll backends n caller more ys) same b)

ran_from : (backends : ℕ) (caller : Caller) (steps more : List Step) (p q r : StorePass) → PassRan backends caller steps p q → PassRan backends caller more q r → PassRan backends caller (steps ++ more) p r
ran_from backends caller steps more p q r (xs, first, own, seen, rise, number, stays) (ys, second, own_on, seen_on, rise_above, number_on, stays_on) = (
  xs ++ ys,
  joined backends (pass_number p) (pass_number q) caller steps more xs ys number first second,
  own_on ∙ ap (λ (l : List StoreEntry). l ++ ys) own ∙ append_assoc (pass_own p) xs ys,
  seen_on ∙ ap (λ (l : List StoreEntry). l ++ ys) seen ∙ append_assoc (pass_seen p) xs ys,
  rise_on (pass_seen p) xs ys rise (subst (λ (l : List StoreEntry). RiseAfter l ys) seen rise_above),
  number_on ∙ number,
  λ id openings is. stays_on id openings (stays id openings is),
)

-- the backends and the caller stay as they are
pub ran_on : (backends second third : ℕ) (caller next last : Caller) (steps more : List Step) (p q r : StorePass)
    → PassRan backends caller steps p q × (second ≡ backends) × (next ≡ caller)
    → PassRan second next more q r × (third ≡ second) × (last ≡ next)
    → PassRan backends caller (steps ++ more) p r × (third ≡ backends) × (last ≡ caller)
ran_on backends second third caller next last steps more p q r (first, count, who) (rest, count_on, who_on) = (
  ran_from backends caller steps more p q r first
      (subst (λ (n : ℕ). PassRan n caller more q r) count (subst (λ (c : Caller). PassRan second c more q r) who rest)),
  count_on ∙ count,
  who_on ∙ who,
)
