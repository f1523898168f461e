-- The entries of a call, by the steps that it took.
use Rattle.std.proofs.Common.{◌≡◌, ℕ, zero, suc, List, [], ◌∷◌, ◌++◌, map, IsErr, sym, ap, subst, ◌∙◌}
use mathlib.Core.Option.{some-injective}
use Rattle.turn_cell.specs.declared.entry.Caller.{Caller}
use Rattle.path_walk.specs.declared.call.Reply.{Reply}
use Rattle.path_walk.specs.Programs.{Program, Step, Takes, asks, finished}
use Rattle.path_walk.specs.Backing.{IsCellOf}
use Rattle.memory_backend.specs.declared.cell.CellOp.{CellOp}
use Rattle.memory_backend.specs.CellNumbers.{cell_of}
use Rattle.memory_backend.specs.CellSteps.{EntersAll, EntersOnce, IsEntryOf, StoreEntry}
use Rattle.cell_runs.specs.Runs.{AreStepsOf}
use Rattle.thread_runs.specs.StoreRuns.{ArePlaced, IsPlaced, step_in}

step_is : (backends runner : ℕ) (caller : Caller) (step : Step) (known : StoreEntry) → IsEntryOf backends runner caller step known → step_in known ≡ step
step_is backends runner caller step known e = λ i. record { cell = (e.op i).cell; op = (e.op i).op; outcome = sym e.answer i }

one_taken : (backends runner : ℕ) (caller : Caller) (step : Step) (steps : List Step) (own rest : List StoreEntry) → EntersOnce backends runner caller step own → (IsErr step.outcome → ⊥) → map step_in rest ≡ steps → map step_in (own ++ rest) ≡ step ∷ steps
one_taken backends runner caller step steps [] rest once answered more = absurd (answered once)
one_taken backends runner caller step steps (known ∷ []) rest once answered more = λ i. step_is backends runner caller step known once i ∷ more i
one_taken backends runner caller step steps (known ∷ other ∷ last) rest once answered more = absurd once

-- the entries are those of the steps
pub taken : (backends runner : ℕ) (caller : Caller) (program : Program) (steps : List Step) (entries : List StoreEntry) (reply : Reply) → Takes program steps reply → EntersAll backends runner caller steps entries → map step_in entries ≡ steps
taken backends runner caller (finished given) [] entries reply takes enters = ap (map step_in) enters
taken backends runner caller (finished given) (step ∷ steps) entries reply takes enters = absurd takes
taken backends runner caller (asks cell op next) [] entries reply takes enters = absurd takes
taken backends runner caller (asks cell op next) (step ∷ steps) entries reply (answer, is, more) (own, rest, parts, once, others) =
    ap (map step_in) parts
    ∙ one_taken backends runner caller step steps own rest once (λ failed. let clash = subst IsErr (ap (λ (s : Step). s.outcome) is) failed in absurd (cc)) (taken backends runner caller (next answer) steps rest reply more others)

are_more : (runner number : ℕ) (known : StoreEntry) (rest : List StoreEntry) → known.entry.runner ≡ runner → known.entry.caller ≡ record { thread = runner; call = number } → AreStepsOf runner number rest → AreStepsOf runner number (known ∷ rest)
are_more runner number known rest runs called more zero k at =
    let is : known ≡ k = some-injective known k at in (
      ap (λ (z : StoreEntry). z.entry.runner) (sym is) ∙ runs,
      ap (λ (z : StoreEntry). z.entry.caller.thread) (sym is) ∙ ap (λ (c : Caller). c.thread) called,
      ap (λ (z : StoreEntry). z.entry.caller.call) (sym is) ∙ ap (λ (c : Caller). c.call) called,
    )
are_more runner number known rest runs called more (suc i) k at = more i k at

one_called : (backends runner number : ℕ) (step : Step) (own rest : List StoreEntry) → EntersOnce backends runner (record { thread = runner; call = number }) step own → AreStepsOf runner number rest → AreStepsOf runner number (own ++ rest)
one_called backends runner number step [] rest once more = more
one_called backends runner number step (known ∷ []) rest once more = are_more runner number known rest once.runner_is once.caller_is more
one_called backends runner number step (known ∷ other ∷ last) rest once more = absurd once

-- each is of the call for which the steps were taken
pub of_call : (backends runner number : ℕ) (steps : List Step) (entries : List StoreEntry) → EntersAll backends runner (record { thread = runner; call = number }) steps entries → AreStepsOf runner number entries
of_call backends runner number [] entries enters = subst (AreStepsOf runner number) (sym enters) (λ i k at. absurd (cc))
of_call backends runner number (step ∷ steps) entries (own, rest, parts, once, others) =
    subst (AreStepsOf runner number) (sym parts) (one_called backends runner number step own rest once (of_call backends runner number steps rest others))

place_of : (backends runner : ℕ) (caller : Caller) (step : Step) (known : StoreEntry) → IsEntryOf backends runner caller step known → IsPlaced backends known
place_of backends runner caller step known once = (
  once.cell ∙ sym (ap (λ (o : CellOp). cell_of backends o.cell) once.op),
  subst (λ (o : CellOp). IsCellOf backends o.cell o.op) (sym once.op) once.fits,
)

place_more : (backends : ℕ) (known : StoreEntry) (rest : List StoreEntry) → IsPlaced backends known → ArePlaced backends rest → ArePlaced backends (known ∷ rest)
place_more backends known rest first more zero k at = subst (IsPlaced backends) (some-injective known k at) first
place_more backends known rest first more (suc i) k at = more i k at

one_placed : (backends runner : ℕ) (caller : Caller) (step : Step) (own rest : List StoreEntry) → EntersOnce backends runner caller step own → ArePlaced backends rest → ArePlaced backends (own ++ rest)
one_placed backends runner caller step [] rest once more = more
one_placed backends runner caller step (known ∷ []) rest once more = place_more backends known rest (place_of backends runner caller step known once) more
one_placed backends runner caller step (known ∷ other ∷ last) rest once more = absurd once

-- each was taken on the cell that its operation names
pub placed : (backends runner : ℕ) (caller : Caller) (steps : List Step) (entries : List StoreEntry) → EntersAll backends runner caller steps entries → ArePlaced backends entries
placed backends runner caller [] entries enters = subst (ArePlaced backends) (sym enters) (λ i k at. absurd (cc))
placed backends runner caller (step ∷ steps) entries (own, rest, parts, once, others) =
    subst (ArePlaced backends) (sym parts) (one_placed backends runner caller step own rest once (placed backends runner caller steps rest others))
